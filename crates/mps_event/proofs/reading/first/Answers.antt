use Rattle.std.proofs.Common.{◌∙◌, ap, arith}
use Rattle.mps_event.specs.Reading.{first_of}
use Rattle.mps_event.proofs.Records.{sound_reading, read_again}
use Rattle.mps_event.proofs.reading.first.Goals as goal

pub returns-clause-sound : goal.returns-clause-sound
returns-clause-sound c = sound_reading c.args.version c.args.ended c.args.bytes.now c.first_record.result
    (λ i. omega (arith, c.type_inv.bytes i)) c.first_record.ensures

pub returns-clause-complete : goal.returns-clause-complete
returns-clause-complete c = λ r rest grammar begins.
    c.first_record.ensures ∙ ap (first_of c.args.version c.args.ended) begins ∙ read_again c.args.version c.args.ended r rest grammar
