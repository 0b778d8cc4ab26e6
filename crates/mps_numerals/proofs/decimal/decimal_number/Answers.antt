-- What is read was written so, and what is written is read.
use Rattle.mps_numerals.proofs.Decimals.{sound_reading, complete_reading}
use Rattle.mps_numerals.proofs.decimal.decimal_number.Goals as goal

pub returns-clause-sound : goal.returns-clause-sound
returns-clause-sound c = sound_reading c.args.text.now c.number_in.result c.number_in.ensures

pub returns-clause-complete : goal.returns-clause-complete
returns-clause-complete c = λ n fits e. complete_reading c.args.text.now c.number_in.result n c.number_in.ensures fits e
