use Rattle.std.proofs.Common.{arith}
use Rattle.std.proofs.lemmas.Grind.{common_steps}
use Rattle.mps_event.proofs.Fields.{length-fields_in}
use Rattle.mps_event.proofs.record.RecordRef.count.Goals as goal

pub returns : goal.returns
returns c = grind (arith, common_steps, length-fields_in)
