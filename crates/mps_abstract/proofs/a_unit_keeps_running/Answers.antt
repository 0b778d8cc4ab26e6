use Rattle.mps_abstract.proofs.Rows.{unit_done, last_unit_done}
use Rattle.mps_abstract.proofs.a_unit_keeps_running.Goals as goal

pub returns : goal.returns
returns c = (unit_done, last_unit_done)
