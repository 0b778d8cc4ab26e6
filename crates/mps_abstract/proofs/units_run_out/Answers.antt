use Rattle.mps_abstract.proofs.Rows.{units_done, last_units_done}
use Rattle.mps_abstract.proofs.units_run_out.Goals as goal

pub returns : goal.returns
returns c = (units_done, last_units_done)
