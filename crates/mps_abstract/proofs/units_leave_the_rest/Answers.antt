use Rattle.mps_abstract.proofs.Leavings.{units_leave_the_rest}
use Rattle.mps_abstract.proofs.units_leave_the_rest.Goals as goal

pub returns : goal.returns
returns c = units_leave_the_rest
