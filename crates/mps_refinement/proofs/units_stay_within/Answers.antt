use Rattle.mps_refinement.proofs.Left.Within.{units_stay_within}
use Rattle.mps_refinement.proofs.units_stay_within.Goals as goal

pub returns : goal.returns
returns g c = units_stay_within
