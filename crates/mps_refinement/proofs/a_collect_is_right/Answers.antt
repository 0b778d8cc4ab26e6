use Rattle.mps_refinement.proofs.Units.Outcomes.{a_collect_is_right}
use Rattle.mps_refinement.proofs.a_collect_is_right.Goals as goal

pub returns : goal.returns
returns g c = a_collect_is_right
