use Rattle.mps_refinement.proofs.Following.Laws.{followed_worlds_stay_right}
use Rattle.mps_refinement.proofs.followed_worlds_stay_right.Goals as goal

pub returns : goal.returns
returns c = followed_worlds_stay_right
