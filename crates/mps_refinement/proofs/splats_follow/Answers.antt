use Rattle.mps_refinement.proofs.Following.Laws.{splats_follow}
use Rattle.mps_refinement.proofs.splats_follow.Goals as goal

pub returns : goal.returns
returns c = splats_follow
