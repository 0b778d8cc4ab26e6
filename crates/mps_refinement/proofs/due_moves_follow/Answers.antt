use Rattle.mps_refinement.proofs.Following.Laws.{due_moves_follow}
use Rattle.mps_refinement.proofs.due_moves_follow.Goals as goal

pub returns : goal.returns
returns c = due_moves_follow
