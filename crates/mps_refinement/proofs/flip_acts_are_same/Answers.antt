use Rattle.mps_refinement.proofs.Following.Laws.{flip_acts_are_same}
use Rattle.mps_refinement.proofs.flip_acts_are_same.Goals as goal

pub returns : goal.returns
returns c = flip_acts_are_same
