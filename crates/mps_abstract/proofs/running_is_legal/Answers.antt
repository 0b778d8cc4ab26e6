use Rattle.mps_abstract.proofs.LeftRightly.{left_rightly}
use Rattle.mps_abstract.proofs.running_is_legal.Goals as goal

pub returns : goal.returns
returns c = left_rightly
