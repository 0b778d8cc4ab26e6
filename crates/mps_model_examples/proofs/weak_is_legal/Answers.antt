use Rattle.mps_model_examples.proofs.Weak as history
use Rattle.mps_model_examples.proofs.weak_is_legal.Goals as goal

pub returns : goal.returns
returns c = history.weak_is_legal
