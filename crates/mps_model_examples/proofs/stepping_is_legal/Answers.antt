use Rattle.mps_model_examples.proofs.Stepping as history
use Rattle.mps_model_examples.proofs.stepping_is_legal.Goals as goal

pub returns : goal.returns
returns c = history.stepping_is_legal
