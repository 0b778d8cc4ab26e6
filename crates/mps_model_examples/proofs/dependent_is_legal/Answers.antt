use Rattle.mps_model_examples.proofs.Dependent as history
use Rattle.mps_model_examples.proofs.dependent_is_legal.Goals as goal

pub returns : goal.returns
returns c = history.dependent_is_legal
