use Rattle.mps_model_examples.proofs.Dependent as history
use Rattle.mps_model_examples.proofs.no_value_is_left.Goals as goal

pub returns : goal.returns
returns c = history.no_value_is_left
