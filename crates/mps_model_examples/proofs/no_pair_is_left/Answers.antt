use Rattle.mps_model_examples.proofs.Transformed as history
use Rattle.mps_model_examples.proofs.no_pair_is_left.Goals as goal

pub returns : goal.returns
returns c = history.no_pair_is_left
