use Rattle.mps_model_examples.proofs.Transformed as history
use Rattle.mps_model_examples.proofs.transformed_is_legal.Goals as goal

pub returns : goal.returns
returns c = history.transformed_is_legal
