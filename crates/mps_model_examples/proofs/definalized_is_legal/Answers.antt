use Rattle.mps_model_examples.proofs.Definalized as history
use Rattle.mps_model_examples.proofs.definalized_is_legal.Goals as goal

pub returns : goal.returns
returns c = history.definalized_is_legal
