use Rattle.mps_model_examples.proofs.Flipped as history
use Rattle.mps_model_examples.proofs.flipped_is_legal.Goals as goal

pub returns : goal.returns
returns c = history.flipped_is_legal
