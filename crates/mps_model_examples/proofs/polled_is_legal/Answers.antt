use Rattle.mps_model_examples.proofs.Polled as history
use Rattle.mps_model_examples.proofs.polled_is_legal.Goals as goal

pub returns : goal.returns
returns c = history.polled_is_legal
