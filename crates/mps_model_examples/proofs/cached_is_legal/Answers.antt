use Rattle.mps_model_examples.proofs.Cached as history
use Rattle.mps_model_examples.proofs.cached_is_legal.Goals as goal

pub returns : goal.returns
returns c = history.cached_is_legal
