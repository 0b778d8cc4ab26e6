use Rattle.mps_model_examples.proofs.Cached as history
use Rattle.mps_model_examples.proofs.the_first_cached_stays.Goals as goal

pub returns : goal.returns
returns c = history.the_first_cached_stays
