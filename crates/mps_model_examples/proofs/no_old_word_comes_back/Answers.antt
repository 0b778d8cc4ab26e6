use Rattle.mps_model_examples.proofs.Cached as history
use Rattle.mps_model_examples.proofs.no_old_word_comes_back.Goals as goal

pub returns : goal.returns
returns c = history.no_old_word_comes_back
