use Rattle.mps_model_examples.proofs.Finalized as history
use Rattle.mps_model_examples.proofs.posts_are_exact.Goals as goal

pub returns : goal.returns
returns c = history.posts_are_exact
