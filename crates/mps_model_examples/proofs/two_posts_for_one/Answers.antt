use Rattle.mps_model_examples.proofs.WrongMoves as history
use Rattle.mps_model_examples.proofs.two_posts_for_one.Goals as goal

pub returns : goal.returns
returns c = history.two_posts_for_one
