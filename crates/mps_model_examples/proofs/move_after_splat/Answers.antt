use Rattle.mps_model_examples.proofs.WrongMoves as history
use Rattle.mps_model_examples.proofs.move_after_splat.Goals as goal

pub returns : goal.returns
returns c = history.move_after_splat
