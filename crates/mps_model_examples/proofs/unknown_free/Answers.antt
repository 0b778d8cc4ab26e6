use Rattle.mps_model_examples.proofs.WrongMoves as history
use Rattle.mps_model_examples.proofs.unknown_free.Goals as goal

pub returns : goal.returns
returns c = history.unknown_free
