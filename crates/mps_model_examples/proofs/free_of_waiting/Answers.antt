use Rattle.mps_model_examples.proofs.WrongMoves as history
use Rattle.mps_model_examples.proofs.free_of_waiting.Goals as goal

pub returns : goal.returns
returns c = history.free_of_waiting
