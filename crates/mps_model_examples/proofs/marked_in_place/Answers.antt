use Rattle.mps_model_examples.proofs.WrongMoves as history
use Rattle.mps_model_examples.proofs.marked_in_place.Goals as goal

pub returns : goal.returns
returns c = history.marked_in_place
