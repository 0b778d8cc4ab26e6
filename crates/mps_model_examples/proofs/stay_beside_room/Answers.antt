use Rattle.mps_model_examples.proofs.WrongMoves as history
use Rattle.mps_model_examples.proofs.stay_beside_room.Goals as goal

pub returns : goal.returns
returns c = history.stay_beside_room
