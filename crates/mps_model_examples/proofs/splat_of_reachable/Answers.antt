use Rattle.mps_model_examples.proofs.WrongMoves as history
use Rattle.mps_model_examples.proofs.splat_of_reachable.Goals as goal

pub returns : goal.returns
returns c = history.splat_of_reachable
