use Rattle.mps_model_examples.proofs.WrongUnits as history
use Rattle.mps_model_examples.proofs.collect_without_moves.Goals as goal

pub returns : goal.returns
returns c = history.collect_without_moves
