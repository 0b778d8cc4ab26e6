use Rattle.mps_model_examples.proofs.WrongUnits as history
use Rattle.mps_model_examples.proofs.reclaimed_downwards.Goals as goal

pub returns : goal.returns
returns c = history.reclaimed_downwards
