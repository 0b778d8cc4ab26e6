use Rattle.mps_model_examples.proofs.WrongUnits as history
use Rattle.mps_model_examples.proofs.two_units_for_one.Goals as goal

pub returns : goal.returns
returns c = history.two_units_for_one
