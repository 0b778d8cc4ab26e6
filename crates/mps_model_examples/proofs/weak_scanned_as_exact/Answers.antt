use Rattle.mps_model_examples.proofs.WrongUnits as history
use Rattle.mps_model_examples.proofs.weak_scanned_as_exact.Goals as goal

pub returns : goal.returns
returns c = history.weak_scanned_as_exact
