use Rattle.mps_model_examples.proofs.WrongUnits as history
use Rattle.mps_model_examples.proofs.start_does_all.Goals as goal

pub returns : goal.returns
returns c = history.start_does_all
