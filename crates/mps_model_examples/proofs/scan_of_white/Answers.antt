use Rattle.mps_model_examples.proofs.WhiteScan as history
use Rattle.mps_model_examples.proofs.scan_of_white.Goals as goal

pub returns : goal.returns
returns c = history.scan_of_white
