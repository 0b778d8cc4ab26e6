use Rattle.mps_model_examples.proofs.Manual as history
use Rattle.mps_model_examples.proofs.manual_is_legal.Goals as goal

pub returns : goal.returns
returns c = history.manual_is_legal
