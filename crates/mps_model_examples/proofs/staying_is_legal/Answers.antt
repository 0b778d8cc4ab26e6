use Rattle.mps_model_examples.proofs.Staying as history
use Rattle.mps_model_examples.proofs.staying_is_legal.Goals as goal

pub returns : goal.returns
returns c = history.staying_is_legal
