use Rattle.mps_model_examples.proofs.Depending as history
use Rattle.mps_model_examples.proofs.depending_is_legal.Goals as goal

pub returns : goal.returns
returns c = history.depending_is_legal
