use Rattle.mps_model_examples.proofs.Framed as history
use Rattle.mps_model_examples.proofs.framed_is_legal.Goals as goal

pub returns : goal.returns
returns c = history.framed_is_legal
