use Rattle.mps_model_examples.proofs.Finalized as history
use Rattle.mps_model_examples.proofs.finalized_is_legal.Goals as goal

pub returns : goal.returns
returns c = history.finalized_is_legal
