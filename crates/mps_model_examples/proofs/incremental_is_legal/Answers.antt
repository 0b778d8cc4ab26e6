use Rattle.mps_model_examples.proofs.Incremental as history
use Rattle.mps_model_examples.proofs.incremental_is_legal.Goals as goal

pub returns : goal.returns
returns c = history.incremental_is_legal
