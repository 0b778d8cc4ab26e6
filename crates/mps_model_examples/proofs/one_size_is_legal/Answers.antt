use Rattle.mps_model_examples.proofs.OneSize as history
use Rattle.mps_model_examples.proofs.one_size_is_legal.Goals as goal

pub returns : goal.returns
returns c = history.one_size_is_legal
