use Rattle.mps_model_examples.proofs.OneBlock as history
use Rattle.mps_model_examples.proofs.one_block_is_legal.Goals as goal

pub returns : goal.returns
returns c = history.one_block_is_legal
