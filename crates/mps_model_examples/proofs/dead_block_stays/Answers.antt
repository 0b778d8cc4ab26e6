use Rattle.mps_model_examples.proofs.WholeCollections as history
use Rattle.mps_model_examples.proofs.dead_block_stays.Goals as goal

pub returns : goal.returns
returns c = history.dead_block_stays
