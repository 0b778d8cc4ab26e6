use Rattle.mps_model_examples.proofs.WhiteScan as history
use Rattle.mps_model_examples.proofs.barrier_over_white.Goals as goal

pub returns : goal.returns
returns c = history.barrier_over_white
