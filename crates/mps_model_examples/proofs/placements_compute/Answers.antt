use Rattle.mps_model_examples.proofs.Placing as history
use Rattle.mps_model_examples.proofs.placements_compute.Goals as goal

pub returns : goal.returns
returns c = history.placements_compute
