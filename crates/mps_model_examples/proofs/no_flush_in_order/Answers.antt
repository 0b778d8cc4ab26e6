use Rattle.mps_model_examples.proofs.Cached as history
use Rattle.mps_model_examples.proofs.no_flush_in_order.Goals as goal

pub returns : goal.returns
returns c = history.no_flush_in_order
