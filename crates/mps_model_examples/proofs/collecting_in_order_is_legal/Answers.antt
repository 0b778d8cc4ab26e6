use Rattle.mps_model_examples.proofs.CollectingInOrder as history
use Rattle.mps_model_examples.proofs.collecting_in_order_is_legal.Goals as goal

pub returns : goal.returns
returns c = history.collecting_in_order_is_legal
