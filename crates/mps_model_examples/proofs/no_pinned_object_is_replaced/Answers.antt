use Rattle.mps_model_examples.proofs.Transformed as history
use Rattle.mps_model_examples.proofs.no_pinned_object_is_replaced.Goals as goal

pub returns : goal.returns
returns c = history.no_pinned_object_is_replaced
