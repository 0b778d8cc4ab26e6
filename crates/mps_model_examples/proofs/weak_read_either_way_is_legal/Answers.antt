use Rattle.mps_model_examples.proofs.WeakReadEitherWay as history
use Rattle.mps_model_examples.proofs.weak_read_either_way_is_legal.Goals as goal

pub returns : goal.returns
returns c = history.weak_read_either_way_is_legal
