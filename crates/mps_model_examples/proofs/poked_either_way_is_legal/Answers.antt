use Rattle.mps_model_examples.proofs.PokedEitherWay as history
use Rattle.mps_model_examples.proofs.poked_either_way_is_legal.Goals as goal

pub returns : goal.returns
returns c = history.poked_either_way_is_legal
