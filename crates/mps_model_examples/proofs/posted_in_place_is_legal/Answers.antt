use Rattle.mps_model_examples.proofs.PostedInPlace as history
use Rattle.mps_model_examples.proofs.posted_in_place_is_legal.Goals as goal

pub returns : goal.returns
returns c = history.posted_in_place_is_legal
