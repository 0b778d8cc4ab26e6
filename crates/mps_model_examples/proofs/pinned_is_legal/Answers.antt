use Rattle.mps_model_examples.proofs.Pinned as history
use Rattle.mps_model_examples.proofs.pinned_is_legal.Goals as goal

pub returns : goal.returns
returns c = history.pinned_is_legal
