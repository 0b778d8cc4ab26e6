use Rattle.mps_model_examples.proofs.Labelled as history
use Rattle.mps_model_examples.proofs.labelled_is_replayed.Goals as goal

pub returns : goal.returns
returns c = history.labelled_is_replayed
