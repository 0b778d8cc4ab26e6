use Rattle.mps_model_examples.proofs.Labelled as history
use Rattle.mps_model_examples.proofs.others_are_no_labels.Goals as goal

pub returns : goal.returns
returns c = history.others_are_no_labels
