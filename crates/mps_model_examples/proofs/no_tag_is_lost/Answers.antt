use Rattle.mps_model_examples.proofs.Labelled as history
use Rattle.mps_model_examples.proofs.no_tag_is_lost.Goals as goal

pub returns : goal.returns
returns c = history.no_tag_is_lost
