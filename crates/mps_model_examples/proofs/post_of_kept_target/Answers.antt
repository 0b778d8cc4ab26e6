use Rattle.mps_model_examples.proofs.KeptReferences as history
use Rattle.mps_model_examples.proofs.post_of_kept_target.Goals as goal

pub returns : goal.returns
returns c = history.post_of_kept_target
