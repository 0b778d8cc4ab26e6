use Rattle.mps_model_examples.proofs.WholeCollections as history
use Rattle.mps_model_examples.proofs.registered_without_post.Goals as goal

pub returns : goal.returns
returns c = history.registered_without_post
