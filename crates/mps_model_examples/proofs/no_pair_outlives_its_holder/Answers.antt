use Rattle.mps_model_examples.proofs.Dependent as history
use Rattle.mps_model_examples.proofs.no_pair_outlives_its_holder.Goals as goal

pub returns : goal.returns
returns c = history.no_pair_outlives_its_holder
