use Rattle.mps_model_examples.proofs.Copying as history
use Rattle.mps_model_examples.proofs.copying_is_legal.Goals as goal

pub returns : goal.returns
returns c = history.copying_is_legal
