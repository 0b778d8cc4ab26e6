use Rattle.mps_model_examples.proofs.Generations as history
use Rattle.mps_model_examples.proofs.generations_is_legal.Goals as goal

pub returns : goal.returns
returns c = history.generations_is_legal
