use Rattle.mps_refusal_examples.proofs.Transforms as history
use Rattle.mps_refusal_examples.proofs.transforms_answer.Goals as goal

pub returns : goal.returns
returns c = history.transforms_answer
