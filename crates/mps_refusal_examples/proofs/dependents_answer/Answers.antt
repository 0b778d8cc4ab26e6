use Rattle.mps_refusal_examples.proofs.Dependents as history
use Rattle.mps_refusal_examples.proofs.dependents_answer.Goals as goal

pub returns : goal.returns
returns c = history.dependents_answer
