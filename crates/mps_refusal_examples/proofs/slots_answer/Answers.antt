use Rattle.mps_refusal_examples.proofs.Accessing as table
use Rattle.mps_refusal_examples.proofs.slots_answer.Goals as goal

pub returns : goal.returns
returns c = table.slots_answer
