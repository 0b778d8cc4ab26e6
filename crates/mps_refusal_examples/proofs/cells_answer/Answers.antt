use Rattle.mps_refusal_examples.proofs.Accessing as table
use Rattle.mps_refusal_examples.proofs.cells_answer.Goals as goal

pub returns : goal.returns
returns c = table.cells_answer
