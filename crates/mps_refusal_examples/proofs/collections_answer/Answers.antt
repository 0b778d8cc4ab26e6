use Rattle.mps_refusal_examples.proofs.Collecting as table
use Rattle.mps_refusal_examples.proofs.collections_answer.Goals as goal

pub returns : goal.returns
returns c = table.collections_answer
