use Rattle.mps_refusal_examples.proofs.Making as table
use Rattle.mps_refusal_examples.proofs.roots_answer.Goals as goal

pub returns : goal.returns
returns c = table.roots_answer
