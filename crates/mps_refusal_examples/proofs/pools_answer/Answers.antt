use Rattle.mps_refusal_examples.proofs.Making as table
use Rattle.mps_refusal_examples.proofs.pools_answer.Goals as goal

pub returns : goal.returns
returns c = table.pools_answer
