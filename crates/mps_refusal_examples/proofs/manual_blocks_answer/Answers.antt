use Rattle.mps_refusal_examples.proofs.Allocating as table
use Rattle.mps_refusal_examples.proofs.manual_blocks_answer.Goals as goal

pub returns : goal.returns
returns c = table.manual_blocks_answer
