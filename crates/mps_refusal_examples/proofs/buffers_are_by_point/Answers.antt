use Rattle.mps_refusal_examples.proofs.Placing as table
use Rattle.mps_refusal_examples.proofs.buffers_are_by_point.Goals as goal

pub returns : goal.returns
returns c = table.buffers_are_by_point
