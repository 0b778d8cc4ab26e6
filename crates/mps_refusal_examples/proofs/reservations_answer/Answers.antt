use Rattle.mps_refusal_examples.proofs.Allocating as table
use Rattle.mps_refusal_examples.proofs.reservations_answer.Goals as goal

pub returns : goal.returns
returns c = table.reservations_answer
