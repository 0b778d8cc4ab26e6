use Rattle.mps_refusal_examples.proofs.Making as table
use Rattle.mps_refusal_examples.proofs.arena_answers.Goals as goal

pub returns : goal.returns
returns c = table.arena_answers
