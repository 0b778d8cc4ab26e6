use Rattle.mps_refusal_examples.proofs.Collecting as table
use Rattle.mps_refusal_examples.proofs.finalization_answers.Goals as goal

pub returns : goal.returns
returns c = table.finalization_answers
