use Rattle.mps_refusal_examples.proofs.Placing as table
use Rattle.mps_refusal_examples.proofs.gaps_are_by_rank.Goals as goal

pub returns : goal.returns
returns c = table.gaps_are_by_rank
