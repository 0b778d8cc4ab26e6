use Rattle.mps_refusal_examples.proofs.Allocating as table
use Rattle.mps_refusal_examples.proofs.init_stores.Goals as goal

pub returns : goal.returns
returns c = table.init_stores
