use Rattle.mps_blocks.proofs.Ascending.{blocks_ascend}
use Rattle.mps_blocks.proofs.laws.live_blocks_ascend.Goals as goal

pub returns : goal.returns
returns c = λ records s e. blocks_ascend records s e
