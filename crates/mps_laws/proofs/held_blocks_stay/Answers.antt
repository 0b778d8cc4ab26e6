use Rattle.mps_laws.proofs.Staying.{held_blocks_stay, held_throughout_stays}
use Rattle.mps_laws.proofs.held_blocks_stay.Goals as goal

pub returns : goal.returns
returns c = record { while_live = held_blocks_stay; held = held_throughout_stays }
