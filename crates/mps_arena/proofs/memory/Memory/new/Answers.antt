use Rattle.mps_arena.proofs.Padded.{state_new}
use Rattle.mps_arena.proofs.memory.Memory.new.Goals as goal

pub returns : goal.returns
returns c = state_new c.args.size c.in_ok-stored.stored.items c.in_ok-stored.ensures.items
