use Rattle.mps_policy.proofs.Table.{HasHeld}
use Rattle.mps_policy.proofs.due.held_by_chains.Given as goal

-- each generation of each chain has the grains of the pools passed so far
abbrev pub invariant-loop-pool : goal.invariant-loop-pool
invariant-loop-pool l = HasHeld l.chains l.segs.segments l.pool l.held
