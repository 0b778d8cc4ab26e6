use Rattle.std.proofs.Common.{◌≤◌}
use Rattle.mps_bits.specs.Row.{IsClear}
use Rattle.mps_bits.proofs.words.highest_set.Given as goal

abbrev pub invariant-loop-end : goal.invariant-loop-end
invariant-loop-end l = record { within : l.end ≤ l.to; clear : IsClear l.words l.end l.to }

abbrev pub decreases-loop-end : goal.decreases-loop-end
decreases-loop-end l = l.end
