use Rattle.mps_gaps.specs.Bounds.{HasNone}
use Rattle.mps_gaps.proofs.gap_bounds.lowest_of_group.Given as goal

abbrev pub invariant-loop-i : goal.invariant-loop-i
invariant-loop-i l = HasNone l.least l.from l.i l.words
