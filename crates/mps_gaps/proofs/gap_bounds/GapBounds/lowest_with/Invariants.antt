use Rattle.std.proofs.Common.{◌*◌, max}
use Rattle.mps_gaps.specs.Bounds.{HasNone, indexes_of_group}
use Rattle.mps_gaps.proofs.gap_bounds.GapBounds.lowest_with.Given as goal

abbrev pub invariant-loop-group : goal.invariant-loop-group
invariant-loop-group l = HasNone l.words l.from (max l.from (indexes_of_group * l.group)) l.self
