use Rattle.std.proofs.Common.{◌-◌}
use Rattle.mps_seg.proofs.Unmarked.{AreUnmarkedBelow}
use Rattle.mps_seg.proofs.segs.freeing.clear_each.Given as goal

abbrev pub invariant-loop-at : goal.invariant-loop-at
invariant-loop-at l = AreUnmarkedBelow l.low l.high l.from l.extents.blocks l.initial.marks l.marks

abbrev pub decreases-loop-at : goal.decreases-loop-at
decreases-loop-at l = l.high - l.from
