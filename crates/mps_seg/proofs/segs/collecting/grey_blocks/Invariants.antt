use Rattle.std.proofs.Common.{◌≡◌, ◌-◌, length}
use Rattle.mps_base.specs.Run.{runs_within}
use Rattle.mps_seg.specs.Collecting.{all_grey}
use Rattle.mps_seg.proofs.segs.collecting.grey_blocks.Given as goal

-- what is left to do makes of the marks now what the whole makes of those at first
abbrev pub invariant-loop-at : goal.invariant-loop-at
invariant-loop-at l =
    (all_grey l.rank (runs_within l.from l.high l.extents.blocks) l.marks
    ≡ all_grey l.rank (runs_within l.low l.high l.extents.blocks) l.initial.marks)
    × (length l.marks.kept ≡ length l.initial.marks.kept)

abbrev pub decreases-loop-at : goal.decreases-loop-at
decreases-loop-at l = l.high - l.from
