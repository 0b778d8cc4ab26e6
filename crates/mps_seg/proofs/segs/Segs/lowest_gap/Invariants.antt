use Rattle.std.proofs.Common.{◌≡◌, ◌≤◌, ◌-◌, length, drop}
use Rattle.mps_base.specs.Run.{lowest_fitting}
use Rattle.mps_seg.proofs.OpenGaps.{later_gaps}
use Rattle.mps_seg.proofs.segs.Segs.lowest_gap.Given as goal

-- the lowest gap that fits lies in the segments from the grain on
abbrev pub invariant-loop-grain : goal.invariant-loop-grain
invariant-loop-grain l =
    (l.from ≤ length l.self-inside.table.items)
    × (lowest_fitting l.words (later_gaps l.self-inside.extents.covered l.pool l.rank l.from (drop l.from l.self-inside.table.items))
    ≡ lowest_fitting l.words (later_gaps l.self-inside.extents.covered l.pool l.rank 0 l.self-inside.table.items))

abbrev pub decreases-loop-grain : goal.decreases-loop-grain
decreases-loop-grain l = length l.self-inside.table.items - l.from
