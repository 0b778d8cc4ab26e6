use Rattle.std.proofs.Common.{◌≡◌, ℕ, ◌+◌, ◌≤◌, ◌-◌, List, length, drop}
use Rattle.mps_base.specs.Run.{lowest_fitting}
use Rattle.mps_arena.specs.Arena.{ArenaMemory}
use Rattle.mps_seg.specs.Table.{IsHeld, AreGapsBounded}
use Rattle.mps_seg.proofs.OpenGaps.{later_gaps}
use Rattle.mps_seg.proofs.segs.gaps.search.Given as goal

-- the lowest gap that fits lies in the segments from the grain on, and bounds stay bounds
abbrev pub invariant-loop-grain : goal.invariant-loop-grain
invariant-loop-grain l =
    (l.from ≤ length l.table)
    × (lowest_fitting l.words (later_gaps l.extents.covered l.pool l.rank l.from (drop l.from l.table))
    ≡ lowest_fitting l.words (later_gaps l.extents.covered l.pool l.rank 0 l.table))
    × ((arena : ArenaMemory) (firsts : List ℕ) → IsHeld arena l.table l.extents
    → AreGapsBounded arena.held (arena.grains + 1) firsts l.initial.bounds l.extents.covered
    → AreGapsBounded arena.held (arena.grains + 1) firsts l.bounds l.extents.covered)

abbrev pub decreases-loop-grain : goal.decreases-loop-grain
decreases-loop-grain l = length l.table - l.from
