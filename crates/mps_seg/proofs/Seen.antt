-- What a caller sees of the tables, and what is always true of them.
use Rattle.std.proofs.Common.{◌+◌}
use Rattle.mps_seg.specs.Segs.{SegsState}
use Rattle.mps_seg.specs.Table.{segs_state, segments_in, IsHeld, AreGapsBounded, IsMarked, AreAskedNoted}
use Rattle.mps_seg.specs.Counting.{IsCounted}
use Rattle.mps_seg.specs.declared.segs.Segs.TheInside.{Inside}

abbrev pub seen_by : Inside → SegsState
seen_by s = segs_state s.arena s.table.items s.extents s.marks s.condemned s.summaries.items

-- the segments are held, their gaps are bounded, the tables of marks are whole, the grains are counted, and the condemned segments noted
abbrev pub IsSoundInside : Inside → Type 0
IsSoundInside s =
    IsHeld s.arena s.table.items s.extents
    × AreGapsBounded s.arena.held (s.arena.grains + 1) s.firsts.items s.bounds s.extents.covered
    × IsMarked s.arena.grains s.marks s.condemned s.summaries.items
    × IsCounted s.counts (segments_in s.table.items)
    × AreAskedNoted (s.arena.grains + 1) s.firsts.items s.table.items s.condemned s.white.items
