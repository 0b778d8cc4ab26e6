-- Held segments of an arena at rest can be condemned.
use Rattle.std.proofs.Common.{◌≡◌, ◌+◌, false, sym, length, Contains, arith}
use Rattle.mps_base.specs.Address.{grain_of}
use Rattle.mps_base.specs.Segment.{Segment}
use Rattle.mps_extents.specs.Table.{bit}
use Rattle.mps_seg.specs.Segs.{SegsState}
use Rattle.mps_trace_laws.specs.Fix.Tracing.{AreHeld, HasTables}
use Rattle.mps_trace_laws.proofs.Reclaim.SegmentBounds.{aligned_in}
use Rattle.mps_trace_laws.proofs.Reclaim.HeldSegments.{some_grains}
use Rattle.mps_trace_laws.proofs.Reclaim.Room.{segments_are_in_order}
use Rattle.mps_trace_laws.proofs.Units.Entering.{held_in_order, held_inside}
use Rattle.mps_trace_laws.specs.Flip.Condemned.{BeginInTable}
use Rattle.mps_trace_laws.specs.Flip.CondemnedWords.{AreReadyToCondemn}

-- ---- what can be condemned

module _ (s : SegsState) (held : AreHeld s) (tables : HasTables s) where
  pub begin_in_table : BeginInTable s.segments (length s.condemned)
  begin_in_table = record {
    aligned = λ t there. sym (aligned_in s.segments t (held_in_order s held).aligned there);
    within = λ t there.
        let base = aligned_in s.segments t (held_in_order s held).aligned there in
        let some = some_grains 1 (s.grains + 1) s.segments t held.ascending there in
        let inside = held_inside s held t there in
        let entries = tables.condemned in
        omega (arith, base, some, inside, entries);
  }

  pub ready_to_condemn : ((t : Segment) → Contains s.segments t → bit s.condemned (grain_of t.base) ≡ false) → AreReadyToCondemn s
  ready_to_condemn none = record {
    begin = begin_in_table;
    ascending = (segments_are_in_order s (held_in_order s held)).ascending;
    none = none;
  }
