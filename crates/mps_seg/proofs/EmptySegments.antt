-- The words of a segment, by the tables.
use Rattle.std.proofs.Common.{ℕ, ◌≤◌, ◌≡◌, Contains, sym, subst, arith}
use Rattle.mps_base.specs.Address.{word_of, grain_of}
use Rattle.mps_base.specs.Segment.{Segment, end_of_segment}
use Rattle.mps_seg.specs.Segs.{SegsState}
use Rattle.mps_seg.specs.declared.segs.Segs.TheInside.{Inside}
use Rattle.mps_seg.proofs.Entries.{entry_at_base}
use Rattle.mps_seg.proofs.HeldSegments.{segment_end_fits}
use Rattle.mps_seg.proofs.Seen.{seen_by, IsSoundInside}

-- a segment ends in the arena
pub end_fits : (i : Inside) (seen : SegsState) (base : ℕ) (s : Segment) → IsSoundInside i → seen_by i ≡ seen
    → Contains seen.segments s → s.base ≡ base → word_of (end_of_segment s) ≤ i.extents.size
end_fits i seen base s sound is there begins =
    let P : SegsState → Type 0 = λ st. Contains st.segments s in
    let at = entry_at_base i.table.items base s (subst P (sym is) there) begins in
    let fits = segment_end_fits i.arena i.table.items i.extents sound.0 (grain_of base) s.grains s.pool s.generation s.rank at.is in
    omega (arith, fits, at.aligned, begins)
