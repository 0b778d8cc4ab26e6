-- What becomes of a segment that is reclaimed.
use Rattle.std.specs.Prelude.{◌≡◌, ◌%◌, true, false, Option, Some, None, List, [], slice_get}
use Rattle.mps_base.specs.Address.{bytes_of_word}
use Rattle.mps_base.specs.Segment.{Segment, segment_over}
use Rattle.mps_base.specs.Trail.{Moves}
use Rattle.mps_base.specs.declared.address.Addr.{Addr}
use Rattle.mps_format.specs.Layout.{Layout}
use Rattle.mps_seg.specs.Segs.{SegsState}
use Rattle.mps_seg.specs.Reclaiming.{CanReclaim, IsSwept}
use Rattle.mps_amc.specs.Reclaiming.{IsReclaimed}
use Rattle.mps_trace.specs.Trace.{TraceState}
use Rattle.mps_format.specs.declared.pool.Policy.{Policy}

-- a segment of an automatic pool begins at an address, and its pool can reclaim it
pub record CanReclaimAt {F : Type 0} (layout : F → Layout) (t : TraceState F) (s : SegsState) (m : Moves) (base : Addr) : Type 0 where
  pub aligned : base.0 % bytes_of_word ≡ 0
  pub segment : CanReclaim s base.0 m.spare
  pub format : Policy F
  pub listed : slice_get t.formats segment.segment.pool ≡ Some (Some format)

-- the pool of a segment has reclaimed it. What is freed is the same for every kind of pool. One that moves its blocks leaves pads around
-- those that are left; any other changes no word
pub record Reclaims {F : Type 0} (layout : F → Layout) (formats : List (Option (Policy F))) (s : SegsState) (m : Moves) (base : Addr)
    (s' : SegsState) (m' : Moves) : Type 0 where
  pub segment : Segment
  pub over : segment_over s.segments base.0 ≡ Some segment
  pub format : Policy F
  pub listed : slice_get formats segment.pool ≡ Some (Some format)
  pub swept : IsSwept s m base s' m'
  pub padded : format.moves ≡ true → IsReclaimed (layout format.format) s m base s' m'
  pub unwritten : format.moves ≡ false → s'.words ≡ s.words

-- ---- vectors

-- if no pool is known nothing is reclaimed
pub nothing_is_reclaimed_without_a_pool : {F : Type 0} (layout : F → Layout) (s s' : SegsState) (m m' : Moves) (base : Addr)
    → Reclaims layout [] s m base s' m' → ⊥
nothing_is_reclaimed_without_a_pool layout s s' m m' base r = let never : None ≡ Some (Some r.format) = r.listed in absurd cc
