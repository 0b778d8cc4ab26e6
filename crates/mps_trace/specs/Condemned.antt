-- Segments in the order of their addresses. Which condemned one is the next is defined with the segments.
use Rattle.std.specs.Prelude.{◌+◌, ◌^◌, ◌<◌, ◌≤◌, List, [], ◌∷◌, Contains}
use Rattle.std.proofs.Common.{arith}
use Rattle.mps_base.specs.Address.{Address}
use Rattle.mps_base.specs.Segment.{Segment}
use Rattle.mps_base.specs.declared.names.Rank.TheVariants.{Exact}
use Rattle.mps_seg.specs.Segs.{SegsState}
pub use Rattle.mps_seg.specs.Condemned.{NoneCondemned, IsNextCondemned, NoneLeft}

-- segments whose bases ascend, from an address on
abbrev pub AreAscending : Address → List Segment → Type 0
AreAscending low [] = Unit {0}
AreAscending low (t ∷ ts) = (low ≤ t.base) × AreAscending (t.base + 1) ts

-- the bases of segments ascend, and are addresses of an arena
pub record AreInOrder (s : SegsState) : Type 0 where
  pub ascending : AreAscending 0 s.segments
  pub small : (t : Segment) → Contains s.segments t → t.base < 2 ^ 32

-- ---- vectors: two segments

abbrev calm : Segment
calm = record { base = 0x1000; grains = 1; pool = 0; generation = 0; rank = Exact }

abbrev condemned_one : Segment
condemned_one = record { base = 0x2000; grains = 1; pool = 0; generation = 0; rank = Exact }

pub segments_out_of_order : AreAscending 0 (condemned_one ∷ calm ∷ []) → ⊥
segments_out_of_order a = let e : 0x2001 ≤ 0x1000 = a.1.0 in omega (arith, e)
