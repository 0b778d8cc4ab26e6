-- The condemned segments, in the order of their addresses.
use Rattle.std.specs.Prelude.{◌≡◌, ◌<◌, ◌≤◌, true, false, [], ◌∷◌, Contains, refl}
use Rattle.std.proofs.Common.{arith, lit<}
use Rattle.mps_base.specs.Address.{Address, grain_of}
use Rattle.mps_base.specs.Segment.{Segment}
use Rattle.mps_base.specs.declared.names.Rank.TheVariants.{Exact}
use Rattle.mps_bits.specs.Table.{bit}
use Rattle.mps_seg.specs.Segs.{SegsState, new_segments}
use Rattle.mps_seg.specs.Collecting.{condemning}

-- no condemned segment begins from one address on and below another
abbrev pub NoneCondemned : SegsState → (from to : Address) → Type 0
NoneCondemned s from to =
    (t : Segment) → Contains s.segments t → from ≤ t.base → t.base < to → bit s.condemned (grain_of t.base) ≡ false

-- the lowest condemned segment that begins at an address or above
pub record IsNextCondemned (s : SegsState) (from base : Address) : Type 0 where
  pub segment : Segment
  pub listed : Contains s.segments segment
  pub begins : segment.base ≡ base
  pub above : from ≤ base
  pub condemned : bit s.condemned (grain_of segment.base) ≡ true
  pub first : NoneCondemned s from base

-- no condemned segment begins at an address or above
abbrev pub NoneLeft : SegsState → (from : Address) → Type 0
NoneLeft s from = (t : Segment) → Contains s.segments t → from ≤ t.base → bit s.condemned (grain_of t.base) ≡ false

-- ---- vectors: two segments, the second of which is condemned

abbrev calm : Segment
calm = record { base = 0x1000; grains = 1; pool = 0; generation = 0; rank = Exact }

abbrev condemned_one : Segment
condemned_one = record { base = 0x2000; grains = 1; pool = 0; generation = 0; rank = Exact }

abbrev two_segments : SegsState
two_segments = condemning (record (new_segments 2 2) { segments = calm ∷ condemned_one ∷ [] }) 0x2000

pub a_condemned_segment_is_left : NoneLeft two_segments 0x1000 → ⊥
unfolding bit
a_condemned_segment_is_left none =
    let there : Contains two_segments.segments condemned_one = (1, lit< tt, refl) in
    let e : true ≡ false = none condemned_one there (let l : 0x1000 ≤ 0x2000 = omega arith in l) in
    absurd cc
