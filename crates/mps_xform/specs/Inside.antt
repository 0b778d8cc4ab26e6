-- What is true of all transforms.
use Rattle.std.specs.Prelude.{ℕ, ◌≡◌, ◌<◌, ◌≤◌, Bool, true, false, None, List, length, map, slice_index_or, nat_eq}
use Rattle.std.specs.List.{All}
use Rattle.std.specs.List.Sorted.{IsNonDecreasingBy}
use Rattle.std.specs.Map.{lookup}
use Rattle.mps_base.specs.Address.{Address}
use Rattle.mps_base.specs.Zones.{zones_meet, zone_bit_of}
use Rattle.mps_xform.specs.declared.replacements.Ranked.{Ranked}
use Rattle.mps_xform.specs.declared.transforms.Pair.{Pair}
use Rattle.mps_xform.specs.Marks.{is_marked, words_of_marks}
use Rattle.mps_xform.specs.State.{max_pairs}

-- there is room for all pairs that there may be, and each is of a transform that there is
pub record AreSoundTransforms (live : List Bool) (pairs : List Pair) (capacity : ℕ) : Type 0 where
  pub few : length pairs ≤ max_pairs
  pub room : max_pairs ≤ capacity
  pub known : All (λ p. slice_index_or live p.transform false ≡ true) pairs

-- pairs by their old addresses
abbrev pub by_old : List Ranked → List (ℕ × Pair)
by_old rs = map (λ r. (r.pair.old.0, r.pair)) rs

-- an address without a mark is the old one of none of these
abbrev pub AreMarked : List Ranked → (marks : List ℕ) → Type 0
AreMarked rs marks = (at : Address) → is_marked marks at ≡ false → lookup (nat_eq at) (by_old rs) ≡ None

-- the ranks ascend, and are below a bound
pub record AreRanked (rs : List Ranked) (bound : ℕ) : Type 0 where
  pub below : All (λ r. r.rank < bound) rs
  pub ascend : (i j : ℕ) (d : Ranked) → i < j → j < length rs → (slice_index_or rs i d).rank < (slice_index_or rs j d).rank

-- the old address of each of these lies in one of some zones
abbrev pub AreInZones : List Ranked → (zones : ℕ) → Type 0
AreInZones rs zones = All (λ r. zones_meet (zone_bit_of r.pair.old.0) zones ≡ true) rs

-- There is room for all pairs that there may be and for all marks, and the pairs ascend by their old addresses. An address without a mark
-- is the old one of none, and so is one outside the zones.
pub record AreSoundReplacements (rs : List Ranked) (capacity : ℕ) (marks : List ℕ) (marks_capacity zones : ℕ) : Type 0 where
  pub room : max_pairs ≤ capacity
  pub ascending : IsNonDecreasingBy (λ r. r.pair.old.0) rs
  pub marks_room : words_of_marks ≤ marks_capacity
  pub marked : AreMarked rs marks
  pub zoned : AreInZones rs zones
