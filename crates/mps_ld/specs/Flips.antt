-- Which flips epochs represent.
use Rattle.std.specs.Prelude.{ℕ, ◌≡◌, bit_or, List, [], ◌∷◌, length, drop, refl}
use Rattle.mps_ld.specs.State.{EpochsState, no_flips}

-- the zones of all flips
abbrev pub all_zones : List ℕ → ℕ
all_zones [] = 0
all_zones (zones ∷ more) = bit_or zones (all_zones more)

-- the zone sets of the last four flips, the latest last; flips that never came have no zones
abbrev pub last_four : List ℕ → List ℕ
last_four flips = drop (length flips) (0 ∷ 0 ∷ 0 ∷ 0 ∷ flips)

-- Epochs represent each list of flips, each flip by its zones and the first one first, of which they keep the length, the last four
-- and the union.
pub record AreFlips (e : EpochsState) (flips : List ℕ) : Type 0 where
  pub count : e.count ≡ length flips
  pub recent : e.recent ≡ last_four flips
  pub all : e.all ≡ all_zones flips

pub none_yet : AreFlips no_flips []
none_yet = record { count = refl; recent = refl; all = refl }

pub five : AreFlips (record { count = 5; recent = 2 ∷ 4 ∷ 8 ∷ 16 ∷ []; all = 31 }) (1 ∷ 2 ∷ 4 ∷ 8 ∷ 16 ∷ [])
five = record { count = refl; recent = refl; all = refl }

pub two_have_two_before_them : last_four (1 ∷ 2 ∷ []) ≡ 0 ∷ 0 ∷ 1 ∷ 2 ∷ []
two_have_two_before_them = refl
