-- Location dependencies: when one that stores an epoch and a set of zones is stale. `flips` has the zones of all flips since
-- the arena was made, the first flip first, so its length is the epoch of now.
use Rattle.std.specs.Prelude.{◌≡◌, ℕ, ◌-◌, Bool, true, false, nat_le, if◌then◌else◌, List, [], ◌∷◌, length, drop, refl}
use Rattle.std.specs.List.{list_any}
use Rattle.mps_base.specs.Zones.{zones_meet}

-- the flips that count for an epoch: those since it, if they are four at most, else all
abbrev pub flips_that_count : (flips : List ℕ) (epoch : ℕ) → List ℕ
flips_that_count flips epoch = if nat_le (length flips - epoch) 4 then drop epoch flips else flips

-- whether one of the flips that count moved something in one of these zones
abbrev pub is_stale : (flips : List ℕ) (epoch zones : ℕ) → Bool
is_stale flips epoch zones = list_any (λ flipped. zones_meet zones flipped) (flips_that_count flips epoch)

pub a_flip_since_the_epoch_makes_stale : is_stale (2 ∷ 4 ∷ []) 1 4 ≡ true
a_flip_since_the_epoch_makes_stale = refl

pub a_flip_before_the_epoch_does_not : is_stale (2 ∷ 4 ∷ []) 1 2 ≡ false
a_flip_before_the_epoch_does_not = refl

pub after_five_flips_all_count : is_stale (2 ∷ 4 ∷ 4 ∷ 4 ∷ 4 ∷ 4 ∷ []) 1 2 ≡ true
after_five_flips_all_count = refl

pub another_zone_is_never_stale : is_stale (2 ∷ 4 ∷ 4 ∷ 4 ∷ 4 ∷ 4 ∷ []) 1 8 ≡ false
another_zone_is_never_stale = refl
