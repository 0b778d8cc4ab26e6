-- Sets of zones as numbers: bit z is 1 if zone z is in the set.
use Rattle.std.specs.Prelude.{◌≡◌, ℕ, zero, suc, ◌+◌, ◌%◌, ◌^◌, Bool, true, false, not, ◌==◌, bit_and, bit_or, List, [], ◌∷◌, refl}
use Rattle.mps_base.specs.Address.{zone_of}
use Rattle.mps_base.specs.Run.{Run}

-- the set of this zone alone
abbrev pub zone_bit : (zone : ℕ) → ℕ
zone_bit zone = 2 ^ zone

-- the set of the zone of an address
abbrev pub zone_bit_of : (address : ℕ) → ℕ
zone_bit_of address = zone_bit (zone_of address)

-- whether two sets have a zone in common
abbrev pub zones_meet : ℕ → ℕ → Bool
zones_meet these those = not (bit_and these those == 0)

-- the zones of `count` grains from this one on
abbrev pub zones_from : (count grain : ℕ) → ℕ
zones_from zero grain = 0
zones_from (suc count) grain = bit_or (zone_bit (grain % 64)) (zones_from count (grain + 1))

-- the zones of all grains of some runs of grains
abbrev pub zones_of_runs : List Run → ℕ
zones_of_runs [] = 0
zones_of_runs (r ∷ rs) = bit_or (zones_from r.count r.from) (zones_of_runs rs)

-- zones 1, 2 and 63, from grain 63 also zone 0
pub a_zone_comes_again_after_64_grains :
    zones_of_runs (record { from = 1; count = 2 } ∷ record { from = 63; count = 2 } ∷ []) ≡ 1 + 2 + 4 + 2 ^ 63
a_zone_comes_again_after_64_grains = refl

pub no_zone_in_common : zones_meet 6 9 ≡ false
no_zone_in_common = refl

pub a_zone_in_common : zones_meet 6 12 ≡ true
a_zone_in_common = refl
