-- The zones of the old addresses of pairs, while they are found, and what lies outside them.
use Rattle.std.proofs.Common.{ℕ, ◌+◌, ◌<◌, ◌≡◌, true, false, None, List, length, get_or, sym, ap, ◌∙◌, subst, inl, inr, arith}
use Rattle.std.specs.Prelude.{bit_or, nat_eq}
use Rattle.std.specs.Map.{lookup}
use Rattle.std.proofs.lemmas.Bool.{cases_lt, false≢true}
use Rattle.std.proofs.lemmas.List.{get_or_default}
use Rattle.mps_base.specs.Address.{Address, zone_of}
use Rattle.mps_base.specs.Zones.{zones_meet, zone_bit_of}
use Rattle.mps_xform.specs.declared.replacements.Ranked.{Ranked}
use Rattle.mps_xform.specs.Inside.{AreInZones, by_old}
use Rattle.mps_xform.proofs.Sorted.{no_pair, not_found}
use Rattle.mps_xform.proofs.Zones.{more_zones, own_zone, zones_before}

-- the old addresses of the first pairs lie in some zones
abbrev pub AreZonedBelow : List Ranked → (count zones : ℕ) → Type 0
AreZonedBelow rs count zones = (k : ℕ) (d : Ranked) → k < count → zones_meet (zone_bit_of (get_or rs k d).pair.old.0) zones ≡ true

pub one_more_zoned : (rs : List Ranked) (index zones more : ℕ) (at : Address) → index < length rs → AreZonedBelow rs index zones
    → (get_or rs index no_pair).pair.old.0 ≡ at → more ≡ bit_or zones (zone_bit_of at) → AreZonedBelow rs (index + 1) more
one_more_zoned rs index zones more at within before here is k d below =
    let P : ℕ → Type 0 = λ z. zones_meet (zone_bit_of (get_or rs k d).pair.old.0) z ≡ true in
    subst P (sym is) (elim (cases_lt k index) [
      | inl earlier ↦ more_zones zones (zone_bit_of at) (zone_of (get_or rs k d).pair.old.0) (before k d earlier)
      | inr last ↦
          let same : k ≡ index = omega (arith, below, last) in
          let Q : Address → Type 0 = λ a. zones_meet (zone_bit_of a) (bit_or zones (zone_bit_of at)) ≡ true in
          let old : (get_or rs k d).pair.old.0 ≡ at =
          ap (λ (j : ℕ). (get_or rs j d).pair.old.0) same ∙ ap (λ (r : Ranked). r.pair.old.0) (get_or_default rs index d no_pair within)
          ∙ here
          in
          subst Q (sym old) (zones_before zones (zone_bit_of at) (zone_of at) (own_zone (zone_of at)))
    ])

-- no pair has an old address outside them
pub none_outside : (rs : List Ranked) (zones old : ℕ) → AreInZones rs zones → zones_meet (zone_bit_of old) zones ≡ false
    → lookup (nat_eq old) (by_old rs) ≡ None
none_outside rs zones old zoned outside =
    not_found old no_pair rs (λ k within is.
    false≢true (sym outside ∙ ap (λ (a : Address). zones_meet (zone_bit_of a) zones) (sym is) ∙ zoned k no_pair within))
