-- What a note leaves of summaries, and applying a transform of segments: words and summaries alone change, and no summary loses a zone.
use Rattle.std.proofs.Common.{◌≡◌, ◌∙◌, ℕ, zero, suc, ◌<◌, true, refl, sym, ap, List, length, Option, Some, None, subst, inl, inr}
use Rattle.std.specs.Prelude.{slice_index, slice_set, bit_or}
use Rattle.std.proofs.lemmas.Bool.{cases_eq, cases_lt}
use Rattle.std.proofs.lemmas.List.{get_or-set_same, get_or-set_other, length-set, set_past}
use Rattle.mps_base.specs.Address.{Address, Grain, address_of_word, zone_of}
use Rattle.mps_base.specs.Zones.{zones_meet, zone_bit, zone_bit_of}
use Rattle.mps_format.specs.Layout.{Layout}
use Rattle.mps_seg.specs.Collecting.{first_grain_over, noting_in}
use Rattle.mps_seg.specs.Segs.{SegsState}
use Rattle.mps_xform.specs.Applying.{after_apply_below, after_replace, replacement}
use Rattle.mps_xform.proofs.Zones.{AreZonesOf, more_zones, own_zone, zones_before}

-- ---- a note

module _ (summaries : List ℕ) (grain : Grain) (target : Address) (within : grain < length summaries) where
  abbrev pub noted : List ℕ
  noted = slice_set summaries grain (bit_or (slice_index summaries grain) (zone_bit_of target))

  own : slice_index noted grain ≡ bit_or (slice_index summaries grain) (zone_bit_of target)
  own = get_or-set_same summaries grain (bit_or (slice_index summaries grain) (zone_bit_of target)) 0 within

  pub zone_noted : zones_meet (zone_bit_of target) (slice_index noted grain) ≡ true
  zone_noted =
      ap (λ z. zones_meet (zone_bit_of target) z) own
      ∙ zones_before (slice_index summaries grain) (zone_bit_of target) (zone_of target) (own_zone (zone_of target))

  pub others_noted : (other : Grain) → AreZonesOf (slice_index summaries other) (slice_index noted other)
  others_noted other k h =
      elim (cases_eq other grain) [
        | inl same ↦
            let P : ℕ → Type 0 = λ z. zones_meet (zone_bit k) z ≡ true in
            let Q : Grain → Type 0 = λ g. P (slice_index noted g) in
            let there : P (slice_index summaries grain) = subst (λ g. P (slice_index summaries g)) same h in
            subst Q (sym same) (subst P (sym own) (more_zones (slice_index summaries grain) (zone_bit_of target) k there))
        | inr apart ↦
            let P : ℕ → Type 0 = λ z. zones_meet (zone_bit k) z ≡ true in
            subst P
            (sym (get_or-set_other summaries grain other (bit_or (slice_index summaries grain) (zone_bit_of target)) 0 apart)) h
      ]

-- also where the grain has no summary
never_less : (summaries : List ℕ) (grain : Grain) (target : Address) (other : Grain)
    → AreZonesOf (slice_index summaries other)
    (slice_index (slice_set summaries grain (bit_or (slice_index summaries grain) (zone_bit_of target))) other)
never_less summaries grain target other =
    elim (cases_lt grain (length summaries)) [
      | inl within ↦ others_noted summaries grain target within other
      | inr past ↦
          λ k h.
          let P : List ℕ → Type 0 = λ zs. zones_meet (zone_bit k) (slice_index zs other) ≡ true in
          subst P (sym (set_past summaries grain (bit_or (slice_index summaries grain) (zone_bit_of target)) past)) h
    ]

-- ---- words and summaries alone change

-- all but words and summaries stays, there are as many of both, and no summary has lost a zone
pub record KeepsRest (s now : SegsState) : Type 0 where
  pub rest : now ≡ record s { words = now.words; summaries = now.summaries }
  pub size : length now.words ≡ length s.words
  pub summed : length now.summaries ≡ length s.summaries
  pub zones : (grain : Grain) → AreZonesOf (slice_index s.summaries grain) (slice_index now.summaries grain)

pub rest_kept : (s : SegsState) → KeepsRest s s
rest_kept s = record { rest = refl; size = refl; summed = refl; zones = λ grain k h. h }

pub kept_twice : {s t u : SegsState} → KeepsRest s t → KeepsRest t u → KeepsRest s u
kept_twice {s} {t} {u} first second = record {
  rest = second.rest ∙ ap (λ (x : SegsState). record x { words = u.words; summaries = u.summaries }) first.rest;
  size = second.size ∙ first.size;
  summed = second.summed ∙ first.summed;
  zones = λ grain k h. second.zones grain k (first.zones grain k h);
}

pub same_segments : {s t : SegsState} → KeepsRest s t → t.segments ≡ s.segments
same_segments kept = ap (λ (x : SegsState). x.segments) kept.rest

pub same_blocks : {s t : SegsState} → KeepsRest s t → t.blocks ≡ s.blocks
same_blocks kept = ap (λ (x : SegsState). x.blocks) kept.rest

-- ---- one pool

module _ (f : Layout) (word value : ℕ) (s : SegsState) where
  abbrev written : Address → SegsState
  written at = record s { words = slice_set s.words word (f.retarget value at) }

  noted_keeps : (at : Address) (o : Option Grain) → KeepsRest s (noting_in (written at) o at)
  noted_keeps at None =
      record { rest = refl; size = length-set s.words word (f.retarget value at); summed = refl; zones = λ grain k h. h }
  noted_keeps at (Some grain) = record {
    rest = refl;
    size = length-set s.words word (f.retarget value at);
    summed = length-set s.summaries grain (bit_or (slice_index s.summaries grain) (zone_bit_of at));
    zones = λ other. never_less s.summaries grain at other;
  }

  pub replace_keeps : (o : Option Address) → KeepsRest s (after_replace f word value o s)
  replace_keeps None = rest_kept s
  replace_keeps (Some at) = noted_keeps at (first_grain_over (written at) (address_of_word word))

module _ (f : Layout) (to : Address → Option Address) (s : SegsState) (number : ℕ) where
  pub pass_keeps : (n : ℕ) → KeepsRest s (after_apply_below f to s number n)
  pass_keeps zero = rest_kept s
  pass_keeps (suc n) =
      kept_twice (pass_keeps n)
      (replace_keeps f n (slice_index s.words n) (after_apply_below f to s number n) (replacement f to s number n))
