-- A new segment for a pool in which nothing fitted: what is placed next is placed where it begins.
use Rattle.std.proofs.Common.{◌≡◌, ◌∙◌, ℕ, ◌*◌, ◌-◌, ◌<◌, ◌≤◌, true, false, refl, sym, ap, List, [], ◌∷◌, ◌++◌, Some, None, arith}
use Rattle.std.proofs.lemmas.Bool.{le-leb}
use Rattle.std.proofs.lemmas.Option.{none-some}
use Rattle.std.specs.Prelude.{nat_le, nat_lt, filter, if◌then◌else◌}
use Rattle.std.specs.List.{flat_map}
use Rattle.mps_base.specs.Address.{word_of}
use Rattle.mps_base.specs.Run.{Run, gaps, lowest_fitting}
use Rattle.mps_base.specs.Segment.{Segment, end_of_segment, with_segment, is_open_to, gaps_in, gaps_of}
use Rattle.mps_base.specs.declared.names.Rank.{Rank}
use Rattle.mps_base.proofs.Runs.{between_some}
use Rattle.mps_seg.proofs.OpenGaps.{lowest_in_prefix, lowest_in_rest}
use Rattle.mps_laws.proofs.Positions.Covered.{covered_in}
use Rattle.mps_laws.proofs.Positions.Gaps.{none_covered}
use Rattle.mps_laws.proofs.Positions.Holding.{IsFresh, fresh_unoccupied}
use Rattle.mps_laws.proofs.Positions.LaidOut.{IsLaidOut}
use Rattle.mps_laws.proofs.Positions.Occupancy.{Occupancy}

-- where no run of two parts fits, none of either does
none_in_parts : (n : ℕ) (xs ys : List Run) → lowest_fitting n (xs ++ ys) ≡ None
    → (lowest_fitting n xs ≡ None) × (lowest_fitting n ys ≡ None)
none_in_parts n [] ys none = (refl, none)
none_in_parts n (r ∷ xs) ys none =
    elim (nat_le n r.count) as (λ b. (if b then Some r.from else lowest_fitting n (xs ++ ys)) ≡ None
    → ((if b then Some r.from else lowest_fitting n xs) ≡ None) × (lowest_fitting n ys ≡ None)) [
      | true ↦ (λ h. absurd (none-some r.from (sym h)))
      | false ↦ (λ h. none_in_parts n xs ys h)
    ] none

module _ (covered : List Run) (pool : ℕ) (at_rank : Rank) where
  gaps_first : (s : Segment) (ss : List Segment) → is_open_to pool at_rank s ≡ true
      → gaps_of covered (s ∷ ss) pool at_rank ≡ gaps_in covered s ++ gaps_of covered ss pool at_rank
  gaps_first s ss opened =
      ap (λ b. flat_map (gaps_in covered) (if b then s ∷ filter (is_open_to pool at_rank) ss else filter (is_open_to pool at_rank) ss))
      opened

  gaps_later : (s : Segment) (ss : List Segment) → is_open_to pool at_rank s ≡ false
      → gaps_of covered (s ∷ ss) pool at_rank ≡ gaps_of covered ss pool at_rank
  gaps_later s ss other =
      ap (λ b. flat_map (gaps_in covered) (if b then s ∷ filter (is_open_to pool at_rank) ss else filter (is_open_to pool at_rank) ss))
      other

  -- the lowest gap that fits is the new segment's, where no gap of the others fits
  pub gap_of_new : (n at : ℕ) (s : Segment) (ss : List Segment) → is_open_to pool at_rank s ≡ true
      → lowest_fitting n (gaps_in covered s) ≡ Some at → lowest_fitting n (gaps_of covered ss pool at_rank) ≡ None
      → lowest_fitting n (gaps_of covered (with_segment s ss) pool at_rank) ≡ Some at
  gap_of_new n at s [] opened fits none =
      ap (lowest_fitting n) (gaps_first s [] opened) ∙ lowest_in_prefix n at (gaps_in covered s) [] fits
  gap_of_new n at s (u ∷ us) opened fits none =
      elim (nat_lt s.base u.base)
      as (λ b. lowest_fitting n (gaps_of covered (if b then s ∷ u ∷ us else u ∷ with_segment s us) pool at_rank) ≡ Some at) [
        | true ↦
            ap (lowest_fitting n) (gaps_first s (u ∷ us) opened)
            ∙ lowest_in_prefix n at (gaps_in covered s) (gaps_of covered (u ∷ us) pool at_rank) fits
        | false ↦
            elim (is_open_to pool at_rank u) as (λ b. is_open_to pool at_rank u ≡ b
            → lowest_fitting n (gaps_of covered (u ∷ with_segment s us) pool at_rank) ≡ Some at) [
              | true ↦
                  (λ is. let parts = none_in_parts n (gaps_in covered u) (gaps_of covered us pool at_rank)
                  (sym (ap (lowest_fitting n) (gaps_first u us is)) ∙ none) in
                  ap (lowest_fitting n) (gaps_first u (with_segment s us) is)
                  ∙ lowest_in_rest n (gaps_in covered u) (gaps_of covered (with_segment s us) pool at_rank) parts.0
                  ∙ gap_of_new n at s us opened fits parts.1)
              | false ↦
                  (λ isnt. ap (lowest_fitting n) (gaps_later u (with_segment s us) isnt)
                  ∙ gap_of_new n at s us opened fits (sym (ap (lowest_fitting n) (gaps_later u us isnt)) ∙ none))
            ] refl
      ]

-- ---- the gap of a fresh segment

-- it begins where the segment does
pub gap_of_fresh : (limit : ℕ) (g : Occupancy) → IsLaidOut limit g → (s : Segment) → IsFresh limit g.segments s → (words : ℕ) → 0 < words
    → words ≤ 512 * s.grains → lowest_fitting words (gaps_in (covered_in g) s) ≡ Some (word_of s.base)
gap_of_fresh limit g laid s fresh words some fits =
    let a = fresh.aligned in
    let low = word_of s.base in
    let high = word_of (end_of_segment s) in
    let none = none_covered limit g laid s a (fresh_unoccupied limit g s laid fresh) in
    ap (λ rs. lowest_fitting words (gaps low high rs)) none
    ∙ ap (lowest_fitting words) (between_some low high (omega (arith, some, fits)))
    ∙ ap (λ b. if b then Some low else None) (le-leb words (high - low) (omega (arith, a, fits)))
