-- Held segments: no two have one base or share a word, and what is left once one is given back.
use Rattle.std.proofs.Common.{◌≡◌, ◌∙◌, ◌⊎◌, ℕ, suc, ◌+◌, ◌<◌, ◌≤◌, Bool, true, false, not, refl, sym, ap, subst, List, [], ◌∷◌, map, Some, Contains, inl, inr, arith}
use Rattle.std.proofs.lemmas.Bool.{cases_lt, cases_eq, cases_Bool, eq-eqb, ne_eqb, cond-true, cond-false}
use Rattle.std.proofs.lemmas.Option.{none-some, same_Some}
use Rattle.std.specs.Prelude.{filter, find, ◌==◌}
use Rattle.std.specs.List.{AllByRecursion}
use Rattle.mps_base.specs.Address.{Address, Word, word_of, address_of_word, address_of_grain, grain_of, max_grains}
use Rattle.mps_base.specs.Run.{IsAscending, end_of}
use Rattle.mps_base.specs.Segment.{Segment, segment_over, is_in_segment, end_of_segment, grains_of_segment, without_segment}
use Rattle.mps_base.proofs.Runs.{IsAscending-lower}
use Rattle.mps_abstract.proofs.GivingBack.{find-filter_found}
use Rattle.mps_trace_laws.specs.Image.SegmentWords.{AreSegmentsInOrder}
use Rattle.mps_trace_laws.proofs.Image.SegmentWords.{over_word}
use Rattle.mps_trace_laws.proofs.Reclaim.SegmentBounds.{segment_cases, contains_no_segment, aligned_in}

-- a held segment has a grain
pub some_grains : (low high : ℕ) (ss : List Segment) (t : Segment) → IsAscending low high (map grains_of_segment ss) → Contains ss t
    → 0 < t.grains
some_grains low high [] t asc there = absurd (contains_no_segment t there)
some_grains low high (s ∷ ss) t asc there =
    elim (segment_cases ss t s there) [
      | inl same ↦ subst (λ (x : Segment). 0 < x.grains) same asc.1
      | inr later ↦ some_grains (end_of (grains_of_segment s)) high ss t asc.2 later
    ]

module _ (ss : List Segment) (order : AreSegmentsInOrder ss) where
  -- the segment over a word of a held one
  pub over : (t : Segment) (n : Word) → Contains ss t → word_of t.base ≤ n → n < word_of (end_of_segment t)
      → segment_over ss (address_of_word n) ≡ Some t
  over t n held above below =
      let base = aligned_in ss t order.aligned held in
      over_word 1 (max_grains + 1) ss t n order.aligned order.ascending held (above, omega (arith, below, base))

  -- the segment over its base
  pub over_base : (t : Segment) → Contains ss t → segment_over ss t.base ≡ Some t
  over_base t held =
      let base = aligned_in ss t order.aligned held in
      let some = some_grains 1 (max_grains + 1) ss t order.ascending held in
      ap (segment_over ss) (let e : t.base ≡ address_of_word (word_of t.base) = omega (arith, base) in e)
      ∙ over t (word_of t.base) held (omega arith) (omega (arith, base, some))

  pub same_base : (a b : Segment) → Contains ss a → Contains ss b → a.base ≡ b.base → a ≡ b
  same_base a b held held' same =
      same_Some a b (sym (over_base a held) ∙ ap (segment_over ss) same ∙ over_base b held')

  -- words of one lie beside another
  pub beside : (a b : Segment) (n : Word) → Contains ss a → Contains ss b → (a.base ≡ b.base → ⊥) → word_of a.base ≤ n
      → n < word_of (end_of_segment a) → (n < word_of b.base) ⊎ (word_of (end_of_segment b) ≤ n)
  beside a b n held held' differ above below =
      elim (cases_lt n (word_of b.base)) [
        | inl before ↦ inl before
        | inr from ↦
            elim (cases_lt n (word_of (end_of_segment b))) [
              | inr past ↦ inr past
              | inl inside ↦
                  absurd (differ (ap (λ (x : Segment). x.base)
                  (same_Some a b (sym (over a n held above below) ∙ over b n held' from inside))))
            ]
      ]

-- what is found is held
pub found_held : (p : Segment → Bool) (ss : List Segment) (t : Segment) → find p ss ≡ Some t → Contains ss t
found_held p [] t e = absurd (none-some t e)
found_held p (s ∷ ss) t e =
    elim (cases_Bool (p s)) [
      | inl is ↦
          let same = same_Some s t (sym (cond-true (p s) (Some s) (find p ss) is) ∙ e) in
          subst (λ (x : Segment). Contains (s ∷ ss) x) same (0, omega arith, refl)
      | inr isnt ↦
          let rest = found_held p ss t (sym (cond-false (p s) (Some s) (find p ss) isnt) ∙ e) in
          (suc rest.0, omega (arith, rest.1), rest.2)
    ]

-- the segment at a base is the one that begins there, where no other does
pub found_at : (ss : List Segment) (t : Segment) (base : Address) → Contains ss t → t.base ≡ base
    → ((s : Segment) → Contains ss s → s.base ≡ base → s ≡ t) → find (λ s. s.base == base) ss ≡ Some t
found_at [] t base held is only = absurd (contains_no_segment t held)
found_at (s ∷ ss) t base held is only =
    elim (cases_eq s.base base) [
      | inl here ↦
          cond-true (s.base == base) (Some s) (find (λ s. s.base == base) ss) (eq-eqb s.base base here)
          ∙ ap Some (only s (0, omega arith, refl) here)
      | inr other ↦
          cond-false (s.base == base) (Some s) (find (λ s. s.base == base) ss) (ne_eqb s.base base other)
          ∙ elim (segment_cases ss t s held) [
            | inl same ↦ absurd (other (ap (λ (x : Segment). x.base) same ∙ is))
            | inr later ↦ found_at ss t base later is (λ u h. only u (suc h.0, omega (arith, h.1), h.2))
          ]
    ]

-- ---- without one

pub over_left : (ss : List Segment) (base at : Address) (t : Segment) → segment_over ss at ≡ Some t → (t.base ≡ base → ⊥)
    → segment_over (without_segment ss base) at ≡ Some t
over_left ss base at t over differ =
    find-filter_found (λ s. is_in_segment s at) (λ s. not (s.base == base)) ss t over (ap not (ne_eqb t.base base differ))

filtered_first : (p : Segment → Bool) (s : Segment) (ss : List Segment) → p s ≡ true → filter p (s ∷ ss) ≡ s ∷ filter p ss
filtered_first p s ss h = cond-true (p s) (s ∷ filter p ss) (filter p ss) h

filtered_later : (p : Segment → Bool) (s : Segment) (ss : List Segment) → p s ≡ false → filter p (s ∷ ss) ≡ filter p ss
filtered_later p s ss h = cond-false (p s) (s ∷ filter p ss) (filter p ss) h

contains_segment : (ss : List Segment) (t : Segment) → Contains (t ∷ ss) t
contains_segment ss t = (0, omega arith, refl)

contains_segment_later : (ss : List Segment) (t s : Segment) → Contains ss t → Contains (s ∷ ss) t
contains_segment_later ss t s (k, within, is) = (suc k, omega arith, is)

pub held_filtered : (p : Segment → Bool) (ss : List Segment) (t : Segment) → Contains ss t → p t ≡ true → Contains (filter p ss) t
held_filtered p [] t there h = absurd (contains_no_segment t there)
held_filtered p (s ∷ ss) t there h =
    elim (segment_cases ss t s there) [
      | inl same ↦
          subst (λ xs. Contains xs t) (sym (filtered_first p s ss (ap p same ∙ h)))
          (subst (λ (x : Segment). Contains (s ∷ filter p ss) x) same (contains_segment (filter p ss) s))
      | inr later ↦
          let rest = held_filtered p ss t later h in
          elim (cases_Bool (p s)) [
            | inl is ↦ subst (λ xs. Contains xs t) (sym (filtered_first p s ss is)) (contains_segment_later (filter p ss) t s rest)
            | inr isnt ↦ subst (λ xs. Contains xs t) (sym (filtered_later p s ss isnt)) rest
          ]
    ]

-- what is held of them was held, and passes
pub was_held : (p : Segment → Bool) (ss : List Segment) (t : Segment) → Contains (filter p ss) t → Contains ss t × (p t ≡ true)
was_held p [] t there = absurd (contains_no_segment t there)
was_held p (s ∷ ss) t there =
    elim (cases_Bool (p s)) [
      | inl is ↦
          elim (segment_cases (filter p ss) t s (subst (λ xs. Contains xs t) (filtered_first p s ss is) there)) [
            | inl same ↦ (subst (λ (x : Segment). Contains (s ∷ ss) x) same (contains_segment ss s), ap p (sym same) ∙ is)
            | inr later ↦ let rest = was_held p ss t later in (contains_segment_later ss t s rest.0, rest.1)
          ]
      | inr isnt ↦
          let rest = was_held p ss t (subst (λ xs. Contains xs t) (filtered_later p s ss isnt) there) in
          (contains_segment_later ss t s rest.0, rest.1)
    ]

aligned_filtered : (P : Segment → Type 0) (p : Segment → Bool) (ss : List Segment) → AllByRecursion P ss → AllByRecursion P (filter p ss)
aligned_filtered P p [] all = tt
aligned_filtered P p (s ∷ ss) all =
    elim (cases_Bool (p s)) [
      | inl is ↦ subst (AllByRecursion P) (sym (filtered_first p s ss is)) (all.0, aligned_filtered P p ss all.1)
      | inr isnt ↦ subst (AllByRecursion P) (sym (filtered_later p s ss isnt)) (aligned_filtered P p ss all.1)
    ]

ascending_filtered : (p : Segment → Bool) (low high : ℕ) (ss : List Segment) → IsAscending low high (map grains_of_segment ss)
    → IsAscending low high (map grains_of_segment (filter p ss))
ascending_filtered p low high [] asc = asc
ascending_filtered p low high (s ∷ ss) asc =
    let P : List Segment → Type 0 = λ xs. IsAscending low high (map grains_of_segment xs) in
    let rest = ascending_filtered p (end_of (grains_of_segment s)) high ss asc.2 in
    elim (cases_Bool (p s)) [
      | inl is ↦ subst P (sym (filtered_first p s ss is)) (asc.0, asc.1, rest)
      | inr isnt ↦
          subst P (sym (filtered_later p s ss isnt))
          (IsAscending-lower (end_of (grains_of_segment s)) low high (map grains_of_segment (filter p ss))
          (omega (arith, asc.0, asc.1)) rest)
    ]

pub order_left : (ss : List Segment) (base : Address) → AreSegmentsInOrder ss → AreSegmentsInOrder (without_segment ss base)
order_left ss base order = record {
  aligned =
      aligned_filtered (λ (t : Segment). t.base ≡ address_of_grain (grain_of t.base)) (λ s. not (s.base == base)) ss order.aligned;
  ascending = ascending_filtered (λ s. not (s.base == base)) 1 (max_grains + 1) ss order.ascending;
}
