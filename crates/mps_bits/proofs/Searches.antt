-- The lowest and the highest index that passes a test.
use Rattle.std.proofs.Common.{ℕ, zero, suc, ◌+◌, ◌<◌, ◌≤◌, ◌≡◌, Bool, true, false, Some, None, refl, sym, ap, ◌∙◌, inl, inr, arith}
use Rattle.std.proofs.lemmas.Bool.{cases_lt, cases_Bool, cond-true, cond-false}
use Rattle.mps_bits.specs.Table.{lowest_from, highest_below}

-- the lowest index from `from` on that passes a test
pub record IsLowest (p : ℕ → Bool) (from n index : ℕ) : Type 0 where
  pub above : from ≤ index
  pub below : index < from + n
  pub passes : p index ≡ true
  pub lower : (i : ℕ) → from ≤ i → i < index → p i ≡ false

pub lowest_from_is : (p : ℕ → Bool) (from n index : ℕ) → IsLowest p from n index → lowest_from p from n ≡ Some index
unfolding lowest_from
lowest_from_is p from zero index is = absurd (omega (arith, is.above, is.below))
lowest_from_is p from (suc n) index is =
    elim (cases_lt from index) [
      | inl later ↦
          cond-false (p from) (Some from) (lowest_from p (suc from) n) (is.lower from (omega arith) later)
          ∙ lowest_from_is p (suc from) n index (record {
            above = omega arith;
            below = omega (arith, is.below);
            passes = is.passes;
            lower = λ i above below. is.lower i (omega arith) below;
          })
      | inr here ↦
          let same : from ≡ index = omega (arith, is.above) in
          cond-true (p from) (Some from) (lowest_from p (suc from) n) (ap p same ∙ is.passes) ∙ ap (λ (i : ℕ). Some i) same
    ]

pub lowest_from_none : (p : ℕ → Bool) (from n : ℕ) → ((i : ℕ) → from ≤ i → i < from + n → p i ≡ false) → lowest_from p from n ≡ None
unfolding lowest_from
lowest_from_none p from zero none = refl
lowest_from_none p from (suc n) none =
    cond-false (p from) (Some from) (lowest_from p (suc from) n) (none from (omega arith) (omega arith))
    ∙ lowest_from_none p (suc from) n (λ i above below. none i (omega arith) (omega arith))

-- a test that fails at each index, or the lowest index that passes it
pub data Lowest (p : ℕ → Bool) (from n : ℕ) : Type 0 where
  found : (index : ℕ) → lowest_from p from n ≡ Some index → IsLowest p from n index → Lowest p from n
  missing : lowest_from p from n ≡ None → ((i : ℕ) → from ≤ i → i < from + n → p i ≡ false) → Lowest p from n

pub lowest_cases : (p : ℕ → Bool) (from n : ℕ) → Lowest p from n
lowest_cases p from zero =
    let none : (i : ℕ) → from ≤ i → i < from + 0 → p i ≡ false = λ i above below. absurd (omega arith) in missing
    (lowest_from_none p from 0 none) none
lowest_cases p from (suc n) =
    elim (cases_Bool (p from)) [
      | inl passes ↦
          let is : IsLowest p from (suc n) from =
          record { above = omega arith; below = omega arith; passes = passes; lower = λ i above below. absurd (omega arith) }
          in
          found from (lowest_from_is p from (suc n) from is) is
      | inr fails ↦ elim (lowest_cases p (suc from) n) [
        | found index is_some is ↦
            let here : IsLowest p from (suc n) index = record {
              above = omega (arith, is.above);
              below = omega (arith, is.below);
              passes = is.passes;
              lower = λ i above below. elim (cases_lt from i) [
                | inl after ↦ is.lower i (omega arith) below
                | inr first ↦ let same : i ≡ from = omega arith in ap p same ∙ fails
              ];
            } in
            found index (lowest_from_is p from (suc n) index here) here
        | missing is_none none ↦
            let here : (i : ℕ) → from ≤ i → i < from + suc n → p i ≡ false = λ i above below. elim (cases_lt from i) [
              | inl after ↦ none i (omega arith) (omega arith)
              | inr first ↦ let same : i ≡ from = omega arith in ap p same ∙ fails
            ] in
            missing (lowest_from_none p from (suc n) here) here
      ]
    ]

-- the highest of the `n` lowest indexes that passes a test
pub record IsHighest (p : ℕ → Bool) (n index : ℕ) : Type 0 where
  pub below : index < n
  pub passes : p index ≡ true
  pub higher : (i : ℕ) → index < i → i < n → p i ≡ false

pub highest_below_is : (p : ℕ → Bool) (n index : ℕ) → IsHighest p n index → highest_below p n ≡ Some index
unfolding highest_below
highest_below_is p zero index is = absurd (omega (arith, is.below))
highest_below_is p (suc n) index is =
    elim (cases_lt index n) [
      | inl earlier ↦
          cond-false (p n) (Some n) (highest_below p n) (is.higher n earlier (omega arith))
          ∙ highest_below_is p n index
          (record { below = earlier; passes = is.passes; higher = λ i above below. is.higher i above (omega arith) })
      | inr here ↦
          let same : n ≡ index = omega (arith, is.below) in
          cond-true (p n) (Some n) (highest_below p n) (ap p same ∙ is.passes) ∙ ap (λ (i : ℕ). Some i) same
    ]

pub highest_below_none : (p : ℕ → Bool) (n : ℕ) → ((i : ℕ) → i < n → p i ≡ false) → highest_below p n ≡ None
unfolding highest_below
highest_below_none p zero none = refl
highest_below_none p (suc n) none =
    cond-false (p n) (Some n) (highest_below p n) (none n (omega arith)) ∙ highest_below_none p n (λ i below. none i (omega arith))

pub highest_found : (p : ℕ → Bool) (n index : ℕ) → highest_below p n ≡ Some index → IsHighest p n index
unfolding highest_below
highest_found p zero index is = let never : None ≡ Some index = is in cc
highest_found p (suc n) index is =
    elim (cases_Bool (p n)) [
      | inl passes ↦
          let both : Some n ≡ Some index = sym (cond-true (p n) (Some n) (highest_below p n) passes) ∙ is in
          let same : n ≡ index = cc in
          record {
            below = omega (arith, same);
            passes = ap p (sym same) ∙ passes;
            higher = λ i above below. absurd (omega (arith, same, above, below));
          }
      | inr fails ↦
          let rest = highest_found p n index (sym (cond-false (p n) (Some n) (highest_below p n) fails) ∙ is) in
          record {
            below = omega (arith, rest.below);
            passes = rest.passes;
            higher = λ i above below. elim (cases_lt i n) [
              | inl under ↦ rest.higher i above under
              | inr here ↦ let same : i ≡ n = omega arith in ap p same ∙ fails
            ];
          }
    ]

pub highest_missing : (p : ℕ → Bool) (n : ℕ) → highest_below p n ≡ None → (i : ℕ) → i < n → p i ≡ false
unfolding highest_below
highest_missing p zero is i below = absurd (omega arith)
highest_missing p (suc n) is i below =
    elim (cases_Bool (p n)) [
      | inl passes ↦ let never : Some n ≡ None = sym (cond-true (p n) (Some n) (highest_below p n) passes) ∙ is in cc
      | inr fails ↦ elim (cases_lt i n) [
        | inl under ↦ highest_missing p n (sym (cond-false (p n) (Some n) (highest_below p n) fails) ∙ is) i under
        | inr here ↦ let same : i ≡ n = omega arith in ap p same ∙ fails
      ]
    ]
