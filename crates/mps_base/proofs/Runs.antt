-- Ascending runs: a run put at its place, the lowest gap, the longest one, and how many numbers the runs have.
use Rattle.std.proofs.Common.{ℕ, zero, suc, ◌⊎◌, Contains, ◌+◌, ◌-◌, ◌<◌, ◌≤◌, ◌≡◌, max, ltb, leb, eqb, Some, None, List, [], ◌∷◌, ◌++◌, refl, sym, ap, ◌∙◌, subst, inl, inr, arith}
use Rattle.std.proofs.lemmas.Bool.{cases_lt, cases_eq, cond-true, cond-false, lt-ltb, le-ltb, le-leb, lt-leb, eq-eqb, ne_eqb}
use Rattle.std.proofs.lemmas.List.Sums.{sum_by-cons}
use Rattle.mps_base.specs.Run.{Run, end_of, IsAscending, total, between, gaps, lowest_fitting, longest, with_run, without_run}

-- ---- the front gap

pub between_some : (low high : ℕ) → low < high → between low high ≡ record { from = low; count = high - low } ∷ []
between_some low high h = cond-true (ltb low high) (record { from = low; count = high - low } ∷ []) [] (lt-ltb low high h)

pub between_none : (low high : ℕ) → high ≤ low → between low high ≡ []
between_none low high h = cond-false (ltb low high) (record { from = low; count = high - low } ∷ []) [] (le-ltb low high h)

-- a gap that is too short is passed over
pub lowest_fitting_later : (need low high : ℕ) (rest : List Run) → 0 < need → high - low < need
    → lowest_fitting need (between low high ++ rest) ≡ lowest_fitting need rest
lowest_fitting_later need low high rest some short =
    elim (cases_lt low high) [
      | inl gap ↦
          ap (λ (rs : List Run). lowest_fitting need (rs ++ rest)) (between_some low high gap)
          ∙ cond-false (leb need (high - low)) (Some low) (lowest_fitting need rest) (lt-leb need (high - low) short)
      | inr none ↦ ap (λ (rs : List Run). lowest_fitting need (rs ++ rest)) (between_none low high none)
    ]

-- a front gap that is long enough is the lowest
pub lowest_fitting_here : (need low high : ℕ) (rest : List Run) → 0 < need → low + need ≤ high
    → lowest_fitting need (between low high ++ rest) ≡ Some low
lowest_fitting_here need low high rest some fits =
    ap (λ (rs : List Run). lowest_fitting need (rs ++ rest)) (between_some low high (omega arith))
    ∙ cond-true (leb need (high - low)) (Some low) (lowest_fitting need rest) (le-leb need (high - low) (omega arith))

pub longest_front : (low high : ℕ) (rest : List Run) → longest (between low high ++ rest) ≡ max (high - low) (longest rest)
longest_front low high rest =
    elim (cases_lt low high) [
      | inl gap ↦ ap (λ (rs : List Run). longest (rs ++ rest)) (between_some low high gap)
      | inr none ↦ ap (λ (rs : List Run). longest (rs ++ rest)) (between_none low high none) ∙ omega arith
    ]

append_none : (rs : List Run) → rs ++ [] ≡ rs
append_none [] = refl
append_none (r ∷ rs) = ap (λ (x : List Run). r ∷ x) (append_none rs)

-- the gaps above `low` end at the first run, or at `high`
pub lowest_gap_here : (need low at high : ℕ) (rs : List Run) → 0 < need → low + need ≤ at → IsAscending at high rs
    → lowest_fitting need (gaps low high rs) ≡ Some low
lowest_gap_here need low at high [] some fits ascending =
    ap (lowest_fitting need) (sym (append_none (between low high))) ∙ lowest_fitting_here need low high [] some (omega (arith, ascending))
lowest_gap_here need low at high (r ∷ rs) some fits ascending =
    lowest_fitting_here need low r.from (gaps (end_of r) high rs) some (omega (arith, ascending.0))

pub last_gap_short : (need low high : ℕ) → 0 < need → high - low < need → lowest_fitting need (gaps low high []) ≡ None
last_gap_short need low high some short =
    ap (lowest_fitting need) (sym (append_none (between low high))) ∙ lowest_fitting_later need low high [] some short

pub longest_last : (low high : ℕ) → longest (gaps low high []) ≡ high - low
longest_last low high = ap longest (sym (append_none (between low high))) ∙ longest_front low high [] ∙ omega arith

-- ---- a run in a gap

pub with_run_first : (r s : Run) (rs : List Run) → r.from < s.from → with_run r (s ∷ rs) ≡ r ∷ s ∷ rs
with_run_first r s rs h = cond-true (ltb r.from s.from) (r ∷ s ∷ rs) (s ∷ with_run r rs) (lt-ltb r.from s.from h)

pub with_run_later : (r s : Run) (rs : List Run) → s.from ≤ r.from → with_run r (s ∷ rs) ≡ s ∷ with_run r rs
with_run_later r s rs h = cond-false (ltb r.from s.from) (r ∷ s ∷ rs) (s ∷ with_run r rs) (le-ltb r.from s.from h)

pub without_run_first : (from : ℕ) (r : Run) (rs : List Run) → from ≡ r.from → without_run from (r ∷ rs) ≡ rs
without_run_first from r rs h = cond-true (eqb from r.from) rs (r ∷ without_run from rs) (eq-eqb from r.from h)

pub without_run_later : (from : ℕ) (r : Run) (rs : List Run) → (from ≡ r.from → ⊥) → without_run from (r ∷ rs) ≡ r ∷ without_run from rs
without_run_later from r rs h = cond-false (eqb from r.from) rs (r ∷ without_run from rs) (ne_eqb from r.from h)

pub IsAscending-lower : (low low' high : ℕ) (rs : List Run) → low' ≤ low → IsAscending low high rs → IsAscending low' high rs
IsAscending-lower low low' high [] h ascending = omega (arith, ascending)
IsAscending-lower low low' high (r ∷ rs) h ascending = (omega (arith, ascending.0), ascending.1, ascending.2)

pub IsAscending-bounds : (low high : ℕ) (rs : List Run) → IsAscending low high rs → low ≤ high
IsAscending-bounds low high [] ascending = ascending
IsAscending-bounds low high (r ∷ rs) ascending = omega (arith, ascending.0, ascending.1, IsAscending-bounds (end_of r) high rs ascending.2)

-- the lowest gap that fits lies in range, and a run there leaves the runs ascending
pub record IsInGap (low high : ℕ) (rs : List Run) (need place : ℕ) : Type 0 where
  pub above : low ≤ place
  pub below : place + need ≤ high
  pub ascending : IsAscending low high (with_run (record { from = place; count = need }) rs)

pub in_lowest_gap : (low high : ℕ) (rs : List Run) (need place : ℕ) → 0 < need → IsAscending low high rs
    → lowest_fitting need (gaps low high rs) ≡ Some place → IsInGap low high rs need place
in_lowest_gap low high [] need place some ascending is =
    elim (cases_lt (high - low) need) [
      | inl short ↦
          let none : lowest_fitting need (gaps low high []) ≡ None = last_gap_short need low high some short in
          let never : None ≡ Some place = sym none ∙ is in
          cc
      | inr fits ↦
          let here : lowest_fitting need (gaps low high []) ≡ Some low =
          ap (lowest_fitting need) (sym (append_none (between low high)))
          ∙ lowest_fitting_here need low high [] some (omega (arith, ascending))
          in
          let both : Some low ≡ Some place = sym here ∙ is in
          let same : low ≡ place = cc in
          record {
            above = omega (arith, same);
            below = omega (arith, same, ascending);
            ascending =
                (omega (arith, same), some, omega (arith, same, ascending));
          }
    ]
in_lowest_gap low high (r ∷ rs) need place some ascending is =
    elim (cases_lt (r.from - low) need) [
      | inl short ↦
          let later = lowest_fitting_later need low r.from (gaps (end_of r) high rs) some short in
          let rest = in_lowest_gap (end_of r) high rs need place some ascending.2 (sym later ∙ is) in
          let run : Run = record { from = place; count = need } in
          record {
            above = omega (arith, rest.above, ascending.0);
            below = rest.below;
            ascending =
                let P : List Run → Type 0 = λ x. IsAscending low high x in
                subst P (sym (with_run_later run r rs (omega (arith, rest.above)))) (ascending.0, ascending.1, rest.ascending);
          }
      | inr fits ↦
          let here = lowest_fitting_here need low r.from (gaps (end_of r) high rs) some (omega (arith, ascending.0)) in
          let both : Some low ≡ Some place = sym here ∙ is in
          let same : low ≡ place = cc in
          let run : Run = record { from = place; count = need } in
          let bounds = IsAscending-bounds (end_of r) high rs ascending.2 in
          record {
            above = omega (arith, same);
            below = omega (arith, same, ascending.0, bounds);
            ascending =
                let P : List Run → Type 0 = λ x. IsAscending low high x in
                subst P (sym (with_run_first run r rs (omega (arith, same, ascending.0))))
                (omega (arith, same), some, (omega (arith, same, ascending.0), ascending.1, ascending.2));
          }
    ]

-- ---- how many numbers the runs have

pub total-cons : (r : Run) (rs : List Run) → total (r ∷ rs) ≡ r.count + total rs
total-cons r rs = sum_by-cons (λ (x : Run). x.count) r rs

pub total-with_run : (r : Run) (rs : List Run) → total (with_run r rs) ≡ r.count + total rs
total-with_run r [] = total-cons r []
total-with_run r (s ∷ rs) =
    elim (cases_lt r.from s.from) [
      | inl before ↦ ap total (with_run_first r s rs before) ∙ total-cons r (s ∷ rs)
      | inr after ↦
          ap total (with_run_later r s rs after)
          ∙ omega (arith, total-cons s (with_run r rs), total-cons s rs, total-with_run r rs)
    ]

-- runs without overlap have at most as many numbers as their range
pub total-le : (low high : ℕ) (rs : List Run) → IsAscending low high rs → low + total rs ≤ high
total-le low high [] ascending = omega (arith, ascending)
total-le low high (r ∷ rs) ascending = omega (arith, ascending.0, total-cons r rs, total-le (end_of r) high rs ascending.2)

-- ---- a run taken out

pub contains_cases : (rs : List Run) (r s : Run) → Contains (s ∷ rs) r → (s ≡ r) ⊎ Contains rs r
contains_cases rs r s (zero, within, is) = inl is
contains_cases rs r s (suc k, within, is) = inr (k, omega arith, is)

pub contains_first : (rs : List Run) (r : Run) → Contains (r ∷ rs) r
contains_first rs r = (0, omega arith, refl)

pub contains_later : (rs : List Run) (r s : Run) → Contains rs r → Contains (s ∷ rs) r
contains_later rs r s (k, within, is) = (suc k, omega arith, is)

contains_none : (r : Run) → ¬ Contains [] r
contains_none r (k, within, is) = absurd (omega arith)

-- where a run of ascending ones lies
pub contained_bounds : (low high : ℕ) (rs : List Run) (r : Run) → IsAscending low high rs → Contains rs r → (low ≤ r.from) × (0 < r.count)
    × (end_of r ≤ high)
contained_bounds low high [] r ascending there = absurd (contains_none r there)
contained_bounds low high (s ∷ rs) r ascending there =
    elim (contains_cases rs r s there) [
      | inl same ↦
          let from : s.from ≡ r.from = ap (λ (x : Run). x.from) same in
          let count : s.count ≡ r.count = ap (λ (x : Run). x.count) same in
          let bounds = IsAscending-bounds (end_of s) high rs ascending.2 in
          (omega (arith, from, ascending.0), omega (arith, count, ascending.1), omega (arith, from, count, bounds))
      | inr later ↦
          let inner = contained_bounds (end_of s) high rs r ascending.2 later in
          (omega (arith, inner.0, ascending.0), inner.1, inner.2)
    ]

pub IsAscending-without_run : (low high from : ℕ) (rs : List Run) → IsAscending low high rs → IsAscending low high (without_run from rs)
IsAscending-without_run low high from [] ascending = ascending
IsAscending-without_run low high from (r ∷ rs) ascending =
    let P : List Run → Type 0 = λ x. IsAscending low high x in
    elim (cases_eq from r.from) [
      | inl here ↦ subst P (sym (without_run_first from r rs here))
          (IsAscending-lower (end_of r) low high rs (omega (arith, ascending.0)) ascending.2)
      | inr other ↦
          subst P (sym (without_run_later from r rs other))
          (ascending.0, ascending.1, IsAscending-without_run (end_of r) high from rs ascending.2)
    ]

pub total-without_run : (low high : ℕ) (rs : List Run) (r : Run) → IsAscending low high rs → Contains rs r
    → total (without_run r.from rs) + r.count ≡ total rs
total-without_run low high [] r ascending there = absurd (contains_none r there)
total-without_run low high (s ∷ rs) r ascending there =
    elim (contains_cases rs r s there) [
      | inl same ↦
          let from : s.from ≡ r.from = ap (λ (x : Run). x.from) same in
          let count : s.count ≡ r.count = ap (λ (x : Run). x.count) same in
          omega (arith, ap total (without_run_first r.from s rs (sym from)), total-cons s rs, count)
      | inr later ↦
          let bounds = contained_bounds (end_of s) high rs r ascending.2 later in
          let other = without_run_later r.from s rs (λ e. omega (arith, bounds.0, ascending.1)) in
          omega (
            arith,
            ap total other,
            total-cons s (without_run r.from rs),
            total-cons s rs,
            total-without_run (end_of s) high rs r ascending.2 later,
          )
    ]
