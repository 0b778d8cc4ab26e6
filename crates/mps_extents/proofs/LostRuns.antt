-- Which runs are lost.
use Rattle.std.proofs.Common.{ℕ, ◌<◌, ◌≤◌, ◌≡◌, ◌&&◌, leb, ltb, Bool, true, false, List, [], ◌∷◌, Contains, refl, sym, ap, ◌∙◌, subst, inl, inr, arith}
use Rattle.std.specs.Prelude.{filter}
use Rattle.std.proofs.lemmas.Bool.{cases_Bool, cond-true, cond-false, and_parts, leb-true, ltb-true, not-true, not_from_false}
use Rattle.mps_base.specs.Run.{Run, end_of, IsAscending, runs_within}
use Rattle.mps_base.proofs.Runs.{IsAscending-lower, contains_cases, contains_first, contains_later}
use Rattle.mps_bits.specs.Table.{bit}
use Rattle.mps_extents.specs.Lost.{is_lost_run, lost_runs}
use Rattle.mps_extents.proofs.ContainedRuns.{begins_within}
use Rattle.mps_extents.proofs.LowestGap.{contains_within}

-- ---- a filter

filter_yes : (p : Run → Bool) (r : Run) (rs : List Run) → p r ≡ true → filter p (r ∷ rs) ≡ r ∷ filter p rs
filter_yes p r rs is = cond-true (p r) (r ∷ filter p rs) (filter p rs) is

filter_no : (p : Run → Bool) (r : Run) (rs : List Run) → p r ≡ false → filter p (r ∷ rs) ≡ filter p rs
filter_no p r rs is = cond-false (p r) (r ∷ filter p rs) (filter p rs) is

filter_member : (p : Run → Bool) (rs : List Run) (r : Run) → Contains (filter p rs) r → Contains rs r × (p r ≡ true)
filter_member p [] r (k, within, is) = absurd (omega arith)
filter_member p (s ∷ rs) r there =
    let P : List Run → Type 0 = λ xs. Contains xs r in
    elim (cases_Bool (p s)) [
      | inl passes ↦ elim (contains_cases (filter p rs) r s (subst P (filter_yes p s rs passes) there)) [
        | inl same ↦ (subst (λ (x : Run). Contains (s ∷ rs) x) same (contains_first rs s), ap p (sym same) ∙ passes)
        | inr later ↦ let rest = filter_member p rs r later in (contains_later rs r s rest.0, rest.1)
      ]
      | inr fails ↦ let rest = filter_member p rs r (subst P (filter_no p s rs fails) there) in (contains_later rs r s rest.0, rest.1)
    ]

filter_has : (p : Run → Bool) (rs : List Run) (r : Run) → Contains rs r → p r ≡ true → Contains (filter p rs) r
filter_has p [] r (k, within, is) passes = absurd (omega arith)
filter_has p (s ∷ rs) r there passes =
    let P : List Run → Type 0 = λ xs. Contains xs r in
    elim (contains_cases rs r s there) [
      | inl same ↦
          let here : p s ≡ true = ap p same ∙ passes in
          subst P (sym (filter_yes p s rs here))
          (subst (λ (x : Run). Contains (s ∷ filter p rs) x) same (contains_first (filter p rs) s))
      | inr later ↦
          let rest = filter_has p rs r later passes in
          elim (cases_Bool (p s)) [
            | inl passes ↦ subst P (sym (filter_yes p s rs passes)) (contains_later (filter p rs) r s rest)
            | inr fails ↦ subst P (sym (filter_no p s rs fails)) rest
          ]
    ]

filter_ascends : (p : Run → Bool) (low high : ℕ) (rs : List Run) → IsAscending low high rs → IsAscending low high (filter p rs)
filter_ascends p low high [] ascending = ascending
filter_ascends p low high (r ∷ rs) ascending =
    let P : List Run → Type 0 = λ xs. IsAscending low high xs in
    elim (cases_Bool (p r)) [
      | inl passes ↦
          subst P (sym (filter_yes p r rs passes)) (ascending.0, ascending.1, filter_ascends p (end_of r) high rs ascending.2)
      | inr fails ↦
          subst P (sym (filter_no p r rs fails)) (filter_ascends p low high rs
          (IsAscending-lower (end_of r) low high rs (omega (arith, ascending.0)) ascending.2))
    ]

-- ---- runs within bounds are those that pass a test

within_is : (low high : ℕ) (rs : List Run) → runs_within low high rs ≡ filter (λ r. leb low r.from && ltb r.from high) rs
within_is low high [] = refl
within_is low high (r ∷ rs) =
    let p : Run → Bool = λ r. leb low r.from && ltb r.from high in
    let rest = within_is low high rs in
    elim (cases_Bool (leb low r.from && ltb r.from high)) [
      | inl passes ↦
          cond-true (leb low r.from && ltb r.from high) (r ∷ runs_within low high rs) (runs_within low high rs) passes
          ∙ ap (λ (xs : List Run). r ∷ xs) rest ∙ sym (filter_yes p r rs passes)
      | inr fails ↦
          cond-false (leb low r.from && ltb r.from high) (r ∷ runs_within low high rs) (runs_within low high rs) fails
          ∙ rest ∙ sym (filter_no p r rs fails)
    ]

pub within_bounds : (low high : ℕ) (rs : List Run) (r : Run) → Contains (runs_within low high rs) r → (low ≤ r.from) × (r.from < high)
within_bounds low high rs r there =
    let P : List Run → Type 0 = λ xs. Contains xs r in
    let passes = (filter_member (λ r. leb low r.from && ltb r.from high) rs r (subst P (within_is low high rs) there)).1 in
    let parts = and_parts (leb low r.from) (ltb r.from high) passes in
    (leb-true low r.from parts.0, ltb-true r.from high parts.1)

within_ascends : (low high a b : ℕ) (rs : List Run) → IsAscending a b rs → IsAscending a b (runs_within low high rs)
within_ascends low high a b rs ascending =
    let P : List Run → Type 0 = λ xs. IsAscending a b xs in
    subst P (sym (within_is low high rs)) (filter_ascends (λ r. leb low r.from && ltb r.from high) a b rs ascending)

-- ---- lost runs

-- a lost run is one of the blocks, begins within the bounds and isn't kept
pub record IsLost (low high : ℕ) (kept : List Bool) (blocks : List Run) (r : Run) : Type 0 where
  pub there : Contains blocks r
  pub above : low ≤ r.from
  pub below : r.from < high
  pub lost : bit kept r.from ≡ false

pub lost_member : (low high : ℕ) (kept : List Bool) (blocks : List Run) (r : Run) → Contains (lost_runs low high kept blocks) r
    → IsLost low high kept blocks r
lost_member low high kept blocks r there =
    let parts = filter_member (is_lost_run kept) (runs_within low high blocks) r there in
    let bounds = within_bounds low high blocks r parts.0 in
    record {
      there = contains_within low high blocks r parts.0;
      above = bounds.0;
      below = bounds.1;
      lost = not-true (bit kept r.from) parts.1;
    }

pub lost_has : (low high : ℕ) (kept : List Bool) (blocks : List Run) (r : Run) → IsLost low high kept blocks r
    → Contains (lost_runs low high kept blocks) r
lost_has low high kept blocks r is =
    filter_has (is_lost_run kept) (runs_within low high blocks) r (begins_within low high blocks r is.there is.above is.below)
    (not_from_false (bit kept r.from) is.lost)

pub lost_ascends : (low high a b : ℕ) (kept : List Bool) (blocks : List Run) → IsAscending a b blocks
    → IsAscending a b (lost_runs low high kept blocks)
lost_ascends low high a b kept blocks ascending =
    filter_ascends (is_lost_run kept) a b (runs_within low high blocks) (within_ascends low high a b blocks ascending)
