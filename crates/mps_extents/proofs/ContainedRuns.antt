-- Which runs a list of ascending runs contains, after one is put among them or taken out.
use Rattle.std.proofs.Common.{ℕ, ◌<◌, ◌≡◌, List, [], ◌∷◌, Contains, refl, sym, ap, ◌∙◌, subst, inl, inr, arith, ◌≤◌, ◌⊎◌, leb, ltb, ◌≢◌, ◌&&◌}
use Rattle.std.proofs.lemmas.Bool.{cases_lt, both_ways, cases_Bool, cond-true, cond-false, le-leb, lt-ltb, and_from, cases_eq}
use Rattle.mps_base.proofs.Runs.{with_run_first, with_run_later, without_run_first, without_run_later, contains_cases, contains_first, contains_later, contained_bounds}
use Rattle.mps_base.specs.Run.{Run, IsAscending, with_run, without_run, end_of, runs_within}
use Rattle.mps_extents.specs.Extents.{AreWhole}

pub contains_put_cases : (r t : Run) (rs : List Run) → Contains (with_run r rs) t → (r ≡ t) ⊎ Contains rs t
contains_put_cases r t [] there = elim (contains_cases [] t r there) [ inl same ↦ inl same | inr later ↦ inr later ]
contains_put_cases r t (s ∷ rs) there =
    let P : List Run → Type 0 = λ xs. Contains xs t in
    elim (cases_lt r.from s.from) [
      | inl before ↦ contains_cases (s ∷ rs) t r (subst P (with_run_first r s rs before) there)
      | inr after ↦ elim (contains_cases (with_run r rs) t s (subst P (with_run_later r s rs after) there)) [
        | inl same ↦ inr (subst (λ (x : Run). Contains (s ∷ rs) x) same (contains_first rs s))
        | inr later ↦ elim (contains_put_cases r t rs later) [ inl same ↦ inl same | inr in_rest ↦ inr (contains_later rs t s in_rest) ]
      ]
    ]

pub contains_put_other : (r t : Run) (rs : List Run) → Contains rs t → Contains (with_run r rs) t
contains_put_other r t [] (k, within, is) = absurd (omega arith)
contains_put_other r t (s ∷ rs) there =
    let P : List Run → Type 0 = λ xs. Contains xs t in
    elim (cases_lt r.from s.from) [
      | inl before ↦ subst P (sym (with_run_first r s rs before)) (contains_later (s ∷ rs) t r there)
      | inr after ↦ subst P (sym (with_run_later r s rs after)) (elim (contains_cases rs t s there) [
        | inl same ↦ subst (λ (x : Run). Contains (s ∷ with_run r rs) x) same (contains_first (with_run r rs) s)
        | inr later ↦ contains_later (with_run r rs) t s (contains_put_other r t rs later)
      ])
    ]

pub contains_without : (from : ℕ) (t : Run) (rs : List Run) → Contains (without_run from rs) t → Contains rs t
contains_without from t [] there = there
contains_without from t (s ∷ rs) there =
    let P : List Run → Type 0 = λ xs. Contains xs t in
    elim (cases_eq from s.from) [
      | inl here ↦ contains_later rs t s (subst P (without_run_first from s rs here) there)
      | inr other ↦ elim (contains_cases (without_run from rs) t s (subst P (without_run_later from s rs other) there)) [
        | inl same ↦ subst (λ (x : Run). Contains (s ∷ rs) x) same (contains_first rs s)
        | inr later ↦ contains_later rs t s (contains_without from t rs later)
      ]
    ]

-- a run that begins elsewhere stays
pub contains_still : (from : ℕ) (t : Run) (rs : List Run) → Contains rs t → t.from ≢ from → Contains (without_run from rs) t
contains_still from t [] (k, within, is) other = absurd (omega arith)
contains_still from t (s ∷ rs) there other =
    let P : List Run → Type 0 = λ xs. Contains xs t in
    elim (cases_eq from s.from) [
      | inl here ↦ subst P (sym (without_run_first from s rs here)) (elim (contains_cases rs t s there) [
        | inl same ↦ absurd (other (sym (here ∙ ap (λ (x : Run). x.from) same)))
        | inr later ↦ later
      ])
      | inr not_here ↦ subst P (sym (without_run_later from s rs not_here)) (elim (contains_cases rs t s there) [
        | inl same ↦ subst (λ (x : Run). Contains (s ∷ without_run from rs) x) same (contains_first (without_run from rs) s)
        | inr later ↦ contains_later (without_run from rs) t s (contains_still from t rs later other)
      ])
    ]

-- a run taken out of ascending ones, and put back
pub taken_and_put : (low high : ℕ) (rs : List Run) (r : Run) → IsAscending low high rs → Contains rs r
    → with_run r (without_run r.from rs) ≡ rs
taken_and_put low high [] r ascending (k, within, is) = absurd (omega arith)
taken_and_put low high (s ∷ rs) r ascending there =
    elim (contains_cases rs r s there) [
      | inl same ↦
          ap (λ (xs : List Run). with_run r xs) (without_run_first r.from s rs (ap (λ (x : Run). x.from) (sym same)))
          ∙ before_all (end_of s) high rs r ascending.2 (omega (arith, ascending.1, ap (λ (x : Run). x.from) same))
          ∙ ap (λ (x : Run). x ∷ rs) (sym same)
      | inr later ↦
          let bounds = contained_bounds (end_of s) high rs r ascending.2 later in
          ap (λ (xs : List Run). with_run r xs) (without_run_later r.from s rs (λ e. omega (arith, bounds.0, ascending.1, e)))
          ∙ with_run_later r s (without_run r.from rs) (omega (arith, bounds.0))
          ∙ ap (λ (xs : List Run). s ∷ xs) (taken_and_put (end_of s) high rs r ascending.2 later)
    ]
  where
    before_all : (low high : ℕ) (rs : List Run) (r : Run) → IsAscending low high rs → r.from < low → with_run r rs ≡ r ∷ rs
    before_all low high [] r ascending before = refl
    before_all low high (s ∷ rs) r ascending before = with_run_first r s rs (omega (arith, ascending.0))

-- the extents that begin in a run of words
pub begins_within : (low high : ℕ) (rs : List Run) (t : Run) → Contains rs t → low ≤ t.from → t.from < high
    → Contains (runs_within low high rs) t
begins_within low high [] t (k, within, is) above below = absurd (omega arith)
begins_within low high (s ∷ rs) t there above below =
    let P : List Run → Type 0 = λ xs. Contains xs t in
    elim (cases_Bool (leb low s.from && ltb s.from high)) [
      | inl inside ↦
          let here = cond-true (leb low s.from && ltb s.from high) (s ∷ runs_within low high rs) (runs_within low high rs) inside in
          subst P (sym here) (elim (contains_cases rs t s there) [
            | inl same ↦ subst (λ (x : Run). Contains (s ∷ runs_within low high rs) x) same (contains_first (runs_within low high rs) s)
            | inr later ↦ contains_later (runs_within low high rs) t s (begins_within low high rs t later above below)
          ])
      | inr outside ↦
          let here = cond-false (leb low s.from && ltb s.from high) (s ∷ runs_within low high rs) (runs_within low high rs) outside in
          subst P (sym here) (elim (contains_cases rs t s there) [
            | inl same ↦
                let from : s.from ≡ t.from = ap (λ (x : Run). x.from) same in
                absurd (both_ways (leb low s.from && ltb s.from high) outside
                (and_from (leb low s.from) (ltb s.from high) (le-leb low s.from (omega (arith, from)))
                (lt-ltb s.from high (omega (arith, from)))))
            | inr later ↦ begins_within low high rs t later above below
          ])
    ]

-- ascending runs that begin at one number are one
pub same_count : (low high : ℕ) (rs : List Run) (r s : Run) → IsAscending low high rs → Contains rs r → Contains rs s → r.from ≡ s.from
    → r.count ≡ s.count
same_count low high [] r s ascending (k, within, is) there e = absurd (omega arith)
same_count low high (t ∷ rs) r s ascending here there e =
    elim (contains_cases rs r t here) [
      | inl first ↦ elim (contains_cases rs s t there) [
        | inl same ↦ ap (λ (x : Run). x.count) (sym first ∙ same)
        | inr later ↦
            let bounds = contained_bounds (end_of t) high rs s ascending.2 later in
            absurd (omega (arith, bounds.0, ap (λ (x : Run). x.from) first, e, ascending.1))
      ]
      | inr following ↦ elim (contains_cases rs s t there) [
        | inl same ↦
            let bounds = contained_bounds (end_of t) high rs r ascending.2 following in
            absurd (omega (arith, bounds.0, ap (λ (x : Run). x.from) same, e, ascending.1))
        | inr later ↦ same_count (end_of t) high rs r s ascending.2 following later e
      ]
    ]

-- a run that lies apart from each of ascending runs can be put among them
pub put_apart : (low high : ℕ) (rs : List Run) (r : Run) → IsAscending low high rs → 0 < r.count → low ≤ r.from → end_of r ≤ high
    → ((t : Run) → Contains rs t → (end_of r ≤ t.from) ⊎ (end_of t ≤ r.from)) → IsAscending low high (with_run r rs)
put_apart low high [] r ascending some above below apart = (above, some, below)
put_apart low high (s ∷ rs) r ascending some above below apart =
    let P : List Run → Type 0 = λ xs. IsAscending low high xs in
    let first = apart s (contains_first rs s) in
    elim (cases_lt r.from s.from) [
      | inl before ↦
          let room : end_of r ≤ s.from =
          elim first [ inl following ↦ following | inr ahead ↦ absurd (omega (arith, ahead, ascending.1)) ]
          in
          subst P (sym (with_run_first r s rs before)) (above, some, (room, ascending.1, ascending.2))
      | inr after ↦
          let room : end_of s ≤ r.from = elim first [ inl following ↦ absurd (omega (arith, following, some)) | inr ahead ↦ ahead ] in
          subst P (sym (with_run_later r s rs after)) (
            ascending.0,
            ascending.1,
            put_apart (end_of s) high rs r ascending.2 some room below
                (λ t there. apart t (contains_later rs t s there)),
          )
    ]

-- each run that is whole lies below the bounds, above them or between them
pub side_of : (low high : ℕ) (rs : List Run) (t : Run) → AreWhole low high rs → Contains rs t
    → (end_of t ≤ low) ⊎ ((high ≤ t.from) ⊎ ((low ≤ t.from) × (t.from < high)))
side_of low high [] t whole (k, within, is) = absurd (omega arith)
side_of low high (s ∷ rs) t whole there =
    elim (contains_cases rs t s there) [
      | inl same ↦
          let from : s.from ≡ t.from = ap (λ (x : Run). x.from) same in
          let end : end_of s ≡ end_of t = ap (λ (x : Run). end_of x) same in
          elim (cases_lt t.from low) [
            | inl before ↦ inl (omega (arith, end, whole.0.1 (omega (arith, from))))
            | inr begun ↦ elim (cases_lt t.from high) [ inl under ↦ inr (inr (begun, under)) | inr past ↦ inr (inl past) ]
          ]
      | inr later ↦ side_of low high rs t whole.1 later
    ]
