-- The runs that begin between two words, one after the other.
use Rattle.std.proofs.Common.{ℕ, ◌<◌, ◌≤◌, ◌≡◌, ◌⊎◌, ◌&&◌, true, false, ltb, leb, Some, None, List, [], ◌∷◌, Contains, refl, sym, ap, ◌∙◌, inl, inr, arith}
use Rattle.std.proofs.lemmas.Bool.{cases_lt, cond-true, cond-false, le-leb, lt-ltb, lt-leb, le-ltb, and_from, and_left, and_right}
use Rattle.mps_base.specs.Run.{Run, end_of, IsAscending, runs_within}
use Rattle.mps_base.proofs.Runs.{contains_first, contains_later}
use Rattle.mps_extents.specs.Extents.{first_run, is_covered, has_word}

module _ (low high : ℕ) (r : Run) (rs : List Run) where
  pub within_here : low ≤ r.from → r.from < high → runs_within low high (r ∷ rs) ≡ r ∷ runs_within low high rs
  within_here above below =
      cond-true (leb low r.from && ltb r.from high) (r ∷ runs_within low high rs) (runs_within low high rs)
      (and_from (leb low r.from) (ltb r.from high) (le-leb low r.from above) (lt-ltb r.from high below))

  outside : (r.from < low) ⊎ (high ≤ r.from) → (leb low r.from && ltb r.from high) ≡ false
  outside (inl below) = and_left (leb low r.from) (ltb r.from high) (lt-leb low r.from below)
  outside (inr above) = and_right (leb low r.from) (ltb r.from high) (le-ltb r.from high above)

  pub within_later : (r.from < low) ⊎ (high ≤ r.from) → runs_within low high (r ∷ rs) ≡ runs_within low high rs
  within_later out =
      cond-false (leb low r.from && ltb r.from high) (r ∷ runs_within low high rs) (runs_within low high rs) (outside out)

  first_here : low ≤ r.from → r.from < high → first_run low high (r ∷ rs) ≡ Some r.from
  first_here above below =
      cond-true (leb low r.from && ltb r.from high) (Some r.from) (first_run low high rs)
      (and_from (leb low r.from) (ltb r.from high) (le-leb low r.from above) (lt-ltb r.from high below))

  first_later : (r.from < low) ⊎ (high ≤ r.from) → first_run low high (r ∷ rs) ≡ first_run low high rs
  first_later out = cond-false (leb low r.from && ltb r.from high) (Some r.from) (first_run low high rs) (outside out)

-- whether a run begins between two words
pub sides : (low high from : ℕ) → ((low ≤ from) × (from < high)) ⊎ ((from < low) ⊎ (high ≤ from))
sides low high from =
    elim (cases_lt from low) [
      | inl before ↦ inr (inl before)
      | inr after ↦ elim (cases_lt from high) [ inl below ↦ inl (after, below) | inr past ↦ inr (inr past) ]
    ]

-- where all runs begin from a word on, no lower word bounds them
within_from : (low low' high a b : ℕ) (rs : List Run) → IsAscending a b rs → low ≤ a → low' ≤ a
    → runs_within low high rs ≡ runs_within low' high rs
within_from low low' high a b [] ascending above above' = refl
within_from low low' high a b (r ∷ rs) ascending above above' =
    let rest = within_from low low' high (end_of r) b rs ascending.2 (omega (arith, ascending.0)) (omega (arith, ascending.0)) in
    elim (cases_lt r.from high) [
      | inl below ↦
          within_here low high r rs (omega (arith, ascending.0)) below ∙ ap (λ (xs : List Run). r ∷ xs) rest
          ∙ sym (within_here low' high r rs (omega (arith, ascending.0)) below)
      | inr past ↦ within_later low high r rs (inr past) ∙ rest ∙ sym (within_later low' high r rs (inr past))
    ]

-- the first of the runs that begin between two words
pub record NextRun (low high : ℕ) (rs : List Run) (at : ℕ) : Type 0 where
  pub run : Run
  pub there : Contains rs run
  pub begins : run.from ≡ at
  pub above : low ≤ at
  pub below : at < high
  pub some : 0 < run.count
  pub rest : runs_within low high rs ≡ run ∷ runs_within (end_of run) high rs

pub next_run : (a b low high : ℕ) (rs : List Run) (at : ℕ) → IsAscending a b rs → Some at ≡ first_run low high rs → NextRun low high rs at
next_run a b low high [] at ascending is = let never : Some at ≡ None = is in cc
next_run a b low high (r ∷ rs) at ascending is =
    elim (sides low high r.from) [
      | inl (from, under) ↦
          let both : Some at ≡ Some r.from = is ∙ first_here low high r rs from under in
          let same : at ≡ r.from = cc in
          record {
            run = r;
            there = contains_first rs r;
            begins = sym same;
            above = omega (arith, same, from);
            below = omega (arith, same, under);
            some = ascending.1;
            rest =
                within_here low high r rs from under
                ∙ ap (λ (xs : List Run). r ∷ xs)
                (within_from low (end_of r) high (end_of r) b rs ascending.2 (omega (arith, from)) (omega arith)
                ∙ sym (within_later (end_of r) high r rs (inl (omega (arith, ascending.1)))));
          }
      | inr out ↦
          let f : NextRun low high rs at = next_run (end_of r) b low high rs at ascending.2 (is ∙ first_later low high r rs out) in
          let past : (r.from < end_of f.run) ⊎ (high ≤ r.from) = side f.run out f.above f.begins in
          record {
            run = f.run;
            there = contains_later rs f.run r f.there;
            begins = f.begins;
            above = f.above;
            below = f.below;
            some = f.some;
            rest =
                within_later low high r rs out ∙ f.rest
                ∙ ap (λ (xs : List Run). f.run ∷ xs) (sym (within_later (end_of f.run) high r rs past));
          }
    ]
  where
    side : {low high from at : ℕ} (s : Run) → (from < low) ⊎ (high ≤ from) → low ≤ at → s.from ≡ at
        → (from < end_of s) ⊎ (high ≤ from)
    side s (inl before) above begins = inl (omega (arith, above, begins, before))
    side s (inr past) above begins = inr past

-- ---- which words the runs have

pub word_of_run : (r : Run) (rs : List Run) (k : ℕ) → r.from ≤ k → k < end_of r → is_covered (r ∷ rs) k ≡ true
word_of_run r rs k from under =
    cond-true (has_word r k) true (is_covered rs k)
    (and_from (leb r.from k) (ltb k (end_of r)) (le-leb r.from k from) (lt-ltb k (end_of r) under))
