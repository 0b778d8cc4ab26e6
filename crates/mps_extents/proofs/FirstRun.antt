-- The first run that begins from a number on.
use Rattle.std.proofs.Common.{rules, Option, IfSome, IfNone, ℕ, zero, suc, ◌+◌, ◌<◌, ◌≡◌, Bool, true, false, List, [], ◌∷◌, get_or, set, refl, sym, ap, ◌∙◌, inl, inr, arith, ◌≤◌, ◌⊎◌, leb, ltb, ◌&&◌, Some, None, ◌-◌}
use Rattle.std.proofs.lemmas.Bool.{true≢false, false≢true, cases_lt, cases_Bool, cond-true, cond-false, le-leb, lt-ltb, lt-leb, le-ltb, ltb-true, and_parts, and_from, and_left, and_right}
use Rattle.mps_base.specs.Run.{Run, end_of, IsAscending, runs_within}
use Rattle.mps_bits.proofs.Searches.{found, missing, lowest_cases}
use Rattle.mps_bits.specs.Table.{bit, next_set_below}
use Rattle.mps_extents.specs.Extents.{first_run, IsFirstWithin}
use Rattle.mps_extents.specs.Inside.{runs_with, length_at, extents}
use Rattle.mps_extents.proofs.WrittenBits.{bit_is}

first_run_here : (low high : ℕ) (r : Run) (rs : List Run) → low ≤ r.from → r.from < high → first_run low high (r ∷ rs) ≡ Some r.from
first_run_here low high r rs above below =
    cond-true (leb low r.from && ltb r.from high) (Some r.from) (first_run low high rs)
    (and_from (leb low r.from) (ltb r.from high) (le-leb low r.from above) (lt-ltb r.from high below))

first_run_later : (low high : ℕ) (r : Run) (rs : List Run) → (r.from < low) ⊎ (high ≤ r.from)
    → first_run low high (r ∷ rs) ≡ first_run low high rs
first_run_later low high r rs (inl below) =
    cond-false (leb low r.from && ltb r.from high) (Some r.from) (first_run low high rs)
    (and_left (leb low r.from) (ltb r.from high) (lt-leb low r.from below))
first_run_later low high r rs (inr above) =
    cond-false (leb low r.from && ltb r.from high) (Some r.from) (first_run low high rs)
    (and_right (leb low r.from) (ltb r.from high) (le-ltb r.from high above))

-- the first run begins below the bound
pub first_run-below : (low high : ℕ) (rs : List Run) (at : ℕ) → first_run low high rs ≡ Some at → at < high
first_run-below low high [] at is = let never : None ≡ Some at = is in cc
first_run-below low high (r ∷ rs) at is =
    elim (cases_Bool (leb low r.from && ltb r.from high)) [
      | inl here ↦
          let both : Some r.from ≡ Some at =
          sym (cond-true (leb low r.from && ltb r.from high) (Some r.from) (first_run low high rs) here) ∙ is
          in
          let same : r.from ≡ at = cc in
          omega (arith, same, ltb-true r.from high (and_parts (leb low r.from) (ltb r.from high) here).1)
      | inr not_here ↦
          first_run-below low high rs at
          (sym (cond-false (leb low r.from && ltb r.from high) (Some r.from) (first_run low high rs) not_here) ∙ is)
    ]

first_bit : (f : ℕ → ℕ) (at : ℕ) (bits : List Bool) (low high i : ℕ) → low ≤ at + i → at + i < high → get_or bits i false ≡ true
    → ((j : ℕ) → low ≤ at + j → j < i → get_or bits j false ≡ false)
    → first_run low high (runs_with f at bits) ≡ Some (at + i)
unfolding runs_with
first_bit f at [] low high i above below set lower = absurd (false≢true set)
first_bit f at (false ∷ bits) low high zero above below set lower = absurd (false≢true set)
first_bit f at (true ∷ bits) low high zero above below set lower =
    let shifted : at ≡ at + 0 = omega arith in
    first_run_here low high (record { from = at; count = f at }) (runs_with f (suc at) bits) (omega arith) (omega arith)
    ∙ ap (λ (n : ℕ). Some n) shifted
first_bit f at (false ∷ bits) low high (suc i) above below set lower =
    let shifted : suc at + i ≡ at + suc i = omega arith in
    first_bit f (suc at) bits low high i (omega arith) (omega arith) set (λ j from under. lower (suc j) (omega arith) (omega arith))
    ∙ ap (λ (n : ℕ). Some n) shifted
first_bit f at (true ∷ bits) low high (suc i) above below set lower =
    let shifted : suc at + i ≡ at + suc i = omega arith in
    elim (cases_lt at low) [
      | inl before ↦
          first_run_later low high (record { from = at; count = f at }) (runs_with f (suc at) bits) (inl before)
          ∙ first_bit f (suc at) bits low high i (omega arith) (omega arith) set
          (λ j from under. lower (suc j) (omega arith) (omega arith)) ∙ ap (λ (n : ℕ). Some n) shifted
      | inr from ↦ absurd (true≢false (lower 0 (omega arith) (omega arith)))
    ]

no_first_bit : (f : ℕ → ℕ) (at : ℕ) (bits : List Bool) (low high : ℕ)
    → ((j : ℕ) → low ≤ at + j → at + j < high → get_or bits j false ≡ false) → first_run low high (runs_with f at bits) ≡ None
unfolding runs_with
no_first_bit f at [] low high none = refl
no_first_bit f at (false ∷ bits) low high none =
    no_first_bit f (suc at) bits low high (λ j from under. none (suc j) (omega arith) (omega arith))
no_first_bit f at (true ∷ bits) low high none =
    let later = no_first_bit f (suc at) bits low high (λ j from under. none (suc j) (omega arith) (omega arith)) in
    elim (cases_lt at low) [
      | inl before ↦ first_run_later low high (record { from = at; count = f at }) (runs_with f (suc at) bits) (inl before) ∙ later
      | inr from ↦ elim (cases_lt at high) [
        | inl under ↦ absurd (true≢false (none 0 (omega arith) (omega arith)))
        | inr past ↦ first_run_later low high (record { from = at; count = f at }) (runs_with f (suc at) bits) (inr past) ∙ later
      ]
    ]

pub first_block_is : (ends blocks : List Bool) (low high : ℕ) → next_set_below blocks low high ≡ first_run low high (extents blocks ends)
unfolding next_set_below
first_block_is ends blocks low high =
    elim (lowest_cases (bit blocks) low (high - low)) [
      | found start is_some is ↦
          let here : 0 + start ≡ start = omega arith in
          is_some ∙ sym (first_bit (length_at ends) 0 blocks low high start (omega (arith, is.above))
          (omega (arith, is.below, is.above)) (sym (bit_is blocks start) ∙ is.passes)
          (λ j from under. sym (bit_is blocks j) ∙ is.lower j (omega arith) under) ∙ ap (λ (n : ℕ). Some n) here)
      | missing is_none none ↦
          is_none ∙ sym (no_first_bit (length_at ends) 0 blocks low high
          (λ j from under. sym (bit_is blocks j) ∙ none j (omega arith) (omega arith)))
    ]

-- the runs but the first of those that begin within bounds begin after it
module _ (low high : ℕ) (r : Run) (rs : List Run) where
  runs_within_here : low ≤ r.from → r.from < high → runs_within low high (r ∷ rs) ≡ r ∷ runs_within low high rs
  runs_within_here above below =
      cond-true (leb low r.from && ltb r.from high) (r ∷ runs_within low high rs) (runs_within low high rs)
      (and_from (leb low r.from) (ltb r.from high) (le-leb low r.from above) (lt-ltb r.from high below))

  runs_within_later : (r.from < low) ⊎ (high ≤ r.from) → runs_within low high (r ∷ rs) ≡ runs_within low high rs
  runs_within_later (inl below) =
      cond-false (leb low r.from && ltb r.from high) (r ∷ runs_within low high rs) (runs_within low high rs)
      (and_left (leb low r.from) (ltb r.from high) (lt-leb low r.from below))
  runs_within_later (inr above) =
      cond-false (leb low r.from && ltb r.from high) (r ∷ runs_within low high rs) (runs_within low high rs)
      (and_right (leb low r.from) (ltb r.from high) (le-ltb r.from high above))

-- where all runs begin from a number on, it is no bound that a lower one isn't
runs_within_from : (low low' high a b : ℕ) (rs : List Run) → IsAscending a b rs → low ≤ a → low' ≤ a
    → runs_within low high rs ≡ runs_within low' high rs
runs_within_from low low' high a b [] ascending above above' = refl
runs_within_from low low' high a b (r ∷ rs) ascending above above' =
    let rest =
    runs_within_from low low' high (end_of r) b rs ascending.2 (omega (arith, ascending.0)) (omega (arith, ascending.0))
    in
    elim (cases_lt r.from high) [
      | inl below ↦
          runs_within_here low high r rs (omega (arith, ascending.0)) below ∙ ap (λ (xs : List Run). r ∷ xs) rest
          ∙ sym (runs_within_here low' high r rs (omega (arith, ascending.0)) below)
      | inr past ↦ runs_within_later low high r rs (inr past) ∙ rest ∙ sym (runs_within_later low' high r rs (inr past))
    ]

abbrev pub IfFirst : (low high : ℕ) → List Run → Option ℕ → Type 0
IfFirst low high rs o = IfSome o (λ at. IsFirstWithin low high rs at)

abbrev pub IfNoneWithin : (low high : ℕ) → List Run → Option ℕ → Type 0
IfNoneWithin low high rs o = IfNone o (runs_within low high rs ≡ [])

first_within_at : (a b low high : ℕ) (rs : List Run) (at : ℕ) → IsAscending a b rs → first_run low high rs ≡ Some at
    → IsFirstWithin low high rs at
first_within_at a b low high [] at ascending is = let never : None ≡ Some at = is in cc
first_within_at a b low high (r ∷ rs) at ascending is =
    let later = λ (out : (r.from < low) ⊎ (high ≤ r.from)).
    let f : IsFirstWithin low high rs at =
    first_within_at (end_of r) b low high rs at ascending.2 (sym (first_run_later low high r rs out) ∙ is)
    in
    let past : (r.from < at + 1) ⊎ (high ≤ r.from) = side out f.above in
    let here : IsFirstWithin low high (r ∷ rs) at = record {
      above = f.above;
      below = f.below;
      run = f.run;
      begins = f.begins;
      rest =
          runs_within_later low high r rs out ∙ f.rest
          ∙ ap (λ (xs : List Run). f.run ∷ xs) (sym (runs_within_later (at + 1) high r rs past));
    } in here
    in
    elim (cases_lt r.from low) [
      | inl before ↦ later (inl before)
      | inr from ↦ elim (cases_lt r.from high) [
        | inr past ↦ later (inr past)
        | inl under ↦
            let both : Some r.from ≡ Some at = sym (first_run_here low high r rs from under) ∙ is in
            let same : r.from ≡ at = cc in
            record {
              above = omega arith;
              below = omega arith;
              run = r;
              begins = same;
              rest =
                  runs_within_here low high r rs from under
                  ∙ ap (λ (xs : List Run). r ∷ xs)
                  (runs_within_from low (at + 1) high (end_of r) b rs ascending.2 (omega arith) (omega (arith, same, ascending.1))
                  ∙ sym (runs_within_later (at + 1) high r rs (inl (omega (arith, same)))));
            }
      ]
    ]
  where
    side : {low high from at : ℕ} → (from < low) ⊎ (high ≤ from) → low ≤ at → (from < at + 1) ⊎ (high ≤ from)
    side (inl below) above = inl (omega arith)
    side (inr past) above = inr past

pub first_within : (a b low high : ℕ) (rs : List Run) (o : Option ℕ) → IsAscending a b rs → o ≡ first_run low high rs
    → IfFirst low high rs o
first_within a b low high rs None ascending is = search rules
first_within a b low high rs (Some at) ascending is = first_within_at a b low high rs at ascending (sym is)

none_at : (low high : ℕ) (rs : List Run) → first_run low high rs ≡ None → runs_within low high rs ≡ []
none_at low high [] is = refl
none_at low high (r ∷ rs) is =
    elim (cases_Bool (leb low r.from && ltb r.from high)) [
      | inl here ↦
          let both : Some r.from ≡ None =
          sym (cond-true (leb low r.from && ltb r.from high) (Some r.from) (first_run low high rs) here) ∙ is
          in cc
      | inr out ↦
          cond-false (leb low r.from && ltb r.from high) (r ∷ runs_within low high rs) (runs_within low high rs) out
          ∙ none_at low high rs (sym (cond-false (leb low r.from && ltb r.from high) (Some r.from) (first_run low high rs) out) ∙ is)
    ]

pub none_within : (low high : ℕ) (rs : List Run) (o : Option ℕ) → o ≡ first_run low high rs → IfNoneWithin low high rs o
none_within low high rs None is = none_at low high rs (sym is)
none_within low high rs (Some at) is = search rules
