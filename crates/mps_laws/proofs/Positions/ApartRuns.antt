-- Runs that are apart, in any order: put in order they ascend, and what lies in a gap between them is apart from each.
use Rattle.std.proofs.Common.{◌≡◌, ◌∙◌, ◌⊎◌, ℕ, ◌<◌, ◌≤◌, Bool, true, false, refl, sym, ap, List, [], ◌∷◌, ◌++◌, Some, None, subst, inl, inr, arith, append-nil, ◌-◌}
use Rattle.std.proofs.lemmas.Bool.{cases_lt, lt-ltb, le-ltb, lt-leb, le-leb}
use Rattle.std.specs.Prelude.{if◌then◌else◌, nat_lt, nat_le, ◌&&◌}
use Rattle.std.specs.List.{AllByRecursion}
use Rattle.mps_base.specs.Run.{Run, Covers, IsAscending, end_of, gaps, between, lowest_fitting, with_run, in_order, runs_within}
use Rattle.mps_base.proofs.Runs.{with_run_first, with_run_later, IsAscending-bounds, last_gap_short, lowest_fitting_here, lowest_fitting_later}
use Rattle.mps_laws.proofs.InOrder.{all_weaker, all_append, all_put}

-- no number lies in both
abbrev pub AreApart : Run → Run → Type 0
AreApart r s = (n : ℕ) → Covers r n → Covers s n → ⊥

-- each is apart from each that stands later
abbrev pub AreAllApart : List Run → Type 0
AreAllApart [] = Unit {0}
AreAllApart (r ∷ rs) = AllByRecursion (AreApart r) rs × AreAllApart rs

-- from `low` on and below `high`, and not empty
pub record IsRunWithin (low high : ℕ) (r : Run) : Type 0 where
  pub above : low ≤ r.from
  pub below : end_of r ≤ high
  pub some : 0 < r.count

pub apart_parts : (r s : Run) → AreApart r s → 0 < r.count → 0 < s.count → (end_of r ≤ s.from) ⊎ (end_of s ≤ r.from)
apart_parts r s apart some some' =
    elim (cases_lt r.from s.from) [
      | inl before ↦
          elim (cases_lt s.from (end_of r)) [
            | inl over ↦ absurd (apart s.from (omega (arith, before), omega (arith, over)) (omega arith, omega (arith, some')))
            | inr past ↦ inl (omega (arith, past))
          ]
      | inr after ↦
          elim (cases_lt r.from (end_of s)) [
            | inl over ↦ absurd (apart r.from (omega arith, omega (arith, some)) (omega (arith, after), omega (arith, over)))
            | inr past ↦ inr (omega (arith, past))
          ]
    ]

-- ---- put in order

pub ascending_with_run : (low high : ℕ) (r : Run) (rs : List Run) → IsRunWithin low high r → AllByRecursion (AreApart r) rs
    → IsAscending low high rs → IsAscending low high (with_run r rs)
ascending_with_run low high r [] within apart asc =
    (within.above, within.some, within.below)
ascending_with_run low high r (s ∷ rs) within apart asc =
    elim (cases_lt r.from s.from) [
      | inl before ↦
          subst (IsAscending low high) (sym (with_run_first r s rs before)) (
            within.above,
            within.some,
            (
              elim (apart_parts r s apart.0 within.some asc.1) [
                | inl h ↦ h
                | inr h ↦ omega (arith, before, h, asc.1)
              ],
              asc.1,
              asc.2,
            ),
          )
      | inr after ↦
          let past : end_of s ≤ r.from = elim (apart_parts r s apart.0 within.some asc.1) [
            | inl h ↦ omega (arith, after, h, within.some)
            | inr h ↦ h
          ] in
          subst (IsAscending low high) (sym (with_run_later r s rs after)) (
            asc.0,
            asc.1,
            ascending_with_run (end_of s) high r rs (record { above = past; below = within.below; some = within.some }) apart.1 asc.2,
          )
    ]

pub all_in_order : (P : Run → Type 0) (rs : List Run) → AllByRecursion P rs → AllByRecursion P (in_order rs)
all_in_order P [] all = tt
all_in_order P (r ∷ rs) all = all_put (λ (s : Run). s.from) P r (in_order rs) all.0 (all_in_order P rs all.1)

pub all_from_with_run : (P : Run → Type 0) (r : Run) (rs : List Run) → AllByRecursion P (with_run r rs) → P r × AllByRecursion P rs
all_from_with_run P r [] all = (all.0, tt)
all_from_with_run P r (s ∷ rs) all =
    elim (nat_lt r.from s.from) as (λ t. AllByRecursion P (if t then r ∷ s ∷ rs else s ∷ with_run r rs) → P r × AllByRecursion P (s ∷ rs)) [
      | true ↦ (λ a. (a.0, a.1))
      | false ↦ (λ a. let rest = all_from_with_run P r rs a.1 in (rest.0, (a.0, rest.1)))
    ] all

pub all_from_in_order : (P : Run → Type 0) (rs : List Run) → AllByRecursion P (in_order rs) → AllByRecursion P rs
all_from_in_order P [] all = tt
all_from_in_order P (r ∷ rs) all = let a = all_from_with_run P r (in_order rs) all in (a.0, all_from_in_order P rs a.1)

pub ascending_in_order : (high : ℕ) (rs : List Run) → AllByRecursion (IsRunWithin 0 high) rs → AreAllApart rs
    → IsAscending 0 high (in_order rs)
ascending_in_order high [] within apart = omega arith
ascending_in_order high (r ∷ rs) within apart =
    ascending_with_run 0 high r (in_order rs) within.0 (all_in_order (AreApart r) rs apart.0) (ascending_in_order high rs within.1 apart.1)

-- ---- those of a range

-- where each that begins in a range ends in it, those that begin there ascend in it
abbrev pub EndsWithin : (low high : ℕ) → Run → Type 0
EndsWithin low high r = low ≤ r.from → r.from < high → end_of r ≤ high

module _ (from to : ℕ) where
  left_out : (r : Run) (rs : List Run) (a b : Bool) → (a ≡ false) ⊎ (b ≡ false)
      → (if a && b then r ∷ runs_within from to rs else runs_within from to rs) ≡ runs_within from to rs
  left_out r rs true true (inl e) = absurd (cc)
  left_out r rs true true (inr e) = absurd (cc)
  left_out r rs true false e = refl
  left_out r rs false b e = refl

  taken_in : (r : Run) (rs : List Run) (a b : Bool) → a ≡ true → b ≡ true
      → (if a && b then r ∷ runs_within from to rs else runs_within from to rs) ≡ r ∷ runs_within from to rs
  taken_in r rs a b e f = rw (e, f) refl

  pub ascending_within : (start low high : ℕ) (rs : List Run) → start ≤ to → ((n : ℕ) → low ≤ n → from ≤ n → start ≤ n)
      → AllByRecursion (EndsWithin from to) rs → IsAscending low high rs → IsAscending start to (runs_within from to rs)
  ascending_within start low high [] order starts ends asc = order
  ascending_within start low high (r ∷ rs) order starts ends asc =
      let later : (n : ℕ) → end_of r ≤ n → from ≤ n → start ≤ n = λ n h k. starts n (omega (arith, h, asc.0, asc.1)) k in
      elim (cases_lt r.from from) [
        | inl before ↦
            subst (IsAscending start to) (sym (left_out r rs (nat_le from r.from) (nat_lt r.from to) (inl (lt-leb from r.from before))))
            (ascending_within start (end_of r) high rs order later ends.1 asc.2)
        | inr above ↦
            elim (cases_lt r.from to) [
              | inr past ↦
                  subst (IsAscending start to) (sym (left_out r rs (nat_le from r.from) (nat_lt r.from to) (inr (le-ltb r.from to past))))
                  (ascending_within start (end_of r) high rs order later ends.1 asc.2)
              | inl below ↦
                  subst (IsAscending start to)
                  (sym (taken_in r rs (nat_le from r.from) (nat_lt r.from to) (le-leb from r.from above) (lt-ltb r.from to below))) (
                    starts r.from asc.0 above,
                    asc.1,
                    ascending_within (end_of r) (end_of r) high rs (ends.0 above below) (λ n h k. h) ends.1 asc.2,
                  )
            ]
      ]

  -- a fact of each that begins in the range holds of all of them
  pub all_runs_within : (P : Run → Type 0) (rs : List Run) → AllByRecursion P (runs_within from to rs)
      → AllByRecursion (λ (r : Run). from ≤ r.from → r.from < to → P r) rs
  all_runs_within P [] all = tt
  all_runs_within P (r ∷ rs) all =
      elim (cases_lt r.from from) [
        | inl before ↦
            let rest = subst (AllByRecursion P) (left_out r rs (nat_le from r.from) (nat_lt r.from to)
            (inl (lt-leb from r.from before))) all in
            ((λ h k. absurd (omega (arith, h, before))), all_runs_within P rs rest)
        | inr above ↦
            elim (cases_lt r.from to) [
              | inr past ↦
                  let rest = subst (AllByRecursion P) (left_out r rs (nat_le from r.from) (nat_lt r.from to)
                  (inr (le-ltb r.from to past))) all in
                  ((λ h k. absurd (omega (arith, k, past))), all_runs_within P rs rest)
              | inl below ↦
                  let both = subst (AllByRecursion P) (taken_in r rs (nat_le from r.from) (nat_lt r.from to) (le-leb from r.from above)
                  (lt-ltb r.from to below)) all in
                  ((λ h k. both.0), all_runs_within P rs both.1)
            ]
      ]

-- ---- in a gap

-- the lowest gap that fits lies above, where runs may also lie past the end of the range; a run put there leaves them ascending
pub record IsInLowestGap (low limit : ℕ) (rs : List Run) (need place : ℕ) : Type 0 where
  pub above : low ≤ place
  pub ascending : IsAscending low limit (with_run (record { from = place; count = need }) rs)

pub lowest_gap : (low high limit : ℕ) (rs : List Run) (need place : ℕ) → 0 < need → high ≤ limit → IsAscending low limit rs
    → lowest_fitting need (gaps low high rs) ≡ Some place → IsInLowestGap low limit rs need place
lowest_gap low high limit [] need place some order asc is =
    elim (cases_lt (high - low) need) [
      | inl short ↦
          let none : lowest_fitting need (gaps low high []) ≡ None = last_gap_short need low high some short in
          let never : None ≡ Some place = sym none ∙ is in
          cc
      | inr fits ↦
          let here : lowest_fitting need (gaps low high []) ≡ Some low =
          ap (lowest_fitting need) (sym (append-nil (between low high)))
          ∙ lowest_fitting_here need low high [] some (omega (arith, some, fits)) in
          let both : Some low ≡ Some place = sym here ∙ is in
          let same : low ≡ place = cc in
          record { above = omega (arith, same); ascending = (omega (arith, same), some, omega (arith, same, some, fits, order)) }
    ]
lowest_gap low high limit (r ∷ rs) need place some order asc is =
    elim (cases_lt (r.from - low) need) [
      | inl short ↦
          let later = lowest_fitting_later need low r.from (gaps (end_of r) high rs) some short in
          let rest = lowest_gap (end_of r) high limit rs need place some order asc.2 (sym later ∙ is) in
          let new : Run = record { from = place; count = need } in
          record {
            above = omega (arith, rest.above, asc.0);
            ascending =
                subst (IsAscending low limit) (sym (with_run_later new r rs (omega (arith, rest.above)))) (asc.0, asc.1, rest.ascending);
          }
      | inr fits ↦
          let here = lowest_fitting_here need low r.from (gaps (end_of r) high rs) some (omega (arith, some, fits)) in
          let both : Some low ≡ Some place = sym here ∙ is in
          let same : low ≡ place = cc in
          let new : Run = record { from = place; count = need } in
          let bounds = IsAscending-bounds (end_of r) limit rs asc.2 in
          record {
            above = omega (arith, same);
            ascending =
                subst (IsAscending low limit) (sym (with_run_first new r rs (omega (arith, same, some, fits))))
                (omega (arith, same), some, (omega (arith, same, some, fits), asc.1, asc.2));
          }
    ]

pub all_above : (low high : ℕ) (rs : List Run) → IsAscending low high rs → AllByRecursion (λ (r : Run). low ≤ r.from) rs
all_above low high [] asc = tt
all_above low high (r ∷ rs) asc = (
  asc.0,
  all_weaker (λ s. end_of r ≤ s.from) (λ s. low ≤ s.from) rs (λ s h. omega (arith, h, asc.0))
      (all_above (end_of r) high rs asc.2),
)

-- what is put among ascending runs, so that they ascend, is above their beginning and apart from each
pub put_above : (low high : ℕ) (new : Run) (rs : List Run) → IsAscending low high (with_run new rs) → low ≤ new.from
put_above low high new [] asc = asc.0
put_above low high new (r ∷ rs) asc =
    elim (cases_lt new.from r.from) [
      | inl before ↦ (subst (IsAscending low high) (with_run_first new r rs before) asc).0
      | inr after ↦
          let a = subst (IsAscending low high) (with_run_later new r rs after) asc in
          let rest = put_above (end_of r) high new rs a.2 in
          omega (arith, rest, a.0)
    ]

pub put_apart : (low high : ℕ) (new : Run) (rs : List Run) → IsAscending low high (with_run new rs) → AllByRecursion (AreApart new) rs
put_apart low high new [] asc = tt
put_apart low high new (r ∷ rs) asc =
    elim (cases_lt new.from r.from) [
      | inl before ↦
          let a = subst (IsAscending low high) (with_run_first new r rs before) asc in
          all_weaker (λ s. end_of new ≤ s.from) (AreApart new) (r ∷ rs) (λ s h n i j. omega (arith, h, i.1, j.0))
          (all_above (end_of new) high (r ∷ rs) a.2)
      | inr after ↦
          let a = subst (IsAscending low high) (with_run_later new r rs after) asc in
          let past = put_above (end_of r) high new rs a.2 in
          ((λ n i j. omega (arith, past, i.0, j.1)), put_apart (end_of r) high new rs a.2)
    ]

pub put_below : (low high : ℕ) (new : Run) (rs : List Run) → IsAscending low high (with_run new rs) → end_of new ≤ high
put_below low high new [] asc = asc.2
put_below low high new (r ∷ rs) asc =
    elim (cases_lt new.from r.from) [
      | inl before ↦
          let a = subst (IsAscending low high) (with_run_first new r rs before) asc in
          IsAscending-bounds (end_of new) high (r ∷ rs) a.2
      | inr after ↦
          let a = subst (IsAscending low high) (with_run_later new r rs after) asc in
          put_below (end_of r) high new rs a.2
    ]

pub apart_append : (xs ys : List Run) → AreAllApart xs → AreAllApart ys → AllByRecursion (λ x. AllByRecursion (AreApart x) ys) xs
    → AreAllApart (xs ++ ys)
apart_append [] ys these those across = those
apart_append (x ∷ xs) ys these those across =
    (all_append (AreApart x) xs ys these.0 across.0, apart_append xs ys these.1 those across.1)
