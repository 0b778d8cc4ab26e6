-- Words that are held lie in the arena and are stored.
use Rattle.std.proofs.Common.{ℕ, ◌+◌, ◌*◌, ◌≤◌, ◌≡◌, ◌⊎◌, ◌<◌, get_or, set, replicate, min, List, [], ◌∷◌, length, Contains, sym, ap, subst, inl, inr, arith}
use Rattle.std.proofs.lemmas.Bool.{cases_eq, cases_lt}
use Rattle.mps_base.specs.Address.{max_block_words, words_of_grain}
use Rattle.mps_base.specs.Run.{Run, end_of, with_run, without_run}
use Rattle.mps_base.proofs.Runs.{contained_bounds, contains_cases, contains_later, with_run_first, with_run_later, without_run_first, without_run_later}
use Rattle.mps_arena.specs.Arena.{AreHeldWords}
use Rattle.mps_arena.specs.Grains.{runs_in}
use Rattle.mps_arena.specs.Inside.{AreStored, IsSoundArena}
use Rattle.mps_arena.proofs.Scan.{entry_of, held_after_give, held_after_take, none_held}

pub held_in_arena : (words runs : List ℕ) (committed limit from n : ℕ) → IsSoundArena words runs committed limit
    → AreHeldWords (runs_in runs) from n → from + n ≤ length words
held_in_arena words runs committed limit from n sound held =
    let bounds = contained_bounds 1 (length runs) (runs_in runs) held.run sound.ascending held.listed in
    omega (arith, sound.size, held.before, bounds.2)

-- held words are stored, and so are as many from the first of them on as a block may have
pub held_are_stored : (runs : List Run) (all stored from n : ℕ) → AreStored runs all stored → AreHeldWords runs from n → from + n ≤ all
    → from + n ≤ stored
held_are_stored runs all stored from n are held within = omega (arith, are held.run held.listed, held.before, within)

pub block_is_stored : (runs : List Run) (all stored from n : ℕ) → AreStored runs all stored → AreHeldWords runs from 1
    → n ≤ max_block_words → from + n ≤ all → from + n ≤ stored
block_is_stored runs all stored from n are held few within = omega (arith, are held.run held.listed, held.before, few, within)

-- ---- as the runs and the stored words change

with_run_contains : (rs : List Run) (r x : Run) → Contains (with_run r rs) x → (r ≡ x) ⊎ Contains rs x
with_run_contains [] r x there = contains_cases [] x r there
with_run_contains (s ∷ rs) r x there =
    let P : List Run → Type 0 = λ l. Contains l x in
    elim (cases_lt r.from s.from) [
      | inl before ↦ contains_cases (s ∷ rs) x r (subst P (with_run_first r s rs before) there)
      | inr after ↦
          elim (contains_cases (with_run r rs) x s (subst P (with_run_later r s rs after) there)) [
            | inl same ↦ inr (0, omega arith, same)
            | inr later ↦ elim (with_run_contains rs r x later) [
              | inl new ↦ inl new
              | inr old ↦ inr (contains_later rs x s old)
            ]
          ]
    ]

without_run_contains : (rs : List Run) (from : ℕ) (x : Run) → Contains (without_run from rs) x → Contains rs x
without_run_contains [] from x there = there
without_run_contains (s ∷ rs) from x there =
    let P : List Run → Type 0 = λ l. Contains l x in
    elim (cases_eq from s.from) [
      | inl here ↦ contains_later rs x s (subst P (without_run_first from s rs here) there)
      | inr other ↦
          elim (contains_cases (without_run from rs) x s (subst P (without_run_later from s rs other) there)) [
            | inl same ↦ (0, omega arith, same)
            | inr later ↦ contains_later rs x s (without_run_contains rs from x later)
          ]
    ]

pub stored_with_run : (runs : List Run) (r : Run) (all stored more : ℕ) → AreStored runs all stored → stored ≤ more
    → min all (words_of_grain * end_of r + max_block_words) ≤ more → AreStored (with_run r runs) all more
stored_with_run runs r all stored more are grown new x there =
    elim (with_run_contains runs r x there) [
      | inl same ↦ omega (arith, ap (λ (y : Run). end_of y) same, new)
      | inr old ↦ omega (arith, are x old, grown)
    ]

pub stored_without_run : (runs : List Run) (from all stored : ℕ) → AreStored runs all stored → AreStored (without_run from runs) all stored
stored_without_run runs from all stored are x there = are x (without_run_contains runs from x there)

pub stored_after_take : (table : List ℕ) (grain need all stored more : ℕ) → grain < length table → get_or table grain 0 ≡ 0 → 0 < need
    → AreStored (runs_in table) all stored → stored ≤ more → min all (words_of_grain * (grain + need) + max_block_words) ≤ more
    → AreStored (runs_in (set table grain need)) all more
stored_after_take table grain need all stored more within none some are grown new =
    subst (λ (rs : List Run). AreStored rs all more) (sym (held_after_take table grain need within none some))
    (stored_with_run (runs_in table) (record { from = grain; count = need }) all stored more are grown new)

pub stored_after_give : (table : List ℕ) (r : Run) (all stored : ℕ) → Contains (runs_in table) r → AreStored (runs_in table) all stored
    → AreStored (runs_in (set table r.from 0)) all stored
stored_after_give table r all stored there are =
    let entry = entry_of table r there in
    subst (λ (rs : List Run). AreStored rs all stored)
    (sym (held_after_give table r.from entry.0 (omega (arith, entry.1, entry.2))))
    (stored_without_run (runs_in table) r.from all stored are)

pub none_are_stored : (n all stored : ℕ) → AreStored (runs_in (replicate n 0)) all stored
none_are_stored n all stored =
    subst (λ (rs : List Run). AreStored rs all stored) (sym (none_held n)) (λ r (k, within, is). absurd (omega arith))
