-- How the tables of an arena represent what its callers see.
use Rattle.std.specs.Prelude.{ℕ, zero, suc, ◌*◌, ◌+◌, ◌-◌, ◌≤◌, ◌<◌, ◌≡◌, min, Contains, List, [], ◌∷◌, length, get_or, refl}
use Rattle.std.proofs.Common.{arith}
use Rattle.mps_base.specs.Run.{Run, IsAscending, end_of, total}
use Rattle.mps_arena.specs.Grains.{runs_in}
use Rattle.mps_arena.specs.Arena.{ArenaMemory}
use Rattle.mps_base.specs.Address.{words_of_grain, max_grains, max_block_words}

-- what a caller sees of an arena with these words, this table of runs and this limit
abbrev pub memory_of : List ℕ → List ℕ → ℕ → ArenaMemory
memory_of words runs limit = record { words = words; grains = length runs - 1; limit = limit; held = runs_in runs }

-- the runs lie in the grains from 1 on and don't overlap, their sum is known, and it is at most the limit
pub record IsSoundArena (words runs : List ℕ) (committed limit : ℕ) : Type 0 where
  pub nonempty : 1 < length runs
  pub at_most : length runs ≤ max_grains + 1
  pub size : length words ≡ words_of_grain * length runs
  pub ascending : IsAscending 1 (length runs) (runs_in runs)
  pub counted : committed ≡ total (runs_in runs)
  pub within_limit : committed ≤ limit

-- the words of each run are stored, and as many after them as a block may have, or all that there are
abbrev pub AreStored : (runs : List Run) → (all stored : ℕ) → Type 0
AreStored runs all stored = (r : Run) → Contains runs r → min all (words_of_grain * end_of r + max_block_words) ≤ stored

-- n runs, each of which begins where the one before ends, are the grains from `low` up to `high`
unfoldable pub AreFilled : ℕ → List ℕ → ℕ → ℕ → Type 0
AreFilled zero table low high = low ≡ high
AreFilled (suc n) table low high = (0 < get_or table low 0) × AreFilled n table (low + get_or table low 0) high

-- all grains below `high` are held, grain 0 aside, and no run goes on from below it
abbrev pub AreHeldBelow : List ℕ → ℕ → Type 0
AreHeldBelow table high = (n : ℕ) × AreFilled n table 1 high

-- grains 1 to 3 are held, by runs of 2 grains and of 1, and grain 4 is free
pub three_grains_are_held : AreHeldBelow (0 ∷ 2 ∷ 0 ∷ 1 ∷ 0 ∷ []) 4
unfolding AreFilled
three_grains_are_held = (2, (omega arith, (omega arith, refl)))

-- grain 2 is free, so no number of runs fills grains 1 to 3
pub not_over_a_free_grain : (n : ℕ) → AreFilled n (0 ∷ 1 ∷ 0 ∷ 1 ∷ []) 1 4 → ⊥
unfolding AreFilled
not_over_a_free_grain zero filled = absurd (omega (arith, filled))
not_over_a_free_grain (suc zero) filled = absurd (omega (arith, filled.1))
not_over_a_free_grain (suc (suc n)) filled = absurd (omega (arith, filled.1.0))
