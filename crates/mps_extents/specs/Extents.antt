-- The words that blocks and reservations cover, as runs of words in ascending order.
use Rattle.std.specs.Prelude.{ℕ, zero, suc, ◌+◌, ◌≤◌, ◌<◌, ◌≡◌, ◌&&◌, Bool, true, false, nat_le, nat_lt, if◌then◌else◌, Option, Some, None, List, [], ◌∷◌, refl}
use Rattle.std.proofs.Common.{arith}
use Rattle.mps_base.specs.Run.{Run, end_of, runs_within}

-- which of n words are covered, by blocks and by reservations
pub record ExtentLists : Type 0 where
  pub size : ℕ
  -- blocks and reservations together
  pub covered : List Run
  pub blocks : List Run
  pub reservations : List Run

abbrev pub nothing_covered : ℕ → ExtentLists
nothing_covered size = record { size = size; covered = []; blocks = []; reservations = [] }

-- whether a run covers a word
abbrev pub has_word : Run → ℕ → Bool
has_word r word = nat_le r.from word && nat_lt word (end_of r)

-- whether one of the runs covers a word
abbrev pub is_covered : List Run → ℕ → Bool
is_covered [] word = false
is_covered (r ∷ rs) word = if has_word r word then true else is_covered rs word

-- where the run begins that covers a word
abbrev pub run_over : List Run → ℕ → Option ℕ
run_over [] word = None
run_over (r ∷ rs) word = if has_word r word then Some r.from else run_over rs word

-- where the first of the runs begins that begins from `low` on and below `high`
abbrev pub first_run : ℕ → ℕ → List Run → Option ℕ
first_run low high [] = None
first_run low high (r ∷ rs) = if nat_le low r.from && nat_lt r.from high then Some r.from else first_run low high rs

-- one of the runs begins at a number, and the others that begin from `low` on and below `high` begin after it
pub record IsFirstWithin (low high : ℕ) (runs : List Run) (at : ℕ) : Type 0 where
  pub above : low ≤ at
  pub below : at < high
  pub run : Run
  pub begins : run.from ≡ at
  pub rest : runs_within low high runs ≡ run ∷ runs_within (at + 1) high runs

-- a word from `low` on and below `high` that none of the runs has, and the words from `low` up to it have runs
pub record IsLowestUncovered (low high : ℕ) (runs : List Run) (word : ℕ) : Type 0 where
  pub above : low ≤ word
  pub below : word < high
  pub uncovered : is_covered runs word ≡ false
  pub covered : (other : ℕ) → low ≤ other → other < word → is_covered runs other ≡ true

-- no run has words on both sides of one of the two bounds
abbrev pub AreWhole : ℕ → ℕ → List Run → Type 0
AreWhole low high [] = Unit {0}
AreWhole low high (r ∷ rs) = IsWhole low high r × AreWhole low high rs
  where
    IsWhole : ℕ → ℕ → Run → Type 0
    IsWhole low high r = (low ≤ r.from → r.from < high → end_of r ≤ high) × (r.from < low → end_of r ≤ low)

abbrev example : List Run
example = record { from = 2; count = 3 } ∷ record { from = 5; count = 1 } ∷ []

a_word_of_the_first : run_over example 4 ≡ Some 2
a_word_of_the_first = refl

a_word_of_its_neighbour : run_over example 5 ≡ Some 5
a_word_of_its_neighbour = refl

no_word_after : run_over example 6 ≡ None
no_word_after = refl

the_first_from_three : first_run 3 9 example ≡ Some 5
the_first_from_three = refl

none_below_five : first_run 3 5 example ≡ None
none_below_five = refl

four_words : (word : ℕ) → 2 ≤ word → word < 6 → is_covered example word ≡ true
four_words zero above below = absurd (omega (arith, above))
four_words (suc zero) above below = absurd (omega (arith, above))
four_words (suc (suc zero)) above below = refl
four_words (suc (suc (suc zero))) above below = refl
four_words (suc (suc (suc (suc zero)))) above below = refl
four_words (suc (suc (suc (suc (suc zero))))) above below = refl
four_words (suc (suc (suc (suc (suc (suc word)))))) above below = absurd (omega (arith, below))

the_lowest_from_two : IsLowestUncovered 2 9 example 6
the_lowest_from_two = record { above = omega arith; below = omega arith; uncovered = refl; covered = four_words }

not_a_covered_one : IsLowestUncovered 2 9 example 5 → ⊥
not_a_covered_one lowest = let never : true ≡ false = lowest.uncovered in cc

not_the_second : IsLowestUncovered 0 9 example 1 → ⊥
not_the_second lowest = let never : false ≡ true = lowest.covered 0 (omega arith) (omega arith) in cc
