-- What is true of all dependents.
use Rattle.std.specs.Prelude.{ℕ, ◌≡◌, ◌≤◌, ◌==◌, Bool, true, ◌||◌, List, length}
use Rattle.std.specs.List.{All}
use Rattle.mps_bits.specs.Table.{bit}
use Rattle.mps_dep.specs.declared.dependents.Pair.{Pair}
use Rattle.mps_address_marks.specs.Marks.{mark_of}
use Rattle.mps_dep.specs.Marks.{marks_count}
use Rattle.mps_dep.specs.State.{max_pairs}

-- both addresses of a pair are marked
pub record IsMarked (marks : List Bool) (pair : Pair) : Type 0 where
  pub holder : bit marks (mark_of marks_count pair.holder.0) ≡ true
  pub dependent : bit marks (mark_of marks_count pair.dependent.0) ≡ true

-- all pairs are marked, and there is room for the most that there may be
pub record IsSoundDependents (pairs : List Pair) (marks : List Bool) (capacity : ℕ) : Type 0 where
  pub few : length pairs ≤ max_pairs
  pub room : max_pairs ≤ capacity
  pub whole : length marks ≡ marks_count
  pub marked : All (IsMarked marks) pairs

-- an address of a pair has this mark
abbrev pub has_mark : (mark : ℕ) → Pair → Bool
has_mark mark pair = (mark_of marks_count pair.holder.0 == mark) || (mark_of marks_count pair.dependent.0 == mark)
