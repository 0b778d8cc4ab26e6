-- Numbers of words by index, and bounds of groups of them.
use Rattle.std.specs.Prelude.{◌≡◌, ℕ, ◌*◌, ◌/◌, ◌≤◌, ◌<◌, List, length, get_or}

-- how many indexes have one bound together
abbrev pub indexes_of_group : ℕ
indexes_of_group = 32

-- no number is above the bound of its group, and from an index on each is 0
pub record IsBounded (words bounds : List ℕ) (end : ℕ) : Type 0 where
  pub size : length words ≤ indexes_of_group * length bounds
  pub bounded : (i : ℕ) → get_or words i 0 ≤ get_or bounds (i / indexes_of_group) 0
  pub within : end ≤ length words
  pub zero_after : (i : ℕ) → end ≤ i → get_or words i 0 ≡ 0

-- at none of the indexes from one up to another is the number n or more
abbrev pub HasNone : (n low high : ℕ) → List ℕ → Type 0
HasNone n low high words = (i : ℕ) → low ≤ i → i < high → i < length words → get_or words i 0 < n

-- the lowest index from one on at which the number is n or more
pub record IsLowestWith (n from index : ℕ) (words : List ℕ) : Type 0 where
  pub above : from ≤ index
  pub below : index < length words
  pub enough : n ≤ get_or words index 0
  pub lowest : HasNone n from index words
