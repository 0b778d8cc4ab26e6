-- Words in a row as one row of bits: bit i is bit i % 64 of word i / 64.
use Rattle.std.specs.Prelude.{ℕ, zero, suc, ◌+◌, ◌/◌, ◌%◌, ◌<◌, ◌≤◌, ◌≡◌, List, slice_index}
use Rattle.std.specs.Int.{bit_at}

-- bit i of the row, 0 or 1
unfoldable pub bit_in : List ℕ → ℕ → ℕ
bit_in words i = bit_at (slice_index words (i / 64)) (i % 64)

-- the sum over the `n` indexes from `from` on
unfoldable pub sum_over : (ℕ → ℕ) → ℕ → ℕ → ℕ
sum_over f from zero = 0
sum_over f from (suc n) = f from + sum_over f (suc from) n

-- the bits from `from` up to `to` are clear
abbrev pub IsClear : List ℕ → ℕ → ℕ → Type 0
IsClear words from to = (i : ℕ) → from ≤ i → i < to → bit_in words i ≡ 0

-- the bits from `from` up to `to` are set
abbrev pub IsSet : List ℕ → ℕ → ℕ → Type 0
IsSet words from to = (i : ℕ) → from ≤ i → i < to → bit_in words i ≡ 1

-- the lowest set bit from `from` up to `to`
pub record IsLowestSet (words : List ℕ) (from to index : ℕ) : Type 0 where
  pub above : from ≤ index
  pub below : index < to
  pub set : bit_in words index ≡ 1
  pub lower : IsClear words from index

-- the highest set bit below `to`
pub record IsHighestSet (words : List ℕ) (to index : ℕ) : Type 0 where
  pub below : index < to
  pub set : bit_in words index ≡ 1
  pub higher : IsClear words (index + 1) to

-- no run of `count` clear bits begins from `from` on below `bound`
abbrev pub HasNoRun : List ℕ → ℕ → ℕ → ℕ → Type 0
HasNoRun words from bound count = (p : ℕ) → from ≤ p → p < bound → ¬ IsClear words p (p + count)

-- the lowest run of `count` clear bits from `from` up to `to`
pub record IsLowestRun (words : List ℕ) (from to count index : ℕ) : Type 0 where
  pub above : from ≤ index
  pub below : index + count ≤ to
  pub clear : IsClear words index (index + count)
  pub lower : HasNoRun words from index count
