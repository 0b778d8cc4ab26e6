-- Runs of clear bits in the lowest bits of one word.
use Rattle.std.specs.Prelude.{ℕ, ◌+◌, ◌<◌, ◌≤◌, ◌≡◌}
use Rattle.std.specs.Int.{bit_at}

-- the `count` bits from `index` on are clear
abbrev pub IsClearIn : ℕ → ℕ → ℕ → Type 0
IsClearIn word index count = (k : ℕ) → k < count → bit_at word (index + k) ≡ 0

-- the lowest run of `count` clear bits among the `width` lowest
pub record IsLowestRunIn (word width count index : ℕ) : Type 0 where
  pub below : index + count ≤ width
  pub clear : IsClearIn word index count
  pub lower : (p : ℕ) → p < index → ¬ IsClearIn word p count
