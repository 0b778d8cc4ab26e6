-- How the grey blocks of a rank are kept.
use Rattle.std.specs.Prelude.{ℕ, ◌≡◌, ◌*◌, ◌/◌, ◌^◌, ◌<◌, Bool, true, false, List, length, replicate, count_by}
use Rattle.mps_base.specs.Address.{words_of_grain}
use Rattle.mps_bits.specs.Table.{bit}

-- A table by word and one by grain of where grey blocks begin. The count is that of the blocks.
pub record IsTallied (blocks grains : List Bool) (count : ℕ) : Type 0 where
  pub size : length blocks ≡ words_of_grain * length grains
  pub small : length blocks < 2 ^ 32
  pub counted : count_by (λ b. b) blocks ≡ count
  pub grain_of_block : (word : ℕ) → bit blocks word ≡ true → bit grains (word / words_of_grain) ≡ true

-- nothing is kept where it isn't noted that something is
abbrev pub IsNoted : (kept : List Bool) → (is_any_kept : Bool) → Type 0
IsNoted kept is_any_kept = is_any_kept ≡ false → kept ≡ replicate (length kept) false
