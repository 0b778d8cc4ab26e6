-- How tables of bits represent extents.
use Rattle.std.specs.Prelude.{ℕ, suc, ◌+◌, ◌-◌, ◌<◌, ◌^◌, ◌≡◌, Bool, true, false, not, ◌&&◌, ◌||◌, Option, Some, None, List, [], ◌∷◌, length, map}
use Rattle.std.specs.List.{range_with_len}
use Rattle.mps_base.specs.Run.{Run, IsAscending, total}
use Rattle.mps_bits.specs.Table.{bit, next_set}
use Rattle.mps_extents.specs.Extents.{ExtentLists, is_covered}

-- how many words there are from a first one up to a last one
abbrev pub words_upto : ℕ → Option ℕ → ℕ
words_upto from None = 0
words_upto from (Some last) = last - from + 1

-- how long the extent is that begins at a word: it goes up to the next word that ends an extent
unfoldable pub length_at : List Bool → ℕ → ℕ
length_at ends from = words_upto from (next_set ends from)

-- the runs that begin where a table has a bit, where its first bit is that of a word
unfoldable pub runs_with : (ℕ → ℕ) → ℕ → List Bool → List Run
runs_with count at [] = []
runs_with count at (false ∷ bits) = runs_with count (suc at) bits
runs_with count at (true ∷ bits) = record { from = at; count = count at } ∷ runs_with count (suc at) bits

-- the bits of one table that are clear in another
unfoldable pub minus : List Bool → List Bool → List Bool
minus xs ys = map (λ i. bit xs i && not (bit ys i)) (range_with_len 0 (length xs))

-- the extents that begin where the table has a bit
-- the bits of two tables
unfoldable pub either : List Bool → List Bool → List Bool
either xs ys = map (λ i. bit xs i || bit ys i) (range_with_len 0 (length xs))

abbrev pub extents : List Bool → List Bool → List Run
extents begins ends = runs_with (length_at ends) 0 begins

abbrev pub lists_of : (begins ends blocks : List Bool) → ExtentLists
lists_of begins ends blocks = record {
  size = length begins;
  covered = extents begins ends;
  blocks = extents blocks ends;
  reservations = extents (minus begins blocks) ends;
}

-- The tables fit together: they have one length, a bit of the first is set exactly if an extent has a word, and blocks begin where
-- extents do. Bits of last words are of no account where nothing is covered.
pub record AreSoundTables (covered begins ends blocks : List Bool) : Type 0 where
  pub same_size : (length covered ≡ length begins) × (length ends ≡ length begins) × (length blocks ≡ length begins)
  pub small : length begins < 2 ^ 32
  pub ascending : IsAscending 0 (length begins) (extents begins ends)
  pub covered_is : (word : ℕ) → bit covered word ≡ is_covered (extents begins ends) word
  pub blocks_begin : (word : ℕ) → bit blocks word ≡ true → bit begins word ≡ true

-- no reservation begins where a block does
pub record AreApart (opens blocks : List Bool) : Type 0 where
  pub same_size : length opens ≡ length blocks
  pub no_block : (word : ℕ) → bit opens word ≡ true → bit blocks word ≡ false

-- how many blocks there are, and how many words they have together
pub record IsTally (blocks : List Run) (count words : ℕ) : Type 0 where
  pub counted : count ≡ length blocks
  pub summed : words ≡ total blocks
