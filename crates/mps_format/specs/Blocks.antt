-- Words in memory as blocks, forwarded blocks and pads.
use Rattle.std.specs.Prelude.{◌≡◌, ℕ, ◌≤◌, List, length, slice_index, IsTrue}
use Rattle.mps_format.specs.Layout.{Layout, IsBlockSize, IsPadLength}

-- the words are exactly one block
pub record IsBlock (f : Layout) (words : List ℕ) : Type 0 where
  pub valid : IsTrue (f.is_valid (slice_index words 0))
  pub whole : length words ≡ f.size (slice_index words 0)

-- a whole block begins the words
pub record BeginsBlock (f : Layout) (words : List ℕ) : Type 0 where
  pub valid : IsTrue (f.is_valid (slice_index words 0))
  pub whole : f.size (slice_index words 0) ≤ length words

-- a whole forwarded block of this size begins the words. Its target is word 1, and what its other words hold is open
pub record BeginsForwarded (f : Layout) (words : List ℕ) (size : ℕ) : Type 0 where
  pub in_range : IsBlockSize size
  pub whole : size ≤ length words
  pub head : slice_index words 0 ≡ f.forwarded_head size

-- a whole pad of this length begins the words. What its other words hold is open
pub record BeginsPad (f : Layout) (words : List ℕ) (pad : ℕ) : Type 0 where
  pub in_range : IsPadLength pad
  pub whole : pad ≤ length words
  pub head : slice_index words 0 ≡ f.pad_head pad

-- a whole block, forwarded block or pad begins the words
pub data BeginsWhole (f : Layout) (words : List ℕ) : Type 0 where
  whole_block : BeginsBlock f words → BeginsWhole f words
  whole_forwarded : (size : ℕ) → BeginsForwarded f words size → BeginsWhole f words
  whole_pad : (pad : ℕ) → BeginsPad f words pad → BeginsWhole f words
