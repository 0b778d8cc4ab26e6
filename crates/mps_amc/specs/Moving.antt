-- How a block moves in words. What the segments have of it then is defined with them.
use Rattle.std.specs.Prelude.{◌≡◌, ◌≢◌, ℕ, ◌+◌, ◌<◌, ◌≤◌, IsTrue, List, [], ◌∷◌, length, slice_index, drop}
use Rattle.std.proofs.Common.{arith, lit<}
use Rattle.mps_base.specs.Address.{Address, Word, word_of}
use Rattle.mps_format.specs.Layout.{Layout}
use Rattle.mps_format.specs.Blocks.{BeginsForwarded}
use Rattle.mps_format.specs.Front.{front_layout}
pub use Rattle.mps_seg.specs.Moving.{run_at, IsBlockOf, moved_to, kept_in_place, nailed}

-- a block was copied, and where it was it is forwarded now. What its other words hold is open
pub record AreCopied (f : Layout) (words words' : List ℕ) (from to : Address) (size : ℕ) : Type 0 where
  pub long : length words' ≡ length words
  pub copied : (k : ℕ) → k < size → slice_index words' (word_of to + k) ≡ slice_index words (word_of from + k)
  pub begins : BeginsForwarded f (drop (word_of from) words') size
  pub leads : slice_index words' (word_of from + 1) ≡ to
  pub others : (n : Word) → ((k : ℕ) → k < size → n ≢ word_of from + k) → ((k : ℕ) → k < size → n ≢ word_of to + k)
      → slice_index words' n ≡ slice_index words n

-- the size that the head at an address gives
abbrev pub size_at : Layout → (words : List ℕ) → Address → ℕ
size_at f words at = f.size (slice_index words (word_of at))

-- the head of a block stands at an address, and its words lie in the arena
pub record BlockStands (f : Layout) (words : List ℕ) (at : Address) (size : ℕ) : Type 0 where
  pub valid : IsTrue (f.is_valid (slice_index words (word_of at)))
  pub whole : size ≡ size_at f words at
  pub within : word_of at + size ≤ length words

-- a forwarded block begins at an address, and leads to another
pub record IsForwarded (f : Layout) (words : List ℕ) (at to : Address) : Type 0 where
  pub size : ℕ
  pub begins : BeginsForwarded f (drop (word_of at) words) size
  pub leads : to ≡ slice_index words (word_of at + 1)

-- no forwarded block begins at an address
abbrev pub IsUnforwarded : Layout → (words : List ℕ) → Address → Type 0
IsUnforwarded f words at = (size : ℕ) → BeginsForwarded f (drop (word_of at) words) size → ⊥

-- ---- vectors: a block of two words at 24 is copied to 40

pub a_word_that_is_not_copied :
    AreCopied front_layout (0 ∷ 0 ∷ 0 ∷ 0x201 ∷ 7 ∷ 0 ∷ 0 ∷ []) (0 ∷ 0 ∷ 0 ∷ 0x204 ∷ 40 ∷ 0x201 ∷ 0 ∷ []) 24 40 2 → ⊥
a_word_that_is_not_copied c = let e : 0 ≡ 7 = c.copied 1 (lit< tt) in omega (arith, e)

-- the forwarding word leads to the old address
pub a_block_that_leads_nowhere :
    AreCopied front_layout (0 ∷ 0 ∷ 0 ∷ 0x201 ∷ 7 ∷ 0 ∷ 0 ∷ []) (0 ∷ 0 ∷ 0 ∷ 0x204 ∷ 24 ∷ 0x201 ∷ 7 ∷ []) 24 40 2 → ⊥
a_block_that_leads_nowhere c = let e : 24 ≡ 40 = c.leads in omega (arith, e)
