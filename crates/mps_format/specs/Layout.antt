-- What a client object format says of words, and what makes a format lawful. A format is known by these functions alone.
use Rattle.std.specs.Prelude.{◌≡◌, ◌≢◌, ℕ, ◌+◌, ◌-◌, ◌%◌, ◌^◌, ◌<◌, ◌≤◌, Bool, IsTrue}

-- what a format says of words. A size is in words and counts the head; cell 0 of a block is its head
pub record Layout : Type 0 where
  -- whether the word is the head of a block
  pub is_valid : ℕ → Bool
  -- the size of a block with this head
  pub size : ℕ → ℕ
  -- whether this cell of a block with this head is a reference
  pub is_reference : ℕ → ℕ → Bool
  -- the head of a forwarded block of this size
  pub forwarded_head : ℕ → ℕ
  -- the head of a pad of this length
  pub pad_head : ℕ → ℕ
  -- the address that a reference word leads to
  pub target : ℕ → ℕ
  -- the reference word with this address as its target, and its tag as before
  pub retarget : ℕ → ℕ → ℕ

-- a block has 2 to 65,536 words
abbrev pub IsBlockSize : ℕ → Type 0
IsBlockSize n = (2 ≤ n) × (n ≤ 65536)

-- a pad has 1 to 65,536 words
abbrev pub IsPadLength : ℕ → Type 0
IsPadLength n = (1 ≤ n) × (n ≤ 65536)

-- valid heads, forwarded heads and pad heads are words, and no word is of two of these kinds
pub record AreDisjoint (f : Layout) : Type 0 where
  pub valid_is_word : (h : ℕ) → IsTrue (f.is_valid h) → h < 2 ^ 64
  pub forwarded_is_word : (n : ℕ) → IsBlockSize n → f.forwarded_head n < 2 ^ 64
  pub pad_is_word : (n : ℕ) → IsPadLength n → f.pad_head n < 2 ^ 64
  pub valid_or_forwarded : (h n : ℕ) → IsTrue (f.is_valid h) → IsBlockSize n → h ≢ f.forwarded_head n
  pub valid_or_pad : (h n : ℕ) → IsTrue (f.is_valid h) → IsPadLength n → h ≢ f.pad_head n
  pub forwarded_or_pad : (m n : ℕ) → IsBlockSize m → IsPadLength n → f.forwarded_head m ≢ f.pad_head n

-- the laws of a format. That the head alone decides which cells are references needs no law: `is_reference` sees
-- nothing else. A law speaks of valid heads and of words, which are numbers below 2 ^ 64
pub record IsLawful (f : Layout) : Type 0 where
  -- the size of a valid head
  pub sizes : (h : ℕ) → IsTrue (f.is_valid h) → IsBlockSize (f.size h)
  -- cell 0 is no reference, and a reference cell lies within the block
  pub references : (h k : ℕ) → IsTrue (f.is_valid h) → IsTrue (f.is_reference h k) → (0 < k) × (k < f.size h)
  -- a forwarded head has the size of its block
  pub forwarded_keeps_size : (m n : ℕ) → IsBlockSize m → IsBlockSize n → f.forwarded_head m ≡ f.forwarded_head n → m ≡ n
  -- no word is of two kinds
  pub disjoint : AreDisjoint f
  -- a pad head has the length of its pad
  pub pad_keeps_length : (m n : ℕ) → IsPadLength m → IsPadLength n → f.pad_head m ≡ f.pad_head n → m ≡ n
  -- the target of a word is the word less its tag, which is its low three bits
  pub target_drops_tag : (w : ℕ) → w < 2 ^ 64 → f.target w ≡ w - w % 8
  -- a word with a new target keeps its tag. Addresses of blocks are multiples of 8
  pub retarget_keeps_tag : (w a : ℕ) → w < 2 ^ 64 → a < 2 ^ 64 → a % 8 ≡ 0 → f.retarget w a ≡ a + w % 8
