-- What a collector does with one address and with one reference word, in words and in ids.
use Rattle.std.specs.Prelude.{◌≡◌, ◌≢◌, ℕ, ◌+◌, ◌<◌, ◌≤◌, Bool, true, false, ◌==◌, IsTrue, Option, Some, None, List, [], ◌∷◌, slice_get, slice_set, slice_index, refl}
use Rattle.mps_base.specs.Address.{Address, Id, Word, word_of}
use Rattle.mps_base.specs.Run.{Run, with_run, without_run}
use Rattle.mps_format.specs.Layout.{Layout, IsBlockSize}
use Rattle.mps_model.specs.Graph.{Object, Reservation, entry_at, is_automatic}
use Rattle.mps_model.specs.World.{extent}
use Rattle.mps_abstract.specs.Colours.{Colours, is_white, keeping}
use Rattle.mps_trace_laws.specs.Image.Memory.{Setting, Memory, Lies, LiesReserved}
use Rattle.mps_trace_laws.specs.Image.Image.{MeansAt, IsAddress, CellSet, with_cell, ImageStands}
use Rattle.mps_amc.specs.Moving.{AreCopied}

-- ---- words, marks and runs

-- n free words for a block of a pool
pub record AreAtHand (s : Setting) (addresses : List (Option Address)) (to : Address) (size pool : ℕ) : Type 0 where
  pub address : IsAddress to
  pub within : word_of to + size ≤ s.size
  pub free : (k j l : ℕ) (p : Object) → k < size → Lies s.objects addresses j l p (word_of to + k) → ⊥
  pub unreserved : (k point l : ℕ) (r : Reservation) → k < size → LiesReserved s.points s.point_memories point l r (word_of to + k) → ⊥
  pub not_condemned : (k : ℕ) → k < size → s.is_condemned_over (word_of to + k) ≡ false
  pub home : (k : ℕ) → k < size → s.pool_over (word_of to + k) ≡ Some pool

-- the mark at a word is set, and no other changes
pub record IsMarkSet (marks marks' : Word → Bool) (word : Word) : Type 0 where
  pub set : marks' word ≡ true
  pub others : (n : Word) → n ≢ word → marks' n ≡ marks n

-- the mark at a word is cleared, and no other changes
pub record IsMarkCleared (marks marks' : Word → Bool) (word : Word) : Type 0 where
  pub clear : marks' word ≡ false
  pub others : (n : Word) → n ≢ word → marks' n ≡ marks n

-- the marks after a block has moved: none where it was, and where it is now it is grey
pub record AreMarksMoved (kept grey kept' grey' : Word → Bool) (from to : Word) : Type 0 where
  pub set : grey' to ≡ true
  pub kept_clear : kept' from ≡ false
  pub grey_clear : grey' from ≡ false
  pub kept_others : (n : Word) → n ≢ from → n ≢ to → kept' n ≡ kept n
  pub grey_others : (n : Word) → n ≢ from → n ≢ to → grey' n ≡ grey n

-- runs after a block of n words has moved
abbrev pub run_moved_in : List Run → (from to : Address) → (size : ℕ) → List Run
run_moved_in rs from to size = with_run (extent to size) (without_run (word_of from) rs)

-- the memory after a block was kept where it is
abbrev pub marked_in : Memory → (kept grey : Word → Bool) → Memory
marked_in m kept grey = record m { kept = kept; grey = grey }

-- and after one of n words has moved
abbrev pub copied_in : Memory → (words : List ℕ) → (kept grey : Word → Bool) → (from to : Address) → (size : ℕ) → Memory
copied_in m words kept grey from to size = record m {
  words = words;
  kept = kept;
  grey = grey;
  blocks = run_moved_in m.blocks from to size;
  covered = run_moved_in m.covered from to size;
}

-- ---- in words

-- an address that means an automatic object, which is live and whose words are read: where that is now
pub record Target (s : Setting) (addresses : List (Option Address)) (t : Id) (address now : Address) (p : Object) : Type 0 where
  pub means : MeansAt addresses s.at_flip address t
  pub there : entry_at addresses t ≡ Some now
  pub object : slice_get s.objects t ≡ Some p
  pub automatic : IsTrue (is_automatic p)
  pub read : IsTrue (s.is_read t)

-- no forwarded block begins at an address, in a pool
abbrev pub IsNotForwarded : Setting → List ℕ → (at : Address) → (pool : ℕ) → Type 0
IsNotForwarded s words at pool = (size : ℕ) → IsBlockSize size → slice_index words (word_of at) ≢ (s.layout pool).forwarded_head size

-- what code finds at an address in a condemned segment where a block is that isn't kept yet
pub record IsToKeep (s : Setting) (m : Memory) (at : Address) (pool : ℕ) : Type 0 where
  pub condemned : IsTrue (s.is_condemned_over (word_of at))
  pub over : s.pool_over (word_of at) ≡ Some pool
  pub not_forwarded : IsNotForwarded s m.words at pool
  pub not_kept : m.kept (word_of at) ≡ false

-- what code does with an address, and the address that it answers. It knows addresses, words, segments and marks, and no objects
pub data FixAt (s : Setting) (addresses : List (Option Address)) (m : Memory) (at : Address) : (answer : Address) → Memory → Type 0 where
  -- the segment isn't condemned
  passes : s.is_condemned_over (word_of at) ≡ false → FixAt s addresses m at at m
  -- the block has moved
  forwards : (pool size : ℕ) → s.pool_over (word_of at) ≡ Some pool → IsBlockSize size
      → slice_index m.words (word_of at) ≡ (s.layout pool).forwarded_head size
      → FixAt s addresses m at (slice_index m.words (word_of at + 1)) m
  -- it is kept already
  is_kept : (pool : ℕ) → s.pool_over (word_of at) ≡ Some pool → IsNotForwarded s m.words at pool → IsTrue (m.kept (word_of at))
      → FixAt s addresses m at at m
  -- it stays, for want of room or in a pool that doesn't move, and is marked
  stays : (pool : ℕ) (kept' grey' : Word → Bool) → IsToKeep s m at pool → IsMarkSet m.kept kept' (word_of at)
      → IsMarkSet m.grey grey' (word_of at) → FixAt s addresses m at at (marked_in m kept' grey')
  -- it is copied
  copies : (pool to size : ℕ) (words' : List ℕ) (kept' grey' : Word → Bool) → IsToKeep s m at pool
      → size ≡ (s.layout pool).size (slice_index m.words (word_of at)) → AreAtHand s addresses to size pool
      → AreCopied (s.layout pool) m.words words' at to size → AreMarksMoved m.kept m.grey kept' grey' (word_of at) (word_of to)
      → FixAt s addresses m at to (copied_in m words' kept' grey' at to size)

-- what code does with the reference in word n, in which it reads an address, of a block with the layout f
pub data FixWord (s : Setting) (addresses : List (Option Address)) (f : Layout) (m : Memory) (n : Word) (address : Address) : Memory
    → Type 0
  where
    null : address ≡ 0 → FixWord s addresses f m n address m
    writes : {m' : Memory} (answer : Address) → 0 < address → FixAt s addresses m address answer m'
        → FixWord s addresses f m n address (record m' { words = slice_set m'.words n (f.retarget (slice_index m.words n) answer) })

-- ---- in ids

-- the addresses after an object has moved
abbrev pub address_moved : List (Option Address) → Id → (to : Address) → List (Option Address)
address_moved addresses id to = slice_set addresses id (Some to)

-- what happens to addresses and colours if a reference to null or to an object is fixed
pub data FixesOne (condemned : List Id) (addresses : List (Option Address)) (k : Colours) : Option Id → List (Option Address) → Colours
    → Type 0
  where
    nothing : FixesOne condemned addresses k None addresses k
    passed : (t : Id) → is_white condemned k t ≡ false → FixesOne condemned addresses k (Some t) addresses k
    -- it stays, or is marked
    kept : (t : Id) → is_white condemned k t ≡ true → FixesOne condemned addresses k (Some t) addresses (keeping k t)
    moved : (t : Id) (from to : Address) → is_white condemned k t ≡ true → entry_at addresses t ≡ Some from
        → FixesOne condemned addresses k (Some t) (address_moved addresses t to) (keeping k t)

-- the image after an address that means an object was fixed
pub record IsFixedAt (s : Setting) (m : Memory) (addresses : List (Option Address)) (k : Colours) (done : CellSet) (t : Id)
    (answer : Address)
    : Type 0 where
  pub addresses_after : List (Option Address)
  pub colours_after : Colours
  pub step : FixesOne s.condemned addresses k (Some t) addresses_after colours_after
  -- the answer is where it is now
  pub there : entry_at addresses_after t ≡ Some answer
  pub not_white : is_white s.condemned colours_after t ≡ false
  pub stands : ImageStands s m addresses_after colours_after done

-- the image after cell i of an object was fixed
pub record IsFixedCell (s : Setting) (m : Memory) (addresses : List (Option Address)) (k : Colours) (done : CellSet) (target : Option Id)
    (holder i : ℕ) : Type 0 where
  pub addresses_after : List (Option Address)
  pub colours_after : Colours
  pub step : FixesOne s.condemned addresses k target addresses_after colours_after
  pub stands : ImageStands s m addresses_after colours_after (with_cell done holder i)

-- ---- vectors: a block of two words at 24 is copied to 40

pub its_run_is_taken_out_and_put_in :
    run_moved_in (record { from = 1; count = 2 } ∷ record { from = 3; count = 2 } ∷ []) 24 40 2
    ≡ record { from = 1; count = 2 } ∷ record { from = 5; count = 2 } ∷ []
its_run_is_taken_out_and_put_in = refl

pub no_other_address_changes : address_moved (Some 8 ∷ Some 24 ∷ []) 1 40 ≡ Some 8 ∷ Some 40 ∷ []
no_other_address_changes = refl

pub a_mark_that_is_left : AreMarksMoved (λ n. n == 3) (λ n. false) (λ n. n == 3) (λ n. n == 5) 3 5 → ⊥
a_mark_that_is_left m = let e : true ≡ false = m.kept_clear in absurd cc
