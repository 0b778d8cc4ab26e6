-- The words of a manual block and of a leaf object that are borrowed.
use Rattle.std.specs.Prelude.{◌≡◌, ℕ, ◌+◌, false, not, Ok, Err, List, drop, length, slice_range, Contains}
use Rattle.std.specs.Option.{option_map_or}
use Rattle.mps_base.specs.Address.{Address, word_of}
use Rattle.mps_base.specs.declared.names.Slot.{Slot}
use Rattle.mps_base.specs.declared.refusal.Refusal.{Refusal}
use Rattle.mps_base.specs.declared.refusal.Refusal.TheVariants as refusal
use Rattle.mps_format.specs.Layout.{Layout}
use Rattle.mps_seg.specs.Arena as arena
use Rattle.mps_heap_spec.specs.Checked.{Checked, ◌>>=◌, ◌>>◌, refuse_when}
use Rattle.mps_heap_spec.specs.Finding.{block_place_in, object_in, with_words}
use Rattle.mps_heap_spec.specs.Manual.{block_in, is_block_over}
use Rattle.mps_heap_spec.specs.State.{HeapState, pool_over}
use Rattle.mps_format.specs.Pools.{is_leaf_pool}

-- these are the words of the block that begins at an address, all of them
pub record AreBlockWords {F : Type 0} (h : HeapState F) (at : Address) (words : List ℕ) : Type 0 where
  pub whole : Contains h.segs.blocks (record { from = word_of at; count = length words })
  pub value : words ≡ slice_range h.segs.words (word_of at) (word_of at + length words)

module _ {F : Type 0} (h : HeapState F) (place : Slot) where
  -- the address of the manual block in a place
  abbrev pub block_named : Checked Address
  block_named = do
    from ← block_place_in h place
    block_in h from

  -- these are the words of the block in a place, all of them
  pub record IsBlockBorrowed (words : List ℕ) : Type 0 where
    pub at : Address
    pub named : block_named ≡ Ok at
    pub are : AreBlockWords h at words

  -- the words of the block in a place were borrowed, and others were left in them: `Leaves` says which
  pub record IsBlockWritten (Leaves : List ℕ → List ℕ → Type 0) (after : HeapState F) : Type 0 where
    pub words : List ℕ
    pub left : List ℕ
    pub borrowed : IsBlockBorrowed words
    pub count : length left ≡ length words
    pub leaves : Leaves words left
    pub state : after ≡ with_words h (arena.with_words h.segs.words (word_of borrowed.at) left)

  -- there is no such block
  abbrev pub IsNoBlock : Refusal → Type 0
  IsNoBlock why = block_named ≡ Err why

module _ {F : Type 0} (layout : F → Layout) (h : HeapState F) (slot : Slot) where
  -- the address of the object in a slot, if it is of a leaf pool
  abbrev pub leaf_named : Checked Address
  leaf_named = do
    object ← object_in layout h slot
    refuse_when (not (option_map_or is_leaf_pool (pool_over h object.at) false)) refusal.WrongPool
    refuse_when (not (is_block_over h.segs object.at object.at)) refusal.NullRef
    Ok object.at

  -- these are the words after the head of the object in a slot, all of them
  pub record IsLeafBorrowed (words : List ℕ) : Type 0 where
    pub at : Address
    pub named : leaf_named ≡ Ok at
    pub whole : List ℕ
    pub are : AreBlockWords h at whole
    pub value : words ≡ drop 1 whole

  -- there is no such object
  abbrev pub IsNoLeaf : Refusal → Type 0
  IsNoLeaf why = leaf_named ≡ Err why
