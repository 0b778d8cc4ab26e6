-- What the calls guarantee that lend the words of a manual block or of a leaf object.
use Rattle.std.specs.Prelude.{◌≡◌, ℕ, Bool, false, not, Ok, Err, List, drop, length}
use Rattle.std.specs.Option.{option_map_or}
use Rattle.mps_base.specs.declared.names.Slot.{Slot}
use Rattle.mps_base.specs.declared.refusal.Refusal.{Refusal}
use Rattle.mps_base.specs.declared.refusal.Refusal.TheVariants as refusal
use Rattle.mps_format.specs.Layout.{Layout}
use Rattle.mps_model.specs.Allocating.{block_in, words_at}
use Rattle.mps_model.specs.Checked.{Checked, ◌>>=◌, ◌>>◌, block_place_in, cells_of_body, object_in, refuse_when, slot_in}
use Rattle.mps_model.specs.Graph.{Cell}
use Rattle.mps_model.specs.World.{Pool, World, is_leaf_kind, pool_at}
use Rattle.mps_heap_spec.specs.State.{HeapState}
use Rattle.mps_refinement.specs.StandsFor.{StandsFor}
use Rattle.mps_refinement.specs.Storing.{AreRight, stores}

-- the words of the manual block in a place of a world, if there is one
abbrev pub words_of_block : World → (place : Slot) → Checked (List ℕ)
words_of_block w place = do
  from ← block_place_in w place
  block ← block_in from
  Ok (words_at w.graph block)

-- whether a pool of a world is a leaf pool
abbrev pub is_leaf_pool : World → (number : ℕ) → Bool
is_leaf_pool w number = option_map_or (λ (p : Pool). is_leaf_kind p.kind) (pool_at w number) false

-- the cells after the head of the object in a slot of a world, if it is of a leaf pool
abbrev pub cells_of_leaf : World → (slot : Slot) → Checked (List Cell)
cells_of_leaf w slot = do
  from ← slot_in w slot
  object ← object_in w from.value
  refuse_when (not (is_leaf_pool w object.value.pool)) refusal.WrongPool
  Ok (drop 1 (cells_of_body object.value.body))

module _ {F : Type 0} (layout : F → Layout) (h : HeapState F) where
  -- in each world that the heap represents, this has that outcome
  abbrev pub ComesTo : {X : Type 0} → (World → Checked X) → Checked X → Type 0
  ComesTo asked outcome = (w : World) → StandsFor layout h w → asked w ≡ outcome

module _ {F : Type 0} (layout : F → Layout) (h : HeapState F) (place : Slot) where
  -- these words of a block were borrowed and as many others left in them: in each world for which the heap stood, a store of each of these,
  -- from word 0 of the block on, is legal, and the heap represents the world after them
  pub record AreStored (words left : List ℕ) (after : HeapState F) : Type 0 where
    pub borrowed : ComesTo layout h (λ w. words_of_block w place) (Ok words)
    pub count : length left ≡ length words
    pub stored : (w : World) (line : ℕ) → StandsFor layout h w → AreRight layout w (stores line place 0 left) after

  -- the same, where `Leaves` says which words were left in those that were borrowed
  pub record IsBorrowedAndWritten (Leaves : List ℕ → List ℕ → Type 0) (after : HeapState F) : Type 0 where
    pub words : List ℕ
    pub left : List ℕ
    pub leaves : Leaves words left
    pub are_stored : AreStored words left after

  -- nothing was borrowed, since there is no such block, and the heap stays as it is
  pub record IsNotBorrowed (why : Refusal) (after : HeapState F) : Type 0 where
    pub no_block : ComesTo layout h (λ w. words_of_block w place) (Err why)
    pub unchanged : after ≡ h
