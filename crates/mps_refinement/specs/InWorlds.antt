-- What calls that read a heap, and aren't commands of a script, say of each world that the heap represents.
use Rattle.std.specs.Prelude.{ℕ, ◌+◌, ◌<◌, ◌≡◌, Bool, Option, None, Some, length, nat_lt, slice_get}
use Rattle.mps_base.specs.Address.{Address, Id, word_of}
use Rattle.mps_format.specs.Layout.{Layout}
use Rattle.mps_model.specs.Graph.{entry_at}
use Rattle.mps_model.specs.Image.{image_of}
use Rattle.mps_model.specs.World.{World, id_at}
use Rattle.mps_trace.specs.Collect.{most_moves}
use Rattle.mps_heap_spec.specs.Collecting.{most_flips}
use Rattle.mps_heap_spec.specs.State.{HeapState}
use Rattle.mps_refinement.specs.StandsFor.{StandsFor}

module _ {F : Type 0} (layout : F → Layout) (h : HeapState F) where
  -- whether fewer flips came to the world than a heap counts
  abbrev pub SaysIfItCounts : (result : Bool) → Type 0
  SaysIfItCounts result = (w : World) → StandsFor layout h w → result ≡ nat_lt (length w.flips) most_flips

  -- the most moves of a collection in the arena of the world
  abbrev pub SaysMostMoves : (result : ℕ) → Type 0
  SaysMostMoves result = (w : World) → StandsFor layout h w → result ≡ most_moves w.grains

  -- where no collection runs, the word of this number is that of the live block in which it lies
  abbrev pub SaysWord : (number : ℕ) → (result : Option ℕ) → Type 0
  SaysWord number result =
      (w : World) → StandsFor layout h w → w.collection ≡ None → (id : Id) (at : Address) → entry_at w.addresses id ≡ Some at → (k : ℕ)
      → k < length (image_of w id) → number ≡ word_of at + k → result ≡ slice_get (image_of w id) k

  -- a live block begins at this address, and has so many words
  abbrev pub SaysLength : (at : Address) → (result : ℕ) → Type 0
  SaysLength at result =
      (w : World) → StandsFor layout h w → (id : Id) × (id_at w at ≡ Some id) × (result ≡ length (image_of w id))
