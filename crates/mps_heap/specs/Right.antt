-- A new heap.
use Rattle.std.specs.Prelude.{ℕ}
use Rattle.mps_format.specs.Layout.{Layout, IsLawful}
use Rattle.mps_model.specs.World.{empty_world_of}
use Rattle.mps_heap_spec.specs.State.{HeapState}
use Rattle.mps_refinement.specs.NewHeap.{arena_step}
use Rattle.mps_refinement.specs.RightStep.{IsRightIn}

-- the heap of a new arena represents the world that `arena` leaves, whatever the numbers of formats mean, as long as each meaning is lawful
abbrev pub IsNewHeap : {F : Type 0} → (layout : F → Layout) → (grains limit : ℕ) → HeapState F → Type 0
IsNewHeap layout grains limit h =
    (formats : ℕ → Layout) → ((number : ℕ) → IsLawful (formats number)) → (line : ℕ)
    → IsRightIn layout (empty_world_of formats) (arena_step line grains limit) h
