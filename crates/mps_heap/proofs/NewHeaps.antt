-- A heap in which nothing was made stands for the world that `arena` leaves.
use Rattle.std.proofs.Common.{◌≡◌, ℕ, ◌<◌, ◌≤◌, ap, sym, subst, []}
use Rattle.mps_base.specs.Address.{max_grains}
use Rattle.mps_format.specs.Layout.{Layout}
use Rattle.mps_model.specs.World.{empty_world_of}
use Rattle.mps_heap_spec.specs.NamesState.{NameCounts, no_counts, thing_in}
use Rattle.mps_heap_spec.specs.Arena.{new_heap}
use Rattle.mps_heap_spec.specs.State.{HeapState}
use Rattle.mps_refinement.specs.NewHeap.{arena_step}
use Rattle.mps_refinement.specs.RightStep.{IsRightIn}
use Rattle.mps_refinement.proofs.Calls.NewHeap.{new_heap_is_right}
use Rattle.mps_heap.specs.Right.{IsNewHeap}

pub is_new_heap : {F : Type 0} (layout : F → Layout) (grains limit : ℕ) (h : HeapState F) → 0 < grains → grains ≤ max_grains
    → h ≡ new_heap grains limit h.names → h.names.entries ≡ [] → h.names.counts ≡ no_counts → IsNewHeap layout grains limit h
is_new_heap layout grains limit h nonzero at_most is empty counts = λ formats lawful line.
    subst (λ s. IsRightIn layout (empty_world_of formats) (arena_step line grains limit) s) (sym is)
    (new_heap_is_right layout formats lawful grains limit nonzero at_most h.names (record {
      free = λ name. ap (λ es. thing_in es name) empty;
      no_label = ap (λ (c : NameCounts). c.labels) counts;
      no_cache = ap (λ (c : NameCounts). c.caches) counts;
      no_transform = ap (λ (c : NameCounts). c.transforms) counts;
    }) line)
