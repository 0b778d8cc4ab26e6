-- A heap after all blocks of the cache with a number were freed.
use Rattle.std.specs.Prelude.{ℕ}
use Rattle.mps_base.specs.Trail.{Moves}
use Rattle.mps_sac.specs.State.{classes_of}
use Rattle.mps_heap_spec.specs.Caching.{flushed, with_cache_flushed}
use Rattle.mps_heap_spec.specs.Coming.{Moved}
use Rattle.mps_heap_spec.specs.Manual.{row_freed}
use Rattle.mps_heap_spec.specs.State.{HeapState}

-- where blocks of the cache's pool have this size
abbrev pub flushed_from : {F : Type 0} → (size number : ℕ) → HeapState F → Moves → Moved F (Unit {0})
flushed_from size number h trail =
    with_cache_flushed h number
    (row_freed size (record { segs = h.segs; trail = trail }) (flushed (classes_of h.beside.caches number)))
