use Rattle.std.specs.Prelude.{slice_index}
use Rattle.mps_sac.specs.State.{classes_of, count_in}
use Rattle.mps_heap_caching.proofs.Flushing.{GoesOn}
use Rattle.mps_heap_caching.proofs.caching.flush.Given as goal

-- what is still to be freed leads to the state that all of it leads to
abbrev pub invariant-loop-at : goal.invariant-loop-at
invariant-loop-at g l =
    GoesOn (slice_index l.initial.state.sizes l.fn.pool) l.fn.number l.initial.state l.initial.trail l.state l.trail

abbrev pub decreases-loop-at : goal.decreases-loop-at
decreases-loop-at g l = count_in (classes_of l.state.beside.caches l.fn.number)
