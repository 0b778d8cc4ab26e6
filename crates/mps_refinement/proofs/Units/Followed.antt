-- Units leave the pairs of dependents of a heap, and all else that the collector doesn't change.
use Rattle.std.proofs.Common.{◌≡◌, ◌∙◌, ℕ, refl, sym, ap, subst, List, Option}
use Rattle.mps_base.specs.Trail.{Moves}
use Rattle.mps_dep.specs.declared.dependents.Pair.{Pair}
use Rattle.mps_format.specs.Layout.{Layout}
use Rattle.mps_trace.specs.declared.running.Running.{Running as RunningState}
use Rattle.mps_heap_spec.specs.State.{HeapState}
use Rattle.mps_heap_spec.specs.Units.{HasDoneUnits, after_units, ends, goes_on, none_runs}

-- what units leave of a heap
pub units_leave : {F : Type 0} {layout : F → Layout} {h h' : HeapState F} {m m' : Moves} {n : ℕ} → HasDoneUnits layout h m n h' m'
    → h' ≡ after_units h h' h'.running
units_leave {h = h} (none_runs none is trail) = subst (λ g. g ≡ after_units h g g.running) (sym is) refl
units_leave {F} {h = h} {h' = h'} (goes_on run next is units state) =
    state ∙ ap (λ (r : Option RunningState). after_units h h' r) (sym (ap (λ (g : HeapState F). g.running) state))
units_leave {F} {h = h} {h' = h'} (ends run is over state) =
    state ∙ ap (λ (r : Option RunningState). after_units h h' r) (sym (ap (λ (g : HeapState F). g.running) state))

-- the pairs of a heap
abbrev pub pairs_of : {F : Type 0} → HeapState F → List Pair
pairs_of h = h.beside.dependents
