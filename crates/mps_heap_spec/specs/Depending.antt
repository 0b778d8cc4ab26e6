-- The outcomes of the calls on dependencies.
use Rattle.std.specs.Prelude.{ℕ, Bool, Ok, List, slice_set}
use Rattle.mps_base.specs.Staleness.{is_stale}
use Rattle.mps_base.specs.declared.names.Name.{Name}
use Rattle.mps_base.specs.declared.names.Slot.{Slot}
use Rattle.mps_format.specs.Layout.{Layout}
use Rattle.mps_trace.specs.LdState.{LdState, reset_at, with_address, after_merge}
use Rattle.mps_model.specs.Checked.{Checked, ◌>>=◌}
use Rattle.mps_heap_spec.specs.State.{HeapState}
use Rattle.mps_heap_spec.specs.Coming.{Outcome, done}
use Rattle.mps_heap_spec.specs.Finding.{dependency_named, object_in}

module _ {F : Type 0} where
  abbrev pub with_dependency : HeapState F → (number : ℕ) → LdState → HeapState F
  with_dependency h number d = record h { dependencies = slice_set h.dependencies number d }

  abbrev pub dependency_reset : HeapState F → Name → Checked (Outcome F (Unit {0}))
  dependency_reset h name = do
    d ← dependency_named h name
    done (with_dependency h d.key (reset_at h.epochs))

  abbrev pub dependency_merged : HeapState F → (name source : Name) → Checked (Outcome F (Unit {0}))
  dependency_merged h name source = do
    d ← dependency_named h name
    e ← dependency_named h source
    done (with_dependency h d.key (after_merge d.value e.value))

  -- whether a dependency is stale after these flips
  abbrev pub is_dependency_stale : (flips : List ℕ) → HeapState F → Name → Checked Bool
  is_dependency_stale flips h name = do
    d ← dependency_named h name
    Ok (is_stale flips d.value.epoch d.value.zones)

module _ {F : Type 0} (layout : F → Layout) where
  abbrev pub dependency_added : HeapState F → Name → Slot → Checked (Outcome F (Unit {0}))
  dependency_added h name slot = do
    d ← dependency_named h name
    object ← object_in layout h slot
    done (with_dependency h d.key (with_address d.value object.at))
