-- From the units of a collection of a heap's pools to those of the heap.
use Rattle.std.proofs.Common.{ℕ, ◌≡◌, Option, Some, None, subst, sym}
use Rattle.std.specs.Prelude.{IfNone, IfSome}
use Rattle.mps_base.specs.Trail.{Moves}
use Rattle.mps_format.specs.Layout.{Layout}
use Rattle.mps_pools.specs.Pools.{trace_of}
use Rattle.mps_trace.specs.Unit.{AreUnitsReady, EndsWithin, UnitsTo}
use Rattle.mps_trace.specs.declared.running.Running.{Running}
use Rattle.mps_heap_spec.specs.State.{HeapState}
use Rattle.mps_heap_spec.specs.Units.{CanDoUnits, HasDoneUnits, after_units, ends, goes_on, traced_in}

module _ {F : Type 0} (layout : F → Layout) (h seen : HeapState F) (is : seen ≡ h) (m : Moves) (run : Running)
    (running : seen.running ≡ Some run) (n : ℕ) where
  -- what a heap can do, its pools can, where the state is seen in two ways
  pub units_ready : CanDoUnits layout h m n → AreUnitsReady layout (trace_of seen.pools seen.chains seen.tails) seen.segs m seen.finals
      run n
  units_ready can = let there = subst (λ (g : HeapState F). CanDoUnits layout g m n) (sym is) can in there run running

  -- and what they did, the heap did
  pub units_done : (h' : HeapState F) (m' : Moves) (left : Option Running)
      → IfSome left (λ next. UnitsTo layout (trace_of seen.pools seen.chains seen.tails).formats
      (trace_of seen.pools seen.chains seen.tails).chains (traced_in seen m) seen.finals run n (traced_in h' m') h'.finals next)
      → IfNone left (EndsWithin layout (trace_of seen.pools seen.chains seen.tails).formats
      (trace_of seen.pools seen.chains seen.tails).chains (traced_in seen m) seen.finals run n (traced_in h' m') h'.finals)
      → h' ≡ after_units seen h' left → HasDoneUnits layout h m n h' m'
  units_done h' m' (Some next) units over state =
      subst (λ (g : HeapState F). HasDoneUnits layout g m n h' m') is (goes_on run next running units state)
  units_done h' m' None units over state =
      subst (λ (g : HeapState F). HasDoneUnits layout g m n h' m') is (ends run running over state)
