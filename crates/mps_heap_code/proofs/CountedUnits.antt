-- Units that are counted: pools change nothing but their tails in each, so it is one of the pools that there were at first.
use Rattle.std.proofs.Common.{ℕ, ◌≡◌, ◌<◌, sym, ap, subst}
use Rattle.mps_base.specs.Trail.{Moves}
use Rattle.mps_final.specs.State.{FinalsState}
use Rattle.mps_format.specs.Layout.{Layout}
use Rattle.mps_seg.specs.Segs.{SegsState}
use Rattle.mps_pools.specs.Pools.{PoolsState, trace_of}
use Rattle.mps_trace.specs.Trace.{TraceState, Traced, traced}
use Rattle.mps_trace.specs.Unit.{AreUnitsReady, CanUnit, UnitTo, UnitsTo}
use Rattle.mps_trace.specs.declared.running.Running.{Running}

module _ {F : Type 0} (layout : F → Layout) (first now : PoolsState F) (same : now ≡ record first { tails = now.tails }) where
  -- what is known of the pools at first, and now
  abbrev at_first : TraceState F
  at_first = trace_of first.pools first.chains first.tails

  abbrev at_last : TraceState F
  at_last = trace_of now.pools now.chains now.tails

  but_tails : record at_first { amc = now.tails } ≡ at_last
  but_tails = ap (λ (p : PoolsState F). trace_of p.pools p.chains now.tails) (sym same)

  module _ (x : Traced) (f : FinalsState) (run : Running) (count : ℕ) (s : SegsState) (m : Moves) (f' : FinalsState) (run' : Running)
      (units : UnitsTo layout at_first.formats at_first.chains x f run count (traced at_last s m) f' run') where
    -- the next one can be done
    pub next_is_ready : (most : ℕ) (s₀ : SegsState) (m₀ : Moves) → x ≡ traced at_first s₀ m₀
        → AreUnitsReady layout at_first s₀ m₀ f run most → count < most → CanUnit layout at_last s m f' run'
    next_is_ready most s₀ m₀ is ready low =
        let there =
        subst (λ (u : Traced). UnitsTo layout at_first.formats at_first.chains u f run count (traced at_last s m) f' run') is units
        in
        subst (λ (t : TraceState F). CanUnit layout t s m f' run') but_tails (ready count (traced at_last s m) f' run' low there)

  -- one more unit
  pub one_more : (x y : Traced) (f f' : FinalsState) (run run' : Running)
      → UnitTo layout at_last.formats at_last.chains x f run y f' run' → UnitTo layout at_first.formats at_first.chains x f run y f' run'
  one_more x y f f' run run' unit =
      subst (λ (t : TraceState F). UnitTo layout t.formats t.chains x f run y f' run') (sym but_tails) unit
