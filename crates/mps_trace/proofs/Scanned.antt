-- A scan goes on at a state of which only what is at hand has changed.
use Rattle.std.proofs.Common.{ℕ, ◌≡◌, sym, subst}
use Rattle.mps_base.specs.declared.address.Addr.{Addr}
use Rattle.mps_format.specs.Layout.{Layout}
use Rattle.mps_trace.specs.Trace.{TraceState, Traced}
use Rattle.mps_trace.specs.Scan.{CanFixCellAt, FixesCell}

module _ {F : Type 0} (layout : F → Layout) (f : Layout) (t t' : TraceState F) (same : t' ≡ record t { amc = t'.amc }) (at : Addr)
    (cell : ℕ)
  where
    pub can_still : (x : Traced) → CanFixCellAt layout f t.formats t.chains x at cell → CanFixCellAt layout f t'.formats t'.chains x at cell
    can_still x can = let P : TraceState F → Type 0 = λ u. CanFixCellAt layout f u.formats u.chains x at cell in subst P (sym same) can

    pub fixes_still : (x y : Traced) → FixesCell layout f t'.formats t'.chains at cell x y
        → FixesCell layout f t.formats t.chains at cell x y
    fixes_still x y fixes = let P : TraceState F → Type 0 = λ u. FixesCell layout f u.formats u.chains at cell x y in subst P same fixes
