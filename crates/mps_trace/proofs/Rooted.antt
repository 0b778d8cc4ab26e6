-- Roots are fixed at a state of which only what is at hand has changed, and have as many slots as before.
use Rattle.std.proofs.Common.{ℕ, zero, suc, ◌≡◌, Option, Some, None, List, [], ◌∷◌, sym, subst}
use Rattle.std.proofs.Math.Seq.{lt-length-set}
use Rattle.mps_base.specs.Address.{Address}
use Rattle.mps_format.specs.Layout.{Layout}
use Rattle.mps_root.specs.State.{RootsState, HasItem, with_item}
use Rattle.mps_trace.specs.Roots.{AreSlotsReady, FixesRoot, FixesTable}
use Rattle.mps_trace.specs.Trace.{TraceState, Traced}

-- a row has as many items after one of them was written
pub item_still : (rows : List (Option (List ℕ))) (key index value other : ℕ) → HasItem rows key other
    → HasItem (with_item rows key index value) key other
item_still [] key index value other has = absurd has
item_still (None ∷ rows) zero index value other has = absurd has
item_still (Some items ∷ rows) zero index value other has = lt-length-set items index value has
item_still (row ∷ rows) (suc key) index value other has = item_still rows key index value other has

module _ {F : Type 0} (layout : F → Layout) (t t' : TraceState F) (same : t' ≡ record t { amc = t'.amc }) where
  pub root_still : (x y : Traced) (at answer : Address) → FixesRoot layout t'.formats t'.chains x at y answer
      → FixesRoot layout t.formats t.chains x at y answer
  root_still x y at answer fixes =
      let P : TraceState F → Type 0 = λ u. FixesRoot layout u.formats u.chains x at y answer in subst P same fixes

  pub ready_still : (y : Traced) (key : ℕ) (roots : RootsState)
      → AreSlotsReady layout (record t { amc = t'.amc }) y.segs y.moves key roots → AreSlotsReady layout t' y.segs y.moves key roots
  ready_still y key roots ready =
      let P : TraceState F → Type 0 = λ u. AreSlotsReady layout u y.segs y.moves key roots in subst P (sym same) ready

  pub table_still : (x y : Traced) (key : ℕ) (roots roots' : RootsState)
      → FixesTable layout t'.formats t'.chains key roots x roots' y → FixesTable layout t.formats t.chains key roots x roots' y
  table_still x y key roots roots' fixes =
      let P : TraceState F → Type 0 = λ u. FixesTable layout u.formats u.chains key roots x roots' y in subst P same fixes
