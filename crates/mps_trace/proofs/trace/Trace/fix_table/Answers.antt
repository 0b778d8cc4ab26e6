use Rattle.std.proofs.Common.{ℕ, refl, sym, ap, subst, ◌∙◌}
use Rattle.mps_root.specs.State.{RootsState, HasItem}
use Rattle.mps_trace.specs.Roots.{FixesRoot, begins, goes_on}
use Rattle.mps_trace.specs.Trace.{TraceState, traced}
use Rattle.mps_trace.proofs.Rooted.{item_still, root_still}
use Rattle.mps_trace.proofs.trace.Trace.fix_table.Goals as goal

pub loop-index-init : goal.loop-index-init
loop-index-init g c = (begins, refl, c.slots_of-index-end.ensures.listed, refl)

pub loop-index-preserved : goal.loop-index-preserved
loop-index-preserved g c =
    let l = c.loop-index in
    let y = traced l.self l.segs l.trail in
    let z = traced c.fix_root-to.new.self c.fix_root-to.new.segs c.fix_root-to.new.trail in
    let t = c.args.self.now in
    let to = c.fix_root-to.result in
    let P : ℕ → Type 0 = λ at. FixesRoot g.F.Format.layout t.formats t.chains y at z to in
    let Q : TraceState g.row.F.Denot → TraceState g.row.F.Denot = λ u. record u { amc = c.fix_root-to.new.self.amc } in
    let H : RootsState → (index : ℕ) → Type 0 = λ r index. HasItem r.tables c.args.key index in (
      goes_on l.index to l.invariant.0
          (subst P c.slot-at.ensures
          (root_still g.F.Format.layout t l.self l.invariant.1 y z c.slot-at.result to c.fix_root-to.ensures.fixed))
          c.set_slot.ensures,
      c.fix_root-to.ensures.unchanged ∙ ap Q l.invariant.1,
      λ index within.
          let R : RootsState → Type 0 = λ r. HasItem r.tables c.args.key index in
          subst R (sym c.set_slot.ensures) (item_still l.roots.tables c.args.key l.index to index (l.invariant.2 index within)),
      ap (λ (r : RootsState). r.order) c.set_slot.ensures ∙ l.invariant.3,
    )
