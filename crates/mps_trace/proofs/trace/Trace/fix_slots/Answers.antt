use Rattle.std.proofs.Common.{ℕ, ◌<◌, List, length, refl, sym, ap, subst, ◌∙◌, arith}
use Rattle.std.specs.Prelude.{slice_index_or}
use Rattle.mps_trace.specs.Roots.{AreSlotsReady, FixesTable, begins, goes_on}
use Rattle.mps_trace.specs.Trace.{TraceState, traced}
use Rattle.mps_trace.proofs.Rooted.{ready_still, table_still}
use Rattle.mps_trace.proofs.trace.Trace.fix_slots.Goals as goal

pub loop-index-init : goal.loop-index-init
loop-index-init g c = (begins, refl, refl)

pub fix_table-requires : goal.fix_table-requires
fix_table-requires g c =
    let l = c.loop-index in
    let y = traced l.self l.segs l.trail in
    let order_is = c.order.ensures ∙ l.invariant.2 in
    let within : l.index < length c.args.roots.now.order =
    omega (arith, c.loop-index-test.true, ap (λ (ks : List ℕ). length ks) c.order-index-end.ensures)
    in
    let P : List ℕ → Type 0 = λ ks. AreSlotsReady g.F.Format.layout l.self l.segs l.trail (slice_index_or ks l.index 0) l.roots in
    subst P (sym order_is)
    (ready_still g.F.Format.layout c.args.self.now l.self l.invariant.1 y (slice_index_or c.args.roots.now.order l.index 0) l.roots
    (c.requires l.index l.roots y within l.invariant.0))

pub loop-index-preserved : goal.loop-index-preserved
loop-index-preserved g c =
    let l = c.loop-index in
    let y = traced l.self l.segs l.trail in
    let z = traced c.fix_table.new.self c.fix_table.new.segs c.fix_table.new.trail in
    let t = c.args.self.now in
    let order_is = c.order.ensures ∙ l.invariant.2 in
    let P : List ℕ → Type 0 =
    λ ks. FixesTable g.F.Format.layout t.formats t.chains (slice_index_or ks l.index 0) l.roots y c.fix_table.new.roots z
    in
    let Q : TraceState g.row.F.Denot → TraceState g.row.F.Denot = λ u. record u { amc = c.fix_table.new.self.amc } in (
      goes_on l.index l.invariant.0
          (subst P order_is
          (table_still g.F.Format.layout t l.self l.invariant.1 y z (slice_index_or c.order.result.now l.index 0) l.roots
          c.fix_table.new.roots c.fix_table.ensures.fixed)),
      c.fix_table.ensures.unchanged ∙ ap Q l.invariant.1,
      c.fix_table.ensures.order ∙ l.invariant.2,
    )
