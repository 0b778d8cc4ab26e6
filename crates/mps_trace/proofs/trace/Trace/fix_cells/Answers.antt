use Rattle.std.proofs.Common.{refl, ap, ◌∙◌, arith}
use Rattle.mps_trace.specs.Trace.{TraceState, traced}
use Rattle.mps_trace.specs.Scan.{begins, goes_on}
use Rattle.mps_trace.proofs.Held.{over_run}
use Rattle.mps_trace.proofs.Scanned.{can_still, fixes_still}
use Rattle.mps_trace.proofs.trace.Trace.fix_cells.Goals as goal

pub loop-cell-init : goal.loop-cell-init
loop-cell-init g c = (begins, refl, refl)

pub fix_cell-requires-clause-can : goal.fix_cell-requires-clause-can
fix_cell-requires-clause-can g c =
    let y = traced c.loop-cell.self c.loop-cell.segs c.loop-cell.trail in
    can_still g.F.Format.layout (g.F.Format.layout c.args.format.now) c.args.self.now c.loop-cell.self c.loop-cell.invariant.1 c.args.at
    c.in-Some.cell y (c.requires.ready c.loop-cell.from c.in-Some.cell y c.loop-cell.invariant.0 c.in-Some.ensures.sound)

pub loop-cell-preserved : goal.loop-cell-preserved
loop-cell-preserved g c =
    let y = traced c.loop-cell.self c.loop-cell.segs c.loop-cell.trail in
    let z = traced c.fix_cell.new.self c.fix_cell.new.segs c.fix_cell.new.trail in
    let Q : TraceState g.row.F.Denot → TraceState g.row.F.Denot = λ u. record u { amc = c.fix_cell.new.self.amc } in (
      goes_on c.loop-cell.from c.in-Some.cell c.loop-cell.invariant.0 c.in-Some.ensures.sound
          (fixes_still g.F.Format.layout (g.F.Format.layout c.args.format.now) c.args.self.now c.loop-cell.self c.loop-cell.invariant.1
          c.args.at c.in-Some.cell y z c.fix_cell.ensures.fixed),
      c.fix_cell.ensures.unchanged ∙ ap Q c.loop-cell.invariant.1,
      c.fix_cell.ensures.size ∙ c.loop-cell.invariant.2,
    )

pub fix_cell-requires-clause-held : goal.fix_cell-requires-clause-held
fix_cell-requires-clause-held g c =
    over_run g.F.Format.layout c.args.self.now.formats c.args.self.now.chains c.args.at.0 (g.F.Format.layout c.args.format.now) c.args.head
    c.args.at c.loop-cell.invariant.0 c.requires.held

pub fix_cell-requires-clause-at_most : goal.fix_cell-requires-clause-at_most
fix_cell-requires-clause-at_most g c =
    let laws = g.met.F.Format.lawful c.args.format.now in
    let within = (laws.references c.args.head c.in-Some.cell c.requires.valid c.in-Some.ensures.sound.reference).1 in
    omega (arith, within, (laws.sizes c.args.head c.requires.valid).1)
