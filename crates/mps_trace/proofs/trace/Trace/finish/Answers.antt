use Rattle.std.proofs.Common.{refl, ap, ◌∙◌}
use Rattle.mps_trace.specs.Trace.{TraceState, traced}
use Rattle.mps_trace.specs.Unit.{begins, goes_on}
use Rattle.mps_trace.proofs.Units.{goes_still}
use Rattle.mps_trace.proofs.trace.Trace.finish.Goals as goal

pub loop-init : goal.loop-init
loop-init g c = (begins, refl)

pub loop-preserved : goal.loop-preserved
loop-preserved g c =
    let y = traced c.loop.self c.loop.segs c.loop.trail in
    let z = traced c.advance.new.self c.advance.new.segs c.advance.new.trail in
    let Q : TraceState g.row.F.Denot → TraceState g.row.F.Denot = λ u. record u { amc = c.advance.new.self.amc } in (
      goes_on c.loop.counter c.loop.invariant.0
          (goes_still g.F.Format.layout c.args.self.now c.loop.self c.loop.invariant.1 y z c.loop.finals c.advance.new.finals
          c.loop.running c.advance.new.running
          (c.advance.ensures.goes_on c.if-not-advance.false)),
      c.advance.ensures.unchanged ∙ ap Q c.loop.invariant.1,
    )
