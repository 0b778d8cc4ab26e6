use Rattle.std.proofs.Common.{refl, ap, ◌∙◌, arith}
use Rattle.mps_pools.specs.Pools.{PoolsState, trace_of}
use Rattle.mps_trace.specs.Trace.{traced}
use Rattle.mps_trace.specs.Unit.{begins, goes_on}
use Rattle.mps_heap_code.proofs.CountedUnits.{next_is_ready, one_more}
use Rattle.mps_heap_code.proofs.steps.count_units.Goals as goal

pub loop-init : goal.loop-init
loop-init g c = (begins, refl, omega arith)

pub unit-requires : goal.unit-requires
unit-requires g c =
    next_is_ready g.F.Format.layout c.args.pools.now c.loop.pools c.loop.invariant.1 _ c.args.finals.now c.args.running c.loop.counter
    c.loop.segs c.loop.trail c.loop.finals c.loop.running c.loop.invariant.0 c.args.n c.args.segs.now c.args.trail.now refl c.requires
    (omega arith)

pub loop-preserved : goal.loop-preserved
loop-preserved g c =
    let y = traced (trace_of c.loop.pools.pools c.loop.pools.chains c.loop.pools.tails) c.loop.segs c.loop.trail in
    let z = traced (trace_of c.unit.new.self.pools c.unit.new.self.chains c.unit.new.self.tails) c.unit.new.segs c.unit.new.trail in (
      goes_on c.loop.counter c.loop.invariant.0
          (one_more g.F.Format.layout c.args.pools.now c.loop.pools c.loop.invariant.1 y z c.loop.finals c.unit.new.finals
          c.loop.running c.in-Some.next c.in-Some.ensures.goes_on),
      c.unit.ensures.unchanged ∙ ap (λ (p : PoolsState g.row.F.Denot). record p { tails = c.unit.new.self.tails }) c.loop.invariant.1,
      let steps = c.loop.invariant.2 in omega (arith, steps, c.tick.ensures),
    )
