use Rattle.std.proofs.Common.{refl, arith}
use Rattle.mps_trace.specs.Unit.{splats}
use Rattle.mps_trace.proofs.trace.Trace.unit_once_drained.Goals as goal

pub returns-then-splat_next-clause-goes_on : goal.returns-then-splat_next-clause-goes_on
returns-then-splat_next-clause-goes_on g c =
    splats c.requires.drained (omega (arith, c.if-running.false)) (c.splat_next.ensures.splatted c.if-splat_next.true) refl
