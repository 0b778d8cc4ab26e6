use Rattle.std.proofs.Common.{arith}
use Rattle.mps_trace.specs.Roots.{is_null, leads}
use Rattle.mps_trace.proofs.trace.Trace.fix_root.Goals as goal

pub returns-then-at-eq0-clause-fixed : goal.returns-then-at-eq0-clause-fixed
returns-then-at-eq0-clause-fixed g c = is_null c.if-at-eq0.true

pub returns-clause-fixed : goal.returns-clause-fixed
returns-clause-fixed g c = leads c.fix.result (omega (arith, c.if-at-eq0.false)) c.fix.ensures.fixed
