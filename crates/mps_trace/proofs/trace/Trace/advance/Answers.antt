use Rattle.mps_trace.specs.Unit.{scans}
use Rattle.mps_trace.proofs.trace.Trace.advance.Goals as goal

pub returns-then-scan_next-clause-goes_on : goal.returns-then-scan_next-clause-goes_on
returns-then-scan_next-clause-goes_on g c = λ known. scans (c.scan_next.ensures.scanned c.if-scan_next.true)
