use Rattle.std.proofs.Common.{◌≡◌, Some}
use Rattle.std.specs.Prelude.{Contains}
use Rattle.mps_base.specs.Segment.{Segment, segment_over}
use Rattle.mps_trace.specs.Access.{ScansIn}
use Rattle.mps_trace.specs.Trace.{traced}
use Rattle.mps_trace.proofs.trace.Trace.scan_segment.Given as goal

-- as many blocks were scanned, and the segment is still held
abbrev pub invariant-loop : goal.invariant-loop
invariant-loop g l =
    ((t : Segment) → segment_over l.initial.segs.segments l.fn.at.0 ≡ Some t
    → ScansIn g.F.Format.layout l.initial.self.formats l.initial.self.chains t (traced l.initial.self l.initial.segs l.initial.trail)
    l.counter (traced l.self l.segs l.trail)
    × Contains l.segs.segments t)
    × (l.self ≡ record l.initial.self { amc = l.self.amc })
