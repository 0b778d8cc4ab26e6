use Rattle.std.proofs.Common.{◌-◌, ◌^◌, Bool}
use Rattle.mps_base.specs.Segment.{Segment}
use Rattle.mps_trace.specs.Flip.{condemns}
use Rattle.mps_trace.proofs.Condemning.{AreCondemnedBelow}
use Rattle.mps_trace.proofs.trace.Trace.condemn.Given as goal

abbrev pub invariant-loop-base : goal.invariant-loop-base
invariant-loop-base g l =
    let p : Segment → Bool = λ u. condemns l.self.formats l.self.chains l.what u.pool u.generation in
    AreCondemnedBelow l.self.formats p l.initial.segs l.at.0 l.segs l.zones l.segments

abbrev pub decreases-loop-base : goal.decreases-loop-base
decreases-loop-base g l = 2 ^ 32 - l.at.0
