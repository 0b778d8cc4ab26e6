use Rattle.std.proofs.Common.{◌-◌, ◌^◌, Bool}
use Rattle.mps_base.specs.Segment.{Segment}
use Rattle.mps_trace.specs.Flip.{may_refer}
use Rattle.mps_trace.proofs.Remembering.{AreGreyBelow}
use Rattle.mps_trace.proofs.trace.Trace.grey_what_may_refer.Given as goal

abbrev pub invariant-loop-base : goal.invariant-loop-base
invariant-loop-base g l =
    let p : Segment → Bool = λ u. may_refer l.self.formats l.self.chains l.what l.zones.0 l.initial.segs u in
    AreGreyBelow p l.initial.segs l.at.0 l.segs

abbrev pub decreases-loop-base : goal.decreases-loop-base
decreases-loop-base g l = 2 ^ 32 - l.at.0
