use Rattle.std.proofs.Common.{◌≡◌, length}
use Rattle.mps_trace.specs.Roots.{FixesMessages}
use Rattle.mps_trace.specs.Trace.{traced}
use Rattle.mps_trace.proofs.trace.Trace.fix_messages.Given as goal

-- the messages before this one are fixed
abbrev pub invariant-loop-position : goal.invariant-loop-position
invariant-loop-position g l =
    FixesMessages g.F.Format.layout l.initial.self.formats l.initial.self.chains l.initial.finals
    (traced l.initial.self l.initial.segs l.initial.trail) l.position l.finals (traced l.self l.segs l.trail)
    × (l.self ≡ record l.initial.self { amc = l.self.amc })
    × (length l.finals.messages ≡ length l.initial.finals.messages)
