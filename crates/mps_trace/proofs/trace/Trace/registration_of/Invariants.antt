use Rattle.std.proofs.Common.{◌≡◌}
use Rattle.mps_trace.specs.Registration.{LieElsewhere}
use Rattle.mps_trace.proofs.trace.Trace.registration_of.Given as goal

-- the blocks of the registrations before this one lie elsewhere
abbrev pub invariant-loop-position : goal.invariant-loop-position
invariant-loop-position g l =
    (l.finals ≡ l.initial.finals)
    × LieElsewhere g.F.Format.layout l.self.formats l.segs l.position l.initial.finals.registered l.at.0
