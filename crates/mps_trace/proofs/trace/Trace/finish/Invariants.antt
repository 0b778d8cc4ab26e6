use Rattle.std.proofs.Common.{◌≡◌}
use Rattle.mps_trace.specs.Trace.{traced}
use Rattle.mps_trace.specs.Unit.{UnitsTo}
use Rattle.mps_trace.proofs.trace.Trace.finish.Given as goal

-- as many units were done, and the collection goes on
abbrev pub invariant-loop : goal.invariant-loop
invariant-loop g l =
    UnitsTo g.F.Format.layout l.initial.self.formats l.initial.self.chains (traced l.initial.self l.initial.segs l.initial.trail)
    l.initial.finals l.initial.running l.counter (traced l.self l.segs l.trail) l.finals l.running
    × (l.self ≡ record l.initial.self { amc = l.self.amc })
