use Rattle.std.proofs.Common.{◌≡◌}
use Rattle.mps_trace.specs.Roots.{FixesTables}
use Rattle.mps_trace.specs.Trace.{traced}
use Rattle.mps_trace.proofs.trace.Trace.fix_slots.Given as goal

-- the tables before this one are fixed
abbrev pub invariant-loop-index : goal.invariant-loop-index
invariant-loop-index g l =
    FixesTables g.F.Format.layout l.initial.self.formats l.initial.self.chains l.initial.roots
    (traced l.initial.self l.initial.segs l.initial.trail) l.index l.roots (traced l.self l.segs l.trail)
    × (l.self ≡ record l.initial.self { amc = l.self.amc })
    × (l.roots.order ≡ l.initial.roots.order)
