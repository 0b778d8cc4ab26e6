use Rattle.std.proofs.Common.{◌≡◌, ◌-◌, length}
use Rattle.mps_trace.specs.Trace.{traced}
use Rattle.mps_trace.specs.Scan.{ScansTo}
use Rattle.mps_trace.proofs.trace.Trace.fix_cells.Given as goal

-- the references before this cell are fixed
abbrev pub invariant-loop-cell : goal.invariant-loop-cell
invariant-loop-cell g l =
    ScansTo g.F.Format.layout (g.F.Format.layout l.format) l.initial.self.formats l.initial.self.chains l.head l.at
    (traced l.initial.self l.initial.segs l.initial.trail) l.from (traced l.self l.segs l.trail)
    × (l.self ≡ record l.initial.self { amc = l.self.amc })
    × (length l.segs.words ≡ length l.initial.segs.words)

abbrev pub decreases-loop-cell : goal.decreases-loop-cell
decreases-loop-cell g l = (g.F.Format.layout l.format).size l.head - l.from
