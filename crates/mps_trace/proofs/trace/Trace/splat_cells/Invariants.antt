use Rattle.std.proofs.Common.{◌≡◌, ◌-◌, length}
use Rattle.mps_trace.specs.Trace.{traced}
use Rattle.mps_trace.specs.Splat.{SplatsTo}
use Rattle.mps_trace.proofs.trace.Trace.splat_cells.Given as goal

-- the references before this cell are done
abbrev pub invariant-loop-cell : goal.invariant-loop-cell
invariant-loop-cell g l =
    SplatsTo g.F.Format.layout (g.F.Format.layout l.format) l.fn.self.formats l.head l.at (traced l.fn.self l.initial.segs l.initial.trail)
    l.from (traced l.fn.self l.segs l.trail)
    × (length l.segs.words ≡ length l.initial.segs.words)

abbrev pub decreases-loop-cell : goal.decreases-loop-cell
decreases-loop-cell g l = (g.F.Format.layout l.format).size l.head - l.from
