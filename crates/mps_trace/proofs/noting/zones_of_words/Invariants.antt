use Rattle.std.proofs.Common.{◌≡◌, ◌≤◌, ◌-◌}
use Rattle.mps_trace.specs.Noting.{zones_of_cells}
use Rattle.mps_trace.proofs.noting.zones_of_words.Given as goal

-- the zones of the references before this cell
abbrev pub invariant-loop-cell : goal.invariant-loop-cell
invariant-loop-cell g l =
    let f = g.F.Format.layout l.format in
    (l.zones ≡ zones_of_cells f l.block l.head 0 l.from) × (l.from ≤ f.size l.head)

abbrev pub decreases-loop-cell : goal.decreases-loop-cell
decreases-loop-cell g l = (g.F.Format.layout l.format).size l.head - l.from
