use Rattle.std.proofs.Common.{◌-◌, ◌≤◌}
use Rattle.mps_base.specs.Address.{word_of}
use Rattle.mps_xform.specs.Passing.{LeadsToNone, new_in}
use Rattle.mps_xform.proofs.applying.may_lead_to_old.Given as goal

-- the references before this cell lead to no old address
abbrev pub invariant-loop-cell : goal.invariant-loop-cell
invariant-loop-cell g l =
    (l.from ≤ (g.F.Format.layout l.format).size l.head)
    × LeadsToNone (g.F.Format.layout l.format) (new_in l.replacements) l.fn.segs (word_of l.fn.at.0) l.head l.from

abbrev pub decreases-loop-cell : goal.decreases-loop-cell
decreases-loop-cell g l = (g.F.Format.layout l.format).size l.head - l.from
