use Rattle.std.proofs.Common.{◌∙◌, ap}
use Rattle.mps_workload.specs.GenLines.{lines_after}
use Rattle.mps_workload.proofs.Generated.{no_lines_more}
use Rattle.mps_workload.specs.declared.lines.Position.{Position}
use Rattle.mps_workload.proofs.lines.GenLines.next_line.Goals as goal

-- after the last step
pub ending_line-requires-clause-here : goal.ending_line-requires-clause-here
ending_line-requires-clause-here c =
    let at = c.self.inside.standing in
    ap (λ (p : Position). lines_after p at.state at.step at.count) c.in-Stepping-2.is
    ∙ no_lines_more at.count at.step at.state c.if-at.false
