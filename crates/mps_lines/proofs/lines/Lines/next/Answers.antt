use Rattle.std.proofs.Common.{subst}
use Rattle.mps_lines.specs.Buffer.{ComesNextOf, rest_of_script}
use Rattle.mps_lines.proofs.NextLine.{held_comes}
use Rattle.mps_lines.proofs.lines.Lines.next.Goals as goal

pub returns-in-Some-clause-next : goal.returns-in-Some-clause-next
returns-in-Some-clause-next g c =
    subst (λ left. ComesNextOf c.in-Some.next left c.next_held.new.self.line
    (rest_of_script c.next_held.new.self (g.D.Desk.outside c.loop-next.desk).input))
    c.loop-next.invariant.left
    (held_comes c.loop-next.self c.next_held.new.self (g.D.Desk.outside c.loop-next.desk).input c.in-Some.next c.in-Some.ensures)
