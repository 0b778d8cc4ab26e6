use Rattle.mps_lines.proofs.NextLine.{held_comes}
use Rattle.mps_run.proofs.lines.next_line.Goals as goal

pub returns-in-Some-clause-next : goal.returns-in-Some-clause-next
returns-in-Some-clause-next g c =
    held_comes c.args.lines.now c.next_held.new.self (g.D.Desk.outside c.args.desk.now).input c.in-Some.next c.in-Some.ensures
