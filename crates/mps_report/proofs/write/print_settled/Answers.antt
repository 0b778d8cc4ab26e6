use Rattle.mps_report.proofs.Outside.{settled_part}
use Rattle.mps_report.proofs.write.print_settled.Goals as goal

pub returns-in_default-clause-failed : goal.returns-in_default-clause-failed
returns-in_default-clause-failed g c =
    settled_part (g.D.Desk.outside c.args.desk.now) (g.D.Desk.outside c.print_all.new.desk) (g.D.Desk.outside c.settle_out.new.self)
    c.args.bytes.now
    c.in_ok-print_all.ensures.printed c.settle_out.ensures.printed c.settle_out.ensures.counted c.settle_out.ensures.others
    c.in_default.ensures.cause
