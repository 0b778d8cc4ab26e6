use Rattle.mps_workload.proofs.PartPrinted.{all_failed}
use Rattle.mps_workload.proofs.generator.print_all_lines.Goals as goal

pub returns-clause-part : goal.returns-clause-part
returns-clause-part g c =
    all_failed c.flush.result (g.D.Desk.outside c.args.desk.now) (g.D.Desk.outside c.gather_lines.new.desk)
    (g.D.Desk.outside c.flush.new.desk)
    c.args.output.now c.gather_lines.new.output _ c.requires c.in_ok-gather_lines.ensures.gathered c.flush.ensures.failed
