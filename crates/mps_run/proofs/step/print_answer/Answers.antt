use Rattle.std.proofs.Common.{◌∙◌}
use Rattle.mps_report.proofs.Logging.{takes_nothing}
use Rattle.mps_run.proofs.step.print_answer.Goals as goal

pub returns-clause-takes : goal.returns-clause-takes
returns-clause-takes g c =
    let prints = c.in-Ok.ensures.printed.others in
    takes_nothing (g.D.Desk.outside c.args.desk.now) (g.D.Desk.outside c.print.new.desk) prints.logged prints.files prints.asked

pub returns-in_default-clause-takes : goal.returns-in_default-clause-takes
returns-in_default-clause-takes g c =
    let prints = c.in_default.ensures.failed.others in
    let after = c.after_no_print.ensures in
    takes_nothing (g.D.Desk.outside c.args.desk.now) (g.D.Desk.outside c.after_no_print.new.desk) (after.logged ∙ prints.logged)
    (after.files ∙ prints.files) (after.others.asked ∙ prints.asked)
