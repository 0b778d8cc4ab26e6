use Rattle.std.proofs.Common.{◌∙◌, [], sym}
use Rattle.mps_run.proofs.Leaving.{leaves_kept, leaves_unsettled}
use Rattle.mps_run.proofs.lines.run_all_lines.Goals as goal

pub returns-in-Ok-clause-leaves : goal.returns-in-Ok-clause-leaves
returns-in-Ok-clause-leaves g c script e =
    leaves_kept g.C.Commands.takes_memory [] script (g.D.Desk.outside c.args.desk.now) (g.D.Desk.outside c.run_lines-ending.new.desk)
    (g.D.Desk.outside c.settle.new.desk) c.settle.ensures.printed c.settle.ensures.logged c.settle.ensures.input
    c.run_lines-ending.result c.settle.ensures.runs.counts.out_faults (c.run_lines-ending.ensures.leaves script e)

pub returns-in-Err-clause-leaves : goal.returns-in-Err-clause-leaves
returns-in-Err-clause-leaves g c script e =
    leaves_unsettled g.C.Commands.takes_memory [] script (g.D.Desk.outside c.args.desk.now) (g.D.Desk.outside c.run_lines-ending.new.desk)
    (g.D.Desk.outside c.settle.new.desk) c.settle.ensures.printed c.settle.ensures.logged c.settle.ensures.input
    c.run_lines-ending.result c.in-Err.stop (sym c.is_fault.ensures ∙ c.if-is_fault.false)
    c.in-Err.ensures.failed (c.run_lines-ending.ensures.leaves script e)
