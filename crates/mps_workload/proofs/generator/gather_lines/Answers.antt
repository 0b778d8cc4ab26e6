use Rattle.std.proofs.Common.{take}
use Rattle.mps_report.proofs.Gathering.{gathered_more}
use Rattle.mps_workload.proofs.PartPrinted.{gathered_failed, at_an_error}
use Rattle.mps_workload.proofs.generator.gather_lines.Goals as goal

pub loop-length-preserved : goal.loop-length-preserved
loop-length-preserved g c =
    let line = c.next_line.new.line in
    gathered_more (g.D.Desk.outside c.args.desk.now) (g.D.Desk.outside c.loop-length.desk)
    (g.D.Desk.outside c.gather_line.new.desk) c.args.output.now c.loop-length.output c.gather_line.new.output
    c.args.lines.now c.loop-length.lines c.next_line.new.self (take c.in-Some.length line) c.loop-length.invariant c.in-Some.ensures.line
    c.in_ok-gather_line.ensures.gathered

-- a prefix of all lines was printed where a write failed
pub returns-in_err-gather_line-clause-part : goal.returns-in_err-gather_line-clause-part
returns-in_err-gather_line-clause-part g c =
    at_an_error c.from_residual.result _
    (gathered_failed (g.D.Desk.outside c.args.desk.now) (g.D.Desk.outside c.loop-length.desk)
    (g.D.Desk.outside c.gather_line.new.desk) c.args.output.now c.loop-length.output
    c.args.lines.now c.loop-length.lines c.loop-length.invariant c.in_err-gather_line.ensures.part)
