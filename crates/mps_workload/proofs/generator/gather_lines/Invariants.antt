use Rattle.std.proofs.Common.{length}
use Rattle.mps_report.proofs.Gathering.{IsGathered}
use Rattle.mps_workload.proofs.generator.gather_lines.Given as goal

abbrev pub invariant-loop-length : goal.invariant-loop-length
invariant-loop-length g l = IsGathered (g.D.Desk.outside l.initial.desk)
    (g.D.Desk.outside l.desk) l.initial.output l.output l.initial.lines l.lines

abbrev pub decreases-loop-length : goal.decreases-loop-length
decreases-loop-length g l = length l.lines
