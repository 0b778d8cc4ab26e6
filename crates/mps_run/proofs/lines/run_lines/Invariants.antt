use Rattle.std.proofs.Common.{◌-◌}
use Rattle.mps_desk.specs.Desk.{IsSteady}
use Rattle.mps_lines.specs.Buffer.{rest_of_script}
use Rattle.mps_report.specs.Streams.{LogTakes}
use Rattle.mps_run.specs.Ending.{RunsOn}
use Rattle.mps_run.proofs.SoFar.{SoFar, ReadSoFar}
use Rattle.mps_run.proofs.lines.run_lines.Given as goal

abbrev pub invariant-loop-next : goal.invariant-loop-next
invariant-loop-next g l = record {
  runs : RunsOn (g.D.Desk.outside l.initial.desk) (g.D.Desk.outside l.desk);
  steady : IsSteady (g.D.Desk.outside l.initial.desk) (g.D.Desk.outside l.desk);
  takes : LogTakes (g.D.Desk.outside l.initial.desk) (g.D.Desk.outside l.desk);
  so_far : SoFar (g.C.Commands.stands_for l.commands) l.progress (g.D.Desk.outside l.initial.desk)
      (g.D.Desk.outside l.desk);
  read : ReadSoFar so_far.ran (rest_of_script l.initial.lines (g.D.Desk.outside l.initial.desk).input)
      (rest_of_script l.lines (g.D.Desk.outside l.desk).input);
}

abbrev pub decreases-loop-next : goal.decreases-loop-next
decreases-loop-next g l = 4294967295 - l.progress.lines
