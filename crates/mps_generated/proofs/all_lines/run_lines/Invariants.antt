use Rattle.std.proofs.Common.{◌+◌, ◌≤◌, length}
use Rattle.mps_desk.specs.Desk.{IsSteady, OnlyLogs}
use Rattle.mps_report.specs.Streams.{LogTakes}
use Rattle.mps_generated.specs.Texts.{AreLineTexts, max_lines_of_run}
use Rattle.mps_generated.proofs.SoFar.{LoggedSoFar}
use Rattle.mps_generated.proofs.all_lines.run_lines.Given as goal

abbrev pub invariant-loop-desk : goal.invariant-loop-desk
invariant-loop-desk g l = record {
  quiet : OnlyLogs (g.D.Desk.outside l.initial.desk) (g.D.Desk.outside l.desk);
  counted : (g.D.Desk.outside l.initial.desk).log_faults ≤ (g.D.Desk.outside l.desk).log_faults;
  steady : IsSteady (g.D.Desk.outside l.initial.desk) (g.D.Desk.outside l.desk);
  takes : LogTakes (g.D.Desk.outside l.initial.desk) (g.D.Desk.outside l.desk);
  so_far : LoggedSoFar (g.C.Commands.stands_for l.commands) l.progress l.initial.lines l.lines
      (g.D.Desk.outside l.initial.desk) (g.D.Desk.outside l.desk);
  texts : AreLineTexts l.lines;
  few : l.progress.lines + length l.lines ≤ max_lines_of_run;
  some : 2 ≤ length l.lines;
}

abbrev pub decreases-loop-desk : goal.decreases-loop-desk
decreases-loop-desk g l = length l.lines
