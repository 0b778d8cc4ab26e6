use Rattle.std.proofs.Common.{◌≡◌, Ok}
use Rattle.mps_log_reader.specs.Causes.{WorksOnInput}
use Rattle.mps_log_reader.specs.Input.{IsAtEnd, IsComplete}
use Rattle.mps_log_reader.specs.PutOut.{Grows}
use Rattle.mps_txt.specs.declared.bad_text_line.BadTextLine.{BadTextLine}
use Rattle.mps_txt.specs.TextSteps.{progress}
use Rattle.mps_txt.proofs.LinesSoFar.{LinesSoFar}
use Rattle.mps_txt.proofs.text_reader.read_lines.Given as goal

abbrev pub invariant-loop-lines : goal.invariant-loop-lines
invariant-loop-lines g l = record {
  works : WorksOnInput {T = Unit {0}} {E = BadTextLine} (g.D.Desk.outside l.initial.desk)
      (g.D.Desk.outside l.desk) l.initial.input l.input (Ok tt);
  reported : (g.D.Desk.outside l.desk).reported ≡ (g.D.Desk.outside l.initial.desk).reported;
  err_faults : (g.D.Desk.outside l.desk).err_faults ≡ (g.D.Desk.outside l.initial.desk).err_faults;
  at_end : IsAtEnd (g.D.Desk.outside l.desk) l.input;
  complete : IsComplete l.initial.input → IsComplete l.input;
  grows : Grows (g.D.Desk.outside l.initial.desk).printed (g.D.Desk.outside l.desk).printed;
  so_far : LinesSoFar l.version l.lines (progress l.initial.labels (g.D.Desk.outside l.initial.desk) l.initial.input l.initial.output)
      (progress l.labels (g.D.Desk.outside l.desk) l.input l.output);
}
