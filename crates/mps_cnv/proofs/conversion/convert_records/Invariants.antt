use Rattle.mps_log_reader.specs.declared.bad_log.BadLog.{BadLog}
use Rattle.std.proofs.Common.{◌≡◌, ◌≤◌, ◌+◌, ◌-◌, ◌*◌, Ok}
use Rattle.mps_log_reader.specs.Causes.{WorksOnInput}
use Rattle.mps_log_reader.specs.Input.{IsAtEnd}
use Rattle.mps_event.specs.KindSet.{bits_of}
use Rattle.mps_log_reader.specs.Left.{left_of}
use Rattle.mps_log_reader.specs.PutOut.{put_out, Grows}
use Rattle.mps_cnv.proofs.Converting.{SoFar}
use Rattle.mps_cnv.proofs.conversion.convert_records.Given as goal

abbrev pub invariant-loop-count : goal.invariant-loop-count
invariant-loop-count g l = record {
  works : WorksOnInput {T = Unit {0}} {E = BadLog} (g.D.Desk.outside l.initial.desk) (g.D.Desk.outside l.desk) l.initial.input l.input
      (Ok tt);
  counted : l.count ≤ 4294967295;
  offset : l.offset ≤ 8 + 40 * l.count;
  reported : (g.D.Desk.outside l.desk).reported ≡ (g.D.Desk.outside l.initial.desk).reported;
  err_faults : (g.D.Desk.outside l.desk).err_faults ≡ (g.D.Desk.outside l.initial.desk).err_faults;
  at_end : IsAtEnd (g.D.Desk.outside l.desk) l.input;
  grows : Grows (g.D.Desk.outside l.initial.desk).printed (g.D.Desk.outside l.desk).printed;
  so_far : SoFar l.version (bits_of l.kinds) l.count l.offset (left_of (g.D.Desk.outside l.initial.desk) l.initial.input)
      (left_of (g.D.Desk.outside l.desk) l.input)
      (put_out (g.D.Desk.outside l.initial.desk) l.initial.output) (put_out (g.D.Desk.outside l.desk) l.output);
}

abbrev pub decreases-loop-count : goal.decreases-loop-count
decreases-loop-count g l = 4294967295 - l.count
