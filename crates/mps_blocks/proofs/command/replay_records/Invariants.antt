use Rattle.std.proofs.Common.{◌≡◌, ◌≤◌, ◌+◌, ◌*◌, Ok}
use Rattle.mps_blocks.specs.declared.bad_replay.BadReplay.{BadReplay}
use Rattle.mps_log_reader.specs.Causes.{WorksOnInput}
use Rattle.mps_log_reader.specs.Input.{IsAtEnd}
use Rattle.mps_log_reader.specs.Left.{left_of}
use Rattle.mps_blocks.proofs.Replaying.{SoFar}
use Rattle.mps_blocks.proofs.command.replay_records.Given as goal

abbrev pub invariant-loop : goal.invariant-loop
invariant-loop g l = record {
  works : WorksOnInput {T = Unit {0}} {E = BadReplay} (g.D.Desk.outside l.initial.desk) (g.D.Desk.outside l.desk) l.initial.input l.input
      (Ok tt);
  offset : l.offset ≤ 8 + 40 * l.counter;
  interned : l.replay.interned ≤ l.counter;
  printed : (g.D.Desk.outside l.desk).printed ≡ (g.D.Desk.outside l.initial.desk).printed;
  reported : (g.D.Desk.outside l.desk).reported ≡ (g.D.Desk.outside l.initial.desk).reported;
  err_faults : (g.D.Desk.outside l.desk).err_faults ≡ (g.D.Desk.outside l.initial.desk).err_faults;
  at_end : IsAtEnd (g.D.Desk.outside l.desk) l.input;
  so_far : SoFar l.version l.counter l.offset (left_of (g.D.Desk.outside l.initial.desk) l.initial.input)
      (left_of (g.D.Desk.outside l.desk) l.input) l.initial.replay l.replay;
}
