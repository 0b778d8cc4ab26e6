use Rattle.std.proofs.Common.{◌≡◌, ◌*◌, ◌≤◌, take}
use Rattle.std.specs.Prelude.{All}
use Rattle.mps_base.specs.Record.{records_bytes}
use Rattle.mps_event.specs.declared.version.Version.TheVariants.{Two}
use Rattle.mps_event.specs.Grammar.{IsRecord}
use Rattle.mps_model.specs.Log.{records_of}
use Rattle.mps_run.proofs.log_moves.put_moves.Given as goal

-- the bytes before the length are the records of the moves before this one
abbrev pub invariant-loop-moved : goal.invariant-loop-moved
invariant-loop-moved l = (l.length ≤ 64 * l.moved-index)
    × (take l.length l.bytes ≡ records_bytes (records_of (take l.moved-index l.moves) l.line))
    × All (IsRecord Two) (records_of (take l.moved-index l.moves) l.line)
