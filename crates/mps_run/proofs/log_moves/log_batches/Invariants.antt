use Rattle.std.proofs.Common.{◌≡◌, List, ◌++◌}
use Rattle.std.specs.Slice.Iter.{chunks_rest, chunks_size}
use Rattle.std.specs.Prelude.{All}
use Rattle.mps_event.specs.declared.version.Version.TheVariants.{Two}
use Rattle.mps_event.specs.Grammar.{IsRecord}
use Rattle.mps_base.specs.declared.moves.Move.{Move}
use Rattle.mps_base.specs.Record.{records_bytes}
use Rattle.mps_model.specs.Log.{records_of}
use Rattle.mps_report.specs.Streams.{Logs}
use Rattle.mps_run.proofs.log_moves.log_batches.Given as goal

-- the batches that were logged, and the moves that are left
abbrev pub invariant-loop-batch : goal.invariant-loop-batch
invariant-loop-batch g l =
    (goal.iterator-loop-batch g).can_next l.batch-iterator
    × (goal.iterator-loop-batch g).is_finite l.batch-iterator
    × (chunks_size l.batch-iterator ≡ 16)
    × ((done : List Move) × (done ++ chunks_rest l.batch-iterator ≡ l.moves)
    × Logs (g.D.Desk.outside l.initial.desk) (g.D.Desk.outside l.desk) (records_bytes (records_of done l.line))
    × All (IsRecord Two) (records_of done l.line))
