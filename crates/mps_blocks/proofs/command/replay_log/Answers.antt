use Rattle.std.proofs.lemmas.Result.{err_from_is_err_and}
use Rattle.mps_log_reader.specs.Left.{left_of}
use Rattle.mps_blocks.proofs.WholeReplay.{replayed_whole, replayed_stop}
use Rattle.mps_blocks.proofs.command.replay_log.Goals as goal

pub returns-in_err-replay_records-clause-replayed : goal.returns-in_err-replay_records-clause-replayed
returns-in_err-replay_records-clause-replayed g c bytes known =
    let p = err_from_is_err_and c.from_residual-in_err-replay_records.result c.from_residual-in_err-replay_records.ensures.1 in
    rw (p.1, p.2)
    (replayed_stop c.in_ok-version.version bytes
    (left_of (g.D.Desk.outside c.open_log.new.desk) c.open_log.new.input) c.new-replay.result c.replay_records.new.replay _
    c.new-replay.ensures (c.in_ok-version.ensures.opened bytes known) c.in_err-replay_records.ensures.all)

pub returns-clause-replayed : goal.returns-clause-replayed
returns-clause-replayed g c bytes known =
    replayed_whole c.in_ok-version.version bytes
    (left_of (g.D.Desk.outside c.open_log.new.desk) c.open_log.new.input) c.new-replay.result c.replay_records.new.replay
    c.new-replay.ensures (c.in_ok-version.ensures.opened bytes known) c.in_ok-replay_records.ensures.all
