use Rattle.std.proofs.Common.{◌≡◌, drop, ap, sym, subst, ◌∙◌, ℕ, Ok}
use Rattle.std.specs.Prelude.{unwrap_or}
use Rattle.std.proofs.lemmas.Result.{err_from_is_err_and}
use Rattle.mps_log_reader.specs.Input.{Buffered}
use Rattle.mps_log_reader.specs.Left.{left_of}
use Rattle.mps_blocks.specs.Replaying.{NextReplays}
use Rattle.mps_blocks.proofs.Replaying.{next_replays, next_stops}
use Rattle.mps_blocks.proofs.command.replay_next.Goals as goal

pub returns-in_err-size-clause-replays : goal.returns-in_err-size-clause-replays
returns-in_err-size-clause-replays g c =
    let p = err_from_is_err_and c.from_residual.result c.from_residual.ensures.1 in
    rw (p.1, p.2)
    (next_stops c.args.version c.args.offset (g.D.Desk.outside c.args.desk.now) (g.D.Desk.outside c.fill.new.desk)
    c.args.input.now c.fill.new.self (left_of (g.D.Desk.outside c.fill.new.desk) c.fill.new.self) c.args.replay.now
    c.replay_record.new.replay _
    c.requires.at_end c.fill.ensures.read c.in_err-size.ensures.replays)

pub returns-clause-replays : goal.returns-clause-replays
returns-clause-replays g c =
    let after : c.take.new.self ≡ record c.fill.new.self { pending = drop (unwrap_or c.in_ok-size.size 0) c.fill.new.self.pending } =
    c.take.ensures ∙ ap (λ (n : ℕ). record c.fill.new.self { pending = drop n c.fill.new.self.pending }) c.unwrap_or.ensures in
    subst (λ (b : Buffered). NextReplays c.args.version c.args.offset (left_of (g.D.Desk.outside c.args.desk.now) c.args.input.now)
    (left_of (g.D.Desk.outside c.fill.new.desk) b)
    c.args.replay.now c.replay_record.new.replay (Ok c.in_ok-size.size))
    (sym after)
    (next_replays c.args.version c.args.offset (g.D.Desk.outside c.args.desk.now) (g.D.Desk.outside c.fill.new.desk)
    c.args.input.now c.fill.new.self c.args.replay.now c.replay_record.new.replay c.in_ok-size.size
    c.requires.at_end c.fill.ensures.read c.fill.ensures.enough c.in_ok-size.ensures.replays)
