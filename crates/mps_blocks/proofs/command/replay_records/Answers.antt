use Rattle.std.proofs.Common.{◌∙◌, Ok, arith}
use Rattle.mps_blocks.specs.declared.bad_replay.BadReplay.{BadReplay}
use Rattle.mps_log_reader.specs.Causes.{WorksOnInput}
use Rattle.std.proofs.lemmas.Result.{err_from_is_err_and}
use Rattle.mps_log_reader.specs.Left.{left_of}
use Rattle.mps_log_reader.proofs.Causes.{works-then, works_value}
use Rattle.mps_blocks.proofs.Replaying.{one_more, interned_more, all_read, all_stop, all_counted}
use Rattle.mps_blocks.proofs.command.replay_records.Goals as goal

pub loop-preserved : goal.loop-preserved
loop-preserved g c =
    let works : WorksOnInput {T = Unit {0}} {E = BadReplay} (g.D.Desk.outside c.args.desk.now)
    (g.D.Desk.outside c.loop.desk) c.args.input.now c.loop.input (Ok tt) = c.loop.invariant.works in
    let next = rw c.in-Some.is at c.in_ok-replay_next.ensures.replays in
    let step = c.in_ok-replay_next.ensures.works in
    record {
      works = works-then _ _ _ _ _ _ tt (Ok tt) works (works_value _ _ _ _ _ tt step);
      offset = let size = rw c.in-Some.is at c.in_ok-replay_next.ensures.size in omega (arith, size, c.loop.invariant.offset);
      interned = let more = interned_more c.loop.replay c.replay_next.new.replay next.read next.replay in
          omega (arith, more, c.loop.invariant.interned);
      printed = c.in_ok-replay_next.ensures.printed ∙ c.loop.invariant.printed;
      reported = c.in_ok-replay_next.ensures.reported ∙ c.loop.invariant.reported;
      err_faults = c.in_ok-replay_next.ensures.err_faults ∙ c.loop.invariant.err_faults;
      at_end = c.in_ok-replay_next.ensures.at_end;
      so_far = one_more c.args.version c.loop.counter c.loop.offset c.in-Some.size
          (left_of (g.D.Desk.outside c.args.desk.now) c.args.input.now) (left_of (g.D.Desk.outside c.loop.desk) c.loop.input)
          (left_of (g.D.Desk.outside c.replay_next.new.desk) c.replay_next.new.input)
          c.args.replay.now c.loop.replay c.replay_next.new.replay c.loop.invariant.so_far next;
    }

pub returns-in-None-clause-all : goal.returns-in-None-clause-all
returns-in-None-clause-all g c bytes known =
    let next = rw c.in-None.is at c.in_ok-replay_next.ensures.replays in
    all_read c.args.version c.loop.counter c.loop.offset
    (left_of (g.D.Desk.outside c.args.desk.now) c.args.input.now) (left_of (g.D.Desk.outside c.loop.desk) c.loop.input)
    c.args.replay.now c.loop.replay bytes (left_of (g.D.Desk.outside c.replay_next.new.desk) c.replay_next.new.input)
    c.replay_next.new.replay
    (omega (arith, c.loop-test.true)) c.loop.invariant.so_far next known

pub returns-clause-all : goal.returns-clause-all
returns-clause-all g c bytes known =
    all_counted c.args.version c.loop.counter c.loop.offset
    (left_of (g.D.Desk.outside c.args.desk.now) c.args.input.now) (left_of (g.D.Desk.outside c.loop.desk) c.loop.input)
    c.args.replay.now c.loop.replay bytes c.after_the_last.result
    (omega (arith, c.loop-test.false, c.loop.auto.counter-end)) c.loop.invariant.so_far
    (c.after_the_last.ensures.gives c.loop.invariant.at_end) known

pub returns-in_err-replay_next-clause-all : goal.returns-in_err-replay_next-clause-all
returns-in_err-replay_next-clause-all g c bytes known =
    let p = err_from_is_err_and c.from_residual.result c.from_residual.ensures.1 in
    rw (p.1, p.2)
    (all_stop c.args.version c.loop.counter c.loop.offset
    (left_of (g.D.Desk.outside c.args.desk.now) c.args.input.now) (left_of (g.D.Desk.outside c.loop.desk) c.loop.input)
    c.args.replay.now c.loop.replay bytes (left_of (g.D.Desk.outside c.replay_next.new.desk) c.replay_next.new.input)
    c.replay_next.new.replay _
    (omega (arith, c.loop-test.true)) c.loop.invariant.so_far c.in_err-replay_next.ensures.replays known)
