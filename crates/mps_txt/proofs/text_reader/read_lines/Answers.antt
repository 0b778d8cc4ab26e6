use Rattle.std.proofs.Common.{◌+◌, ◌∙◌, ◌++◌, ℕ, List, Option, Bool, Ok, arith, ap, subst}
use Rattle.std.specs.Option.{option_map}
use Rattle.std.proofs.lemmas.Result.{err_from_is_err_and}
use Rattle.mps_log_reader.specs.Causes.{WorksOnInput}
use Rattle.mps_log_reader.specs.Left.{left_of}
use Rattle.mps_log_reader.specs.PutOut.{put_out}
use Rattle.mps_log_reader.proofs.Causes.{works-then, works_value}
use Rattle.mps_log_reader.proofs.PartPut.{grows_none, grows_then}
use Rattle.mps_log_reader.proofs.Stops.{stopped, not_at_the_end, handed_on}
use Rattle.mps_txt.specs.declared.bad_text_line.BadTextLine.{BadTextLine}
use Rattle.mps_txt.specs.TextSteps.{progress, NextGives}
use Rattle.mps_txt.proofs.LinesSoFar.{one_more, all_read, all_stop, all_counted}
use Rattle.mps_txt.proofs.FailedWrite.{lines_cut}
use Rattle.mps_txt.proofs.text_reader.read_lines.Goals as goal

pub returns-in_err-read_next-clause-gives : goal.returns-in_err-read_next-clause-gives
returns-in_err-read_next-clause-gives g c bytes known =
    let p = err_from_is_err_and c.from_residual.result c.from_residual.ensures.1 in
    rw (p.1, p.2)
    (all_stop c.args.version c.loop-lines.lines _ _ c.loop-lines.invariant.so_far bytes known (c.from.result + 2)
    (progress c.read_next.new.labels (g.D.Desk.outside c.read_next.new.desk) c.read_next.new.input c.read_next.new.output)
    (g.D.Desk.outside c.read_next.new.desk).input _
    (omega arith) (omega arith) c.in_err-read_next.ensures.gives
    (λ complete failed. c.in_err-read_next.ensures.no_fault complete (ap (stopped Bool) failed)))

pub returns-then-not-branch-clause-gives : goal.returns-then-not-branch-clause-gives
returns-then-not-branch-clause-gives g c bytes known =
    let now = progress c.loop-lines.labels (g.D.Desk.outside c.loop-lines.desk) c.loop-lines.input c.loop-lines.output in
    let next = progress c.read_next.new.labels (g.D.Desk.outside c.read_next.new.desk) c.read_next.new.input c.read_next.new.output in
    let unread = (g.D.Desk.outside c.read_next.new.desk).input in
    all_read c.args.version c.loop-lines.lines _ now c.loop-lines.invariant.so_far bytes known (c.from.result + 2) next unread (omega arith)
    (subst (λ (b : Bool). NextGives c.args.version (c.from.result + 2) now next unread (Ok b)) c.if-not-branch.true
    c.in_ok-read_next.ensures.gives)

pub returns-clause-gives : goal.returns-clause-gives
returns-clause-gives g c bytes known =
    all_counted c.args.version c.loop-lines.lines _ _ c.loop-lines.invariant.so_far bytes known
    (g.D.Desk.outside c.after_the_last.new.desk).input
    (put_out (g.D.Desk.outside c.after_the_last.new.desk) c.loop-lines.output) c.after_the_last.result (omega arith)
    (c.after_the_last.ensures.gives c.loop-lines.invariant.at_end) c.after_the_last.ensures.complete c.after_the_last.ensures.unread
    (ap (λ (o : Option (List ℕ)). option_map (λ printed. printed ++ c.loop-lines.output) o) c.after_the_last.ensures.printed)

pub returns-in_err-read_next-clause-grows : goal.returns-in_err-read_next-clause-grows
returns-in_err-read_next-clause-grows g c =
    grows_then (g.D.Desk.outside c.args.desk.now).printed (g.D.Desk.outside c.loop-lines.desk).printed
    (g.D.Desk.outside c.read_next.new.desk).printed c.loop-lines.invariant.grows c.read_next.ensures.grows

pub returns-then-not-branch-clause-grows : goal.returns-then-not-branch-clause-grows
returns-then-not-branch-clause-grows g c =
    grows_then (g.D.Desk.outside c.args.desk.now).printed (g.D.Desk.outside c.loop-lines.desk).printed
    (g.D.Desk.outside c.read_next.new.desk).printed c.loop-lines.invariant.grows c.read_next.ensures.grows

pub returns-clause-grows : goal.returns-clause-grows
returns-clause-grows g c =
    grows_then (g.D.Desk.outside c.args.desk.now).printed (g.D.Desk.outside c.loop-lines.desk).printed
    (g.D.Desk.outside c.after_the_last.new.desk).printed c.loop-lines.invariant.grows
    (grows_none (g.D.Desk.outside c.loop-lines.desk).printed
    (g.D.Desk.outside c.after_the_last.new.desk).printed c.after_the_last.ensures.printed)

pub returns-in_err-read_next-clause-cut : goal.returns-in_err-read_next-clause-cut
returns-in_err-read_next-clause-cut g c failed bytes known =
    let p = err_from_is_err_and c.from_residual.result c.from_residual.ensures.1 in
    lines_cut c.args.version bytes c.args.output.now c.loop-lines.output (g.D.Desk.outside c.args.desk.now)
    (g.D.Desk.outside c.loop-lines.desk) (g.D.Desk.outside c.read_next.new.desk)
    c.loop-lines.invariant.grows (c.in_err-read_next.ensures.cut (handed_on _ _ c.from_residual.result p.0 _ _ p.1 p.2 failed))
    c.loop-lines.lines c.args.labels.now c.loop-lines.labels c.args.input.now c.loop-lines.input c.loop-lines.invariant.so_far known
    (omega arith)

pub returns-clause-cut : goal.returns-clause-cut
returns-clause-cut g c failed bytes known =
    not_at_the_end _ (left_of (g.D.Desk.outside c.loop-lines.desk) c.loop-lines.input) c.after_the_last.result
    (c.after_the_last.ensures.gives c.loop-lines.invariant.at_end) failed

pub loop-lines-preserved : goal.loop-lines-preserved
loop-lines-preserved g c =
    let works : WorksOnInput {T = Unit {0}} {E = BadTextLine} (g.D.Desk.outside c.args.desk.now)
    (g.D.Desk.outside c.loop-lines.desk) c.args.input.now c.loop-lines.input (Ok tt) = c.loop-lines.invariant.works in
    let step = c.in_ok-read_next.ensures.works in
    let now = progress c.loop-lines.labels (g.D.Desk.outside c.loop-lines.desk) c.loop-lines.input c.loop-lines.output in
    let next = progress c.read_next.new.labels (g.D.Desk.outside c.read_next.new.desk) c.read_next.new.input c.read_next.new.output in
    let unread = (g.D.Desk.outside c.read_next.new.desk).input in
    record {
      works = works-then _ _ _ _ _ _ tt (Ok tt) works (works_value _ _ _ _ _ tt step);
      reported = c.in_ok-read_next.ensures.reported ∙ c.loop-lines.invariant.reported;
      err_faults = c.in_ok-read_next.ensures.err_faults ∙ c.loop-lines.invariant.err_faults;
      at_end = c.in_ok-read_next.ensures.at_end;
      complete = λ complete. c.in_ok-read_next.ensures.stays (c.loop-lines.invariant.complete complete);
      grows = grows_then (g.D.Desk.outside c.args.desk.now).printed (g.D.Desk.outside c.loop-lines.desk).printed
          (g.D.Desk.outside c.read_next.new.desk).printed c.loop-lines.invariant.grows c.read_next.ensures.grows;
      so_far = one_more c.args.version c.loop-lines.lines _ now c.loop-lines.invariant.so_far (c.from.result + 2) next unread
          (subst (λ (b : Bool). NextGives c.args.version (c.from.result + 2) now next unread (Ok b)) c.if-not-branch.false
          c.in_ok-read_next.ensures.gives) c.in_ok-read_next.ensures.stays;
    }
