use Rattle.std.proofs.Common.{◌≡◌, ◌≢◌, ◌-◌, ◌≤◌, ℕ, Bool, true, false, nat_le, if◌then◌else◌, List, [], ◌∷◌, length, drop, refl, sym, ap, subst, arith, ◌∙◌}
use Rattle.std.proofs.lemmas.Bool.Decides.{nat_tests}
use Rattle.std.proofs.lemmas.List.{length-drop}
use Rattle.mps_report.proofs.Logging.{only_logs_then, takes_self, takes_then}
use Rattle.mps_model.specs.Answer.{answer_of}
use Rattle.mps_run.specs.Running.{LineLogged}
use Rattle.mps_run.specs.declared.progress.Progress.{Progress}
use Rattle.mps_run.proofs.SoFar.{come_to}
use Rattle.mps_run.proofs.Turns.{steady_self, steady_then}
use Rattle.mps_generated.specs.Texts.{AreLineTexts, first_line}
use Rattle.mps_generated.proofs.LastTwo.{leaves_both}
use Rattle.mps_generated.proofs.SoFar.{LoggedSoFar, logged_at_start, one_logged, leaves_at_line}
use Rattle.mps_generated.proofs.Texts.{texts_later}
use Rattle.mps_generated.proofs.all_lines.run_lines.Goals as goal

three_or_more : (n m : ℕ) → 2 ≤ n → n ≢ 2 → m ≡ n - 1 → 2 ≤ m
three_or_more n m some other is = at (nat_le 3 n) refl
  where
    at : (b : Bool) → nat_le 3 n ≡ b → 2 ≤ m
    at true e = grind (arith, nat_tests, e, is)
    at false e = absurd (other (grind (arith, nat_tests, e, some)))

pub loop-desk-init : goal.loop-desk-init
loop-desk-init g c =
    let start = g.D.Desk.outside c.args.desk.now in
    record {
      quiet = record {
        asked = refl;
        input = refl;
        in_faults = refl;
        printed = refl;
        out_faults = refl;
        reported = refl;
        err_faults = refl;
        out_waits = refl;
      };
      counted = omega arith;
      steady = steady_self start;
      takes = takes_self start;
      so_far = logged_at_start (g.C.Commands.stands_for c.args.commands.now) c.new-progress.result c.args.lines.now start
          c.new-progress.ensures c.requires.begun;
      texts = c.requires.texts;
      few = omega (arith, c.requires.few, ap (λ (p : Progress). p.lines) c.new-progress.ensures);
      some = c.requires.some;
    }

-- ---- the machine is asked in its turn

pub log_next-requires-clause-come : goal.log_next-requires-clause-come
log_next-requires-clause-come g c =
    let so_far = c.loop-desk.invariant.so_far in
    come_to (g.C.Commands.stands_for c.loop-desk.commands) c.loop-desk.progress so_far.ran so_far.history so_far.come

pub log_next-requires-2-clause-come : goal.log_next-requires-2-clause-come
log_next-requires-2-clause-come g c =
    let so_far = c.loop-desk.invariant.so_far in
    come_to (g.C.Commands.stands_for c.loop-desk.commands) c.loop-desk.progress so_far.ran so_far.history so_far.come

pub log_next-requires-3-clause-come : goal.log_next-requires-3-clause-come
log_next-requires-3-clause-come g c =
    let i = c.loop-desk.invariant in
    let e = c.log_next-2.ensures in
    let lines = c.in-Ok-log_next.ensures.logged.lines in
    let more : LoggedSoFar (g.C.Commands.stands_for c.log_next-2.new.commands) c.log_next-2.new.progress
    c.args.lines.now (drop 1 c.loop-desk.lines) (g.D.Desk.outside c.args.desk.now) (g.D.Desk.outside c.log_next-2.new.desk) =
    one_logged i.so_far c.in-Ok-log_next.ensures.logged e.quiet.printed i.texts (omega (arith, i.some))
    (omega (arith, lines, i.few, i.some)) in
    come_to (g.C.Commands.stands_for c.log_next-2.new.commands) c.log_next-2.new.progress more.ran more.history more.come

pub loop-desk-preserved : goal.loop-desk-preserved
loop-desk-preserved g c =
    let old = g.D.Desk.outside c.args.desk.now in
    let before = g.D.Desk.outside c.loop-desk.desk in
    let after = g.D.Desk.outside c.log_next.new.desk in
    let i = c.loop-desk.invariant in
    let e = c.log_next.ensures in
    let size : length c.log_next.new.lines ≡ length c.loop-desk.lines - 1 =
    ap (λ (ls : List (List ℕ)). length ls) e.left ∙ length-drop 1 c.loop-desk.lines in
    let two : length c.loop-desk.lines ≢ 2 = c.are_two_left.ensures.others c.loop-desk-test.true in
    let lines = c.in-Ok.ensures.logged.lines in
    record {
      quiet = only_logs_then old before after i.quiet e.quiet;
      counted = omega (arith, i.counted, e.counted);
      steady = steady_then old before after i.steady c.in-Ok.ensures.steady;
      takes = takes_then old before after i.takes e.takes;
      so_far = subst (λ (ls : List (List ℕ)). LoggedSoFar (g.C.Commands.stands_for c.log_next.new.commands)
          c.log_next.new.progress c.args.lines.now ls old after) (sym e.left)
          (one_logged i.so_far c.in-Ok.ensures.logged e.quiet.printed i.texts (omega (arith, i.some))
          (omega (arith, lines, i.few, i.some)));
      texts = subst AreLineTexts (sym e.left) (texts_later c.loop-desk.lines i.texts);
      few = omega (arith, lines, size, i.few, i.some);
      some = three_or_more (length c.loop-desk.lines) (length c.log_next.new.lines) i.some two size;
    }

pub returns-in-Err-clause-takes : goal.returns-in-Err-clause-takes
returns-in-Err-clause-takes g c =
    takes_then (g.D.Desk.outside c.args.desk.now) (g.D.Desk.outside c.loop-desk.desk) (g.D.Desk.outside c.log_next.new.desk)
    c.loop-desk.invariant.takes c.log_next.ensures.takes

pub returns-in-Err-clause-leaves : goal.returns-in-Err-clause-leaves
returns-in-Err-clause-leaves g c =
    let i = c.loop-desk.invariant in
    leaves_at_line g.C.Commands.takes_memory (g.C.Commands.stands_for c.loop-desk.commands) c.loop-desk.progress c.args.lines.now
    c.loop-desk.lines (g.D.Desk.outside c.args.desk.now) (g.D.Desk.outside c.loop-desk.desk) (g.D.Desk.outside c.log_next.new.desk)
    i.so_far i.texts (omega (arith, i.some)) c.requires.good c.in-Err.stop c.in-Err.ensures.unprinted i.quiet.printed
    c.log_next.ensures.quiet.printed c.in-Err.ensures.stops

-- ---- the line before the last

pub returns-in-Err-log_next-clause-takes : goal.returns-in-Err-log_next-clause-takes
returns-in-Err-log_next-clause-takes g c =
    takes_then (g.D.Desk.outside c.args.desk.now) (g.D.Desk.outside c.loop-desk.desk) (g.D.Desk.outside c.log_next-2.new.desk)
    c.loop-desk.invariant.takes c.log_next-2.ensures.takes

pub returns-in-Err-log_next-clause-leaves : goal.returns-in-Err-log_next-clause-leaves
returns-in-Err-log_next-clause-leaves g c =
    let i = c.loop-desk.invariant in
    leaves_at_line g.C.Commands.takes_memory (g.C.Commands.stands_for c.loop-desk.commands) c.loop-desk.progress c.args.lines.now
    c.loop-desk.lines (g.D.Desk.outside c.args.desk.now) (g.D.Desk.outside c.loop-desk.desk) (g.D.Desk.outside c.log_next-2.new.desk)
    i.so_far i.texts (omega (arith, i.some)) c.requires.good c.in-Err-log_next.stop c.in-Err-log_next.ensures.unprinted
    i.quiet.printed c.log_next-2.ensures.quiet.printed c.in-Err-log_next.ensures.stops

-- ---- the last line

pub returns-in-Err-log_next-2-clause-takes : goal.returns-in-Err-log_next-2-clause-takes
returns-in-Err-log_next-2-clause-takes g c =
    let old = g.D.Desk.outside c.args.desk.now in
    let mid = g.D.Desk.outside c.log_next-2.new.desk in
    takes_then old mid (g.D.Desk.outside c.log_next-3.new.desk)
    (takes_then old (g.D.Desk.outside c.loop-desk.desk) mid c.loop-desk.invariant.takes c.log_next-2.ensures.takes)
    c.log_next-3.ensures.takes

pub returns-in-Err-log_next-2-clause-leaves : goal.returns-in-Err-log_next-2-clause-leaves
returns-in-Err-log_next-2-clause-leaves g c =
    let i = c.loop-desk.invariant in
    let e = c.log_next-2.ensures in
    let old = g.D.Desk.outside c.args.desk.now in
    let mid = g.D.Desk.outside c.log_next-2.new.desk in
    let size : length (drop 1 c.loop-desk.lines) ≡ length c.loop-desk.lines - 1 = length-drop 1 c.loop-desk.lines in
    let lines = c.in-Ok-log_next.ensures.logged.lines in
    let more : LoggedSoFar (g.C.Commands.stands_for c.log_next-2.new.commands) c.log_next-2.new.progress
    c.args.lines.now (drop 1 c.loop-desk.lines) old mid =
    one_logged i.so_far c.in-Ok-log_next.ensures.logged e.quiet.printed i.texts (omega (arith, i.some))
    (omega (arith, lines, i.few, i.some)) in
    leaves_at_line g.C.Commands.takes_memory (g.C.Commands.stands_for c.log_next-2.new.commands) c.log_next-2.new.progress c.args.lines.now
    c.log_next-2.new.lines old mid (g.D.Desk.outside c.log_next-3.new.desk)
    (subst (λ (ls : List (List ℕ)). LoggedSoFar (g.C.Commands.stands_for c.log_next-2.new.commands)
    c.log_next-2.new.progress c.args.lines.now ls old mid) (sym e.left) more)
    (subst AreLineTexts (sym e.left) (texts_later c.loop-desk.lines i.texts))
    (omega (arith, ap (λ (ls : List (List ℕ)). length ls) e.left, size, i.some)) c.requires.good c.in-Err-log_next-2.stop
    c.in-Err-log_next-2.ensures.unprinted (e.quiet.printed ∙ i.quiet.printed) c.log_next-3.ensures.quiet.printed
    c.in-Err-log_next-2.ensures.stops

-- ---- the answers

pub returns-clause-takes : goal.returns-clause-takes
returns-clause-takes g c =
    let old = g.D.Desk.outside c.args.desk.now in
    let mid = g.D.Desk.outside c.log_next-2.new.desk in
    let late = g.D.Desk.outside c.log_next-3.new.desk in
    takes_then old late (g.D.Desk.outside c.print_both.new.desk)
    (takes_then old mid late
    (takes_then old (g.D.Desk.outside c.loop-desk.desk) mid c.loop-desk.invariant.takes c.log_next-2.ensures.takes)
    c.log_next-3.ensures.takes)
    c.print_both.ensures.takes

pub returns-clause-leaves : goal.returns-clause-leaves
returns-clause-leaves g c =
    let i = c.loop-desk.invariant in
    let e = c.log_next-2.ensures in
    let k = c.log_next-3.ensures in
    let live = c.in-Ok-log_next.ensures.logged in
    let committed = c.in-Ok-log_next-2.ensures.logged in
    let words = g.C.Commands.words c.log_next-3.new.commands in
    leaves_both g.C.Commands.takes_memory (g.C.Commands.stands_for c.loop-desk.commands) (g.C.Commands.stands_for c.log_next-2.new.commands)
    (g.C.Commands.stands_for c.log_next-3.new.commands) c.loop-desk.progress c.log_next-2.new.progress c.log_next-3.new.progress
    c.args.lines.now c.loop-desk.lines (g.D.Desk.outside c.args.desk.now) (g.D.Desk.outside c.loop-desk.desk)
    (g.D.Desk.outside c.log_next-2.new.desk) (g.D.Desk.outside c.log_next-3.new.desk)
    (c.are_two_left.ensures.two c.loop-desk-test.false) i.so_far c.in-Ok-log_next.field-0
    c.in-Ok-log_next-2.field-0 (g.C.Commands.words c.log_next-2.new.commands) words c.log_next-2.new.reply c.log_next-3.new.reply live
    (subst (λ (ls : List (List ℕ)). LineLogged (g.C.Commands.stands_for c.log_next-2.new.commands)
    (g.C.Commands.stands_for c.log_next-3.new.commands)
    (if c.in-Ok-log_next-2.field-0 then answer_of words c.log_next-3.new.reply ∷ [] else []) c.log_next-2.new.progress
    c.log_next-3.new.progress (first_line ls) (g.D.Desk.outside c.log_next-2.new.desk) (g.D.Desk.outside c.log_next-3.new.desk)) e.left
    committed)
    i.quiet.printed e.quiet.printed k.quiet.printed i.texts (omega (arith, live.lines, i.few, i.some))
    (omega (arith, live.lines, committed.lines, i.few, i.some)) (g.D.Desk.outside c.print_both.new.desk) c.print_both.result
    c.print_both.ensures.does
