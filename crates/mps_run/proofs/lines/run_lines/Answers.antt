use Rattle.std.proofs.Common.{◌≤◌, subst, sym, ap, refl, arith, Err, ◌++◌, ◌∷◌, []}
use Rattle.mps_lines.specs.Buffer.{ComesNextOf, rest_of_script}
use Rattle.mps_report.proofs.Logging.{takes_self, takes_then, takes_nothing, takes_after_reading}
use Rattle.mps_run.specs.Running.{LineRan, LineStops}
use Rattle.mps_run.specs.Script.{max_lines}
use Rattle.mps_run.proofs.SoFar.{ReadSoFar, at_start, come_to, read_nothing, one_line_more, read_more}
use Rattle.mps_run.proofs.Leaving.{ends_done, ends_too_long, ends_long_line, ends_at_fault, leaves_line}
use Rattle.mps_run.proofs.Turns.{steady_self, steady_then, runs_on_self, runs_on_line}
use Rattle.mps_run.proofs.lines.run_lines.Goals as goal

pub loop-next-init : goal.loop-next-init
loop-next-init g c =
    let start = g.D.Desk.outside c.args.desk.now in
    record {
      runs = runs_on_self start;
      steady = steady_self start;
      takes = takes_self start;
      so_far = at_start (g.C.Commands.stands_for c.args.commands.now) c.new-progress.result start c.new-progress.ensures
          c.requires;
      read = read_nothing (rest_of_script c.args.lines.now start.input);
    }

pub run_line-requires-clause-come : goal.run_line-requires-clause-come
run_line-requires-clause-come g c =
    let so_far = c.loop-next.invariant.so_far in
    come_to (g.C.Commands.stands_for c.loop-next.commands) c.loop-next.progress so_far.ran so_far.history so_far.come

pub loop-next-preserved : goal.loop-next-preserved
loop-next-preserved g c =
    let old = g.D.Desk.outside c.args.desk.now in
    let before = g.D.Desk.outside c.loop-next.desk in
    let read = g.D.Desk.outside c.next_line.new.desk in
    let ran = g.D.Desk.outside c.run_line.new.desk in
    let i = c.loop-next.invariant in
    let ensured = c.in-Ok.ensures in
    let line_ran = subst (λ bytes. LineRan (g.C.Commands.stands_for c.loop-next.commands)
    (g.C.Commands.stands_for c.run_line.new.commands) c.loop-next.progress c.run_line.new.progress bytes read ran) c.line.ensures
    c.in-Ok-run_line.ensures.ran in
    let bounded : c.run_line.new.progress.lines ≤ max_lines = omega (arith, line_ran.lines) in
    record {
      runs = runs_on_line old before read ran i.runs ensured.counted ensured.others c.run_line.ensures.runs;
      steady = steady_then old before ran i.steady
          (steady_then before read ran ensured.steady (c.in-Ok-run_line.ensures.steady refl));
      takes = takes_after_reading old before read ran i.takes ensured.others c.run_line.ensures.takes;
      so_far = one_line_more i.so_far ensured.others.printed ensured.others.logged line_ran bounded;
      read = subst (ReadSoFar (i.so_far.ran ++ c.next_line.new.lines.line ∷ []) (rest_of_script c.args.lines.now old.input))
          (sym (ap (rest_of_script c.next_line.new.lines) c.run_line.ensures.input))
          (read_more i.so_far.ran (rest_of_script c.args.lines.now old.input) (rest_of_script c.loop-next.lines before.input)
          c.next_line.new.lines.line (rest_of_script c.next_line.new.lines read.input) i.read
          (subst (λ n. ComesNextOf n (rest_of_script c.loop-next.lines before.input) c.next_line.new.lines.line
          (rest_of_script c.next_line.new.lines read.input)) c.in-Line.is ensured.next));
    }

pub returns-in-End-clause-leaves : goal.returns-in-End-clause-leaves
returns-in-End-clause-leaves g c script e =
    let i = c.loop-next.invariant in
    let ensured = c.in-Ok.ensures in
    ends_done g.C.Commands.takes_memory (g.C.Commands.stands_for c.loop-next.commands) c.loop-next.progress
    (g.D.Desk.outside c.args.desk.now)
    (g.D.Desk.outside c.loop-next.desk) (g.D.Desk.outside c.next_line.new.desk) i.so_far ensured.others.printed ensured.others.logged script
    (rest_of_script c.args.lines.now (g.D.Desk.outside c.args.desk.now).input)
    (rest_of_script c.loop-next.lines (g.D.Desk.outside c.loop-next.desk).input)
    (rest_of_script c.next_line.new.lines (g.D.Desk.outside c.next_line.new.desk).input) c.next_line.new.lines.line e i.read
    (subst (λ n. ComesNextOf n (rest_of_script c.loop-next.lines (g.D.Desk.outside c.loop-next.desk).input) c.next_line.new.lines.line
    (rest_of_script c.next_line.new.lines (g.D.Desk.outside c.next_line.new.desk).input)) c.in-End.is ensured.next)

pub returns-in-TooLong-2-clause-leaves : goal.returns-in-TooLong-2-clause-leaves
returns-in-TooLong-2-clause-leaves g c script e =
    let i = c.loop-next.invariant in
    let ensured = c.in-Ok.ensures in
    ends_too_long g.C.Commands.takes_memory (g.C.Commands.stands_for c.loop-next.commands) c.loop-next.progress
    (g.D.Desk.outside c.args.desk.now)
    (g.D.Desk.outside c.loop-next.desk) (g.D.Desk.outside c.next_line.new.desk) i.so_far ensured.others.printed ensured.others.logged script
    (rest_of_script c.args.lines.now (g.D.Desk.outside c.args.desk.now).input)
    (rest_of_script c.loop-next.lines (g.D.Desk.outside c.loop-next.desk).input)
    (rest_of_script c.next_line.new.lines (g.D.Desk.outside c.next_line.new.desk).input) c.next_line.new.lines.line e i.read
    c.in-Ok.next (λ x. cc) ensured.next (omega arith)

pub returns-then-progress-clause-leaves : goal.returns-then-progress-clause-leaves
returns-then-progress-clause-leaves g c script e =
    let i = c.loop-next.invariant in
    let ensured = c.in-Ok.ensures in
    ends_too_long g.C.Commands.takes_memory (g.C.Commands.stands_for c.loop-next.commands) c.loop-next.progress
    (g.D.Desk.outside c.args.desk.now)
    (g.D.Desk.outside c.loop-next.desk) (g.D.Desk.outside c.next_line.new.desk) i.so_far ensured.others.printed ensured.others.logged script
    (rest_of_script c.args.lines.now (g.D.Desk.outside c.args.desk.now).input)
    (rest_of_script c.loop-next.lines (g.D.Desk.outside c.loop-next.desk).input)
    (rest_of_script c.next_line.new.lines (g.D.Desk.outside c.next_line.new.desk).input) c.next_line.new.lines.line e i.read
    c.in-Ok.next (λ x. cc) ensured.next (omega arith)

pub returns-in-TooLong-clause-leaves : goal.returns-in-TooLong-clause-leaves
returns-in-TooLong-clause-leaves g c script e =
    let i = c.loop-next.invariant in
    let ensured = c.in-Ok.ensures in
    ends_long_line g.C.Commands.takes_memory (g.C.Commands.stands_for c.loop-next.commands) c.loop-next.progress
    (g.D.Desk.outside c.args.desk.now)
    (g.D.Desk.outside c.loop-next.desk) (g.D.Desk.outside c.next_line.new.desk) i.so_far ensured.others.printed ensured.others.logged script
    (rest_of_script c.args.lines.now (g.D.Desk.outside c.args.desk.now).input)
    (rest_of_script c.loop-next.lines (g.D.Desk.outside c.loop-next.desk).input)
    (rest_of_script c.next_line.new.lines (g.D.Desk.outside c.next_line.new.desk).input) c.next_line.new.lines.line e i.read
    (subst (λ n. ComesNextOf n (rest_of_script c.loop-next.lines (g.D.Desk.outside c.loop-next.desk).input) c.next_line.new.lines.line
    (rest_of_script c.next_line.new.lines (g.D.Desk.outside c.next_line.new.desk).input)) c.in-TooLong.is ensured.next) (omega arith)

pub returns-in-Err-clause-leaves : goal.returns-in-Err-clause-leaves
returns-in-Err-clause-leaves g c script e =
    let i = c.loop-next.invariant in
    let ensured = c.next_line.ensures in
    ends_at_fault g.C.Commands.takes_memory (g.C.Commands.stands_for c.loop-next.commands) c.loop-next.progress
    (g.D.Desk.outside c.args.desk.now)
    (g.D.Desk.outside c.loop-next.desk) (g.D.Desk.outside c.next_line.new.desk) i.so_far ensured.printed ensured.logged script
    (rest_of_script c.args.lines.now (g.D.Desk.outside c.args.desk.now).input)
    (rest_of_script c.loop-next.lines (g.D.Desk.outside c.loop-next.desk).input)
    (rest_of_script c.next_line.new.lines (g.D.Desk.outside c.next_line.new.desk).input) c.next_line.new.lines.line e i.read
    c.in-Err.stop c.loop-next.lines c.next_line.new.lines (g.D.Desk.outside c.loop-next.desk).input
    (g.D.Desk.outside c.next_line.new.desk).input c.in-Err.ensures.failed refl refl (λ is. c.in-Err.ensures.unread (ap Err is))

pub returns-in-Err-run_line-clause-leaves : goal.returns-in-Err-run_line-clause-leaves
returns-in-Err-run_line-clause-leaves g c script e =
    let i = c.loop-next.invariant in
    let ensured = c.in-Ok.ensures in
    leaves_line g.C.Commands.takes_memory (g.C.Commands.stands_for c.loop-next.commands) c.loop-next.progress
    (g.D.Desk.outside c.args.desk.now)
    (g.D.Desk.outside c.loop-next.desk) (g.D.Desk.outside c.next_line.new.desk) (g.D.Desk.outside c.run_line.new.desk) i.so_far
    ensured.others.printed ensured.others.logged script c.next_line.new.lines.line (omega arith)
    (omega (arith, i.runs.counts.out_faults, ensured.others.out_faults)) c.in-Err-run_line.stop
    (rest_of_script c.args.lines.now (g.D.Desk.outside c.args.desk.now).input)
    (rest_of_script c.loop-next.lines (g.D.Desk.outside c.loop-next.desk).input)
    (rest_of_script c.next_line.new.lines (g.D.Desk.outside c.next_line.new.desk).input) e i.read
    (subst (λ n. ComesNextOf n (rest_of_script c.loop-next.lines (g.D.Desk.outside c.loop-next.desk).input) c.next_line.new.lines.line
    (rest_of_script c.next_line.new.lines (g.D.Desk.outside c.next_line.new.desk).input)) c.in-Line.is ensured.next)
    (subst (λ bytes. LineStops g.C.Commands.takes_memory c.in-Err-run_line.stop (g.C.Commands.stands_for c.loop-next.commands)
    c.loop-next.progress bytes (g.D.Desk.outside c.next_line.new.desk) (g.D.Desk.outside c.run_line.new.desk)) c.line.ensures
    c.in-Err-run_line.ensures.stops)

pub returns-in-Err-run_line-clause-takes : goal.returns-in-Err-run_line-clause-takes
returns-in-Err-run_line-clause-takes g c =
    takes_after_reading (g.D.Desk.outside c.args.desk.now) (g.D.Desk.outside c.loop-next.desk) (g.D.Desk.outside c.next_line.new.desk)
    (g.D.Desk.outside c.run_line.new.desk) c.loop-next.invariant.takes c.in-Ok.ensures.others c.run_line.ensures.takes

pub returns-in-Err-clause-takes : goal.returns-in-Err-clause-takes
returns-in-Err-clause-takes g c =
    takes_then _ _ _ c.loop-next.invariant.takes
    (takes_nothing (g.D.Desk.outside c.loop-next.desk) (g.D.Desk.outside c.next_line.new.desk) c.next_line.ensures.logged
    c.next_line.ensures.files c.next_line.ensures.asked)
