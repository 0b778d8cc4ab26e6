use Rattle.std.proofs.Common.{◌∷◌, [], if◌then◌else◌, subst, refl}
use Rattle.mps_model.specs.Answer.{answer_of}
use Rattle.mps_report.proofs.Appended.{appended_empty}
use Rattle.mps_report.proofs.Logging.{takes_then}
use Rattle.mps_run.specs.Running.{LineLogged}
use Rattle.mps_run.proofs.Steps.{line_ran, ran_if_printed, cut_if_not}
use Rattle.mps_run.proofs.step.run_line.Goals as goal

pub returns-in-Ok-true-clause-ran : goal.returns-in-Ok-true-clause-ran
returns-in-Ok-true-clause-ran g c =
    let stood = g.C.Commands.stands_for c.args.commands.now in
    let stands = g.C.Commands.stands_for c.log_line.new.commands in
    let old = g.D.Desk.outside c.args.desk.now in
    let mid = g.D.Desk.outside c.log_line.new.desk in
    let answer = answer_of (g.C.Commands.words c.log_line.new.commands) c.log_line.new.reply in
    ran_if_printed stood stands answer c.args.progress.now c.log_line.new.progress c.args.bytes.now old mid
    (g.D.Desk.outside c.print_answer.new.desk)
    (subst (λ has_call. LineLogged stood stands (if has_call then answer ∷ [] else []) c.args.progress.now
    c.log_line.new.progress c.args.bytes.now old mid) c.in-Ok-true.field-0-test c.in-Ok-true.ensures.logged)
    c.log_line.ensures.quiet.printed c.log_line.ensures.quiet.out_faults c.print_answer.result c.print_answer.ensures.does

pub returns-in-Ok-true-clause-stops : goal.returns-in-Ok-true-clause-stops
returns-in-Ok-true-clause-stops g c =
    let stood = g.C.Commands.stands_for c.args.commands.now in
    let stands = g.C.Commands.stands_for c.log_line.new.commands in
    let old = g.D.Desk.outside c.args.desk.now in
    let mid = g.D.Desk.outside c.log_line.new.desk in
    let answer = answer_of (g.C.Commands.words c.log_line.new.commands) c.log_line.new.reply in
    cut_if_not stood stands answer c.args.progress.now c.log_line.new.progress c.args.bytes.now old mid
    (g.D.Desk.outside c.print_answer.new.desk)
    (subst (λ has_call. LineLogged stood stands (if has_call then answer ∷ [] else []) c.args.progress.now
    c.log_line.new.progress c.args.bytes.now old mid) c.in-Ok-true.field-0-test c.in-Ok-true.ensures.logged)
    c.log_line.ensures.quiet.printed c.log_line.ensures.quiet.out_faults g.C.Commands.takes_memory c.print_answer.result
    c.print_answer.ensures.does

pub returns-in-Ok-true-clause-takes : goal.returns-in-Ok-true-clause-takes
returns-in-Ok-true-clause-takes g c =
    takes_then (g.D.Desk.outside c.args.desk.now) (g.D.Desk.outside c.log_line.new.desk) (g.D.Desk.outside c.print_answer.new.desk)
    c.log_line.ensures.takes c.print_answer.ensures.takes

pub returns-in-Ok-false-clause-ran : goal.returns-in-Ok-false-clause-ran
returns-in-Ok-false-clause-ran g c =
    let stood = g.C.Commands.stands_for c.args.commands.now in
    let stands = g.C.Commands.stands_for c.log_line.new.commands in
    let old = g.D.Desk.outside c.args.desk.now in
    let mid = g.D.Desk.outside c.log_line.new.desk in
    let answer = answer_of (g.C.Commands.words c.log_line.new.commands) c.log_line.new.reply in
    line_ran stood stands [] c.args.progress.now c.log_line.new.progress c.args.bytes.now old mid mid
    (subst (λ has_call. LineLogged stood stands (if has_call then answer ∷ [] else []) c.args.progress.now
    c.log_line.new.progress c.args.bytes.now old mid) c.in-Ok-false.field-0-test c.in-Ok-false.ensures.logged)
    c.log_line.ensures.quiet.printed refl (appended_empty mid.printed)
