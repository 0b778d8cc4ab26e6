use Rattle.mps_model.specs.Answer.{answer_of}
use Rattle.mps_model.specs.Text.{line_of_answer}
use Rattle.mps_report.proofs.Logging.{takes_then, takes_nothing}
use Rattle.mps_generated.proofs.Printing.{first_cut, second_cut, both_printed}
use Rattle.mps_generated.proofs.all_lines.print_both.Goals as goal

pub returns-in-Err-clause-does : goal.returns-in-Err-clause-does
returns-in-Err-clause-does g c =
    let words = g.C.Commands.words c.args.commands.now in
    first_cut (line_of_answer (answer_of words c.args.first.now)) (line_of_answer (answer_of words c.args.second.now)) c.in-Err.stop
    (g.D.Desk.outside c.args.desk.now) (g.D.Desk.outside c.print_answer.new.desk) c.in-Err.ensures.does.0 c.in-Err.ensures.does.1

pub returns-in-Err-print_answer-clause-does : goal.returns-in-Err-print_answer-clause-does
returns-in-Err-print_answer-clause-does g c =
    let words = g.C.Commands.words c.args.commands.now in
    second_cut (line_of_answer (answer_of words c.args.first.now)) (line_of_answer (answer_of words c.args.second.now))
    c.in-Err-print_answer.stop (g.D.Desk.outside c.args.desk.now) (g.D.Desk.outside c.print_answer.new.desk)
    (g.D.Desk.outside c.print_answer-2.new.desk) c.in-Ok.ensures.does.0 c.in-Ok.ensures.does.1
    c.in-Err-print_answer.ensures.does.0 c.in-Err-print_answer.ensures.does.1

pub returns-in-Err-print_answer-clause-takes : goal.returns-in-Err-print_answer-clause-takes
returns-in-Err-print_answer-clause-takes g c =
    takes_then (g.D.Desk.outside c.args.desk.now) (g.D.Desk.outside c.print_answer.new.desk)
    (g.D.Desk.outside c.print_answer-2.new.desk) c.print_answer.ensures.takes c.print_answer-2.ensures.takes

pub returns-clause-does : goal.returns-clause-does
returns-clause-does g c =
    let words = g.C.Commands.words c.args.commands.now in
    both_printed (line_of_answer (answer_of words c.args.first.now)) (line_of_answer (answer_of words c.args.second.now))
    (g.D.Desk.outside c.args.desk.now) (g.D.Desk.outside c.print_answer.new.desk) (g.D.Desk.outside c.print_answer-2.new.desk)
    (g.D.Desk.outside c.settle.new.desk) c.in-Ok.ensures.does.0 c.in-Ok.ensures.does.1 c.in-Ok-print_answer.ensures.does.0
    c.in-Ok-print_answer.ensures.does.1 c.settle.ensures.printed c.settle.ensures.logged c.settle.result c.settle.ensures.failed

pub returns-clause-takes : goal.returns-clause-takes
returns-clause-takes g c =
    let old = g.D.Desk.outside c.args.desk.now in
    let late = g.D.Desk.outside c.print_answer-2.new.desk in
    let new = g.D.Desk.outside c.settle.new.desk in
    takes_then old late new
    (takes_then old (g.D.Desk.outside c.print_answer.new.desk) late c.print_answer.ensures.takes c.print_answer-2.ensures.takes)
    (takes_nothing late new c.settle.ensures.logged c.settle.ensures.files c.settle.ensures.asked)
