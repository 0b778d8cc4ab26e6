use Rattle.std.proofs.Common.{take, drop}
use Rattle.mps_run.proofs.Records.{at_error, ok_then, error_then}
use Rattle.mps_run.proofs.Pieces.{part_of_word, part_of_more, part_of_line_feed, prints_dump}
use Rattle.mps_run.proofs.print.print_first_and_more.Goals as goal

pub returns-in_err-print_word-clause-failed : goal.returns-in_err-print_word-clause-failed
returns-in_err-print_word-clause-failed g c =
    let more = take c.args.count (drop c.args.from (g.C.Commands.words c.args.commands.now)) in
    at_error c.from_residual.result
    (part_of_word c.args.first more (g.D.Desk.outside c.args.desk.now) (g.D.Desk.outside c.print_word.new.desk)
    (g.D.Desk.outside c.print_word.new.desk) (g.D.Desk.outside c.print_word.new.desk) c.in_err-print_word.ensures.failed)

pub returns-in_err-print_more_words-clause-failed : goal.returns-in_err-print_more_words-clause-failed
returns-in_err-print_more_words-clause-failed g c =
    let more = take c.args.count (drop c.args.from (g.C.Commands.words c.args.commands.now)) in
    at_error c.from_residual-in_err-print_more_words.result
    (part_of_more c.args.first more (g.D.Desk.outside c.args.desk.now) (g.D.Desk.outside c.print_word.new.desk)
    (g.D.Desk.outside c.print_more_words.new.desk) (g.D.Desk.outside c.print_more_words.new.desk)
    c.in_ok-print_word.ensures.printed c.in_err-print_more_words.ensures.failed)

pub returns-clause-printed : goal.returns-clause-printed
returns-clause-printed g c =
    let more = take c.args.count (drop c.args.from (g.C.Commands.words c.args.commands.now)) in
    ok_then c.print_all.result c.print_all.ensures.printed
    (prints_dump c.args.first more (g.D.Desk.outside c.args.desk.now) (g.D.Desk.outside c.print_word.new.desk)
    (g.D.Desk.outside c.print_more_words.new.desk) (g.D.Desk.outside c.print_all.new.desk)
    c.in_ok-print_word.ensures.printed c.in_ok-print_more_words.ensures.printed)

pub returns-clause-failed : goal.returns-clause-failed
returns-clause-failed g c =
    let more = take c.args.count (drop c.args.from (g.C.Commands.words c.args.commands.now)) in
    error_then c.print_all.result c.print_all.ensures.failed
    (part_of_line_feed c.args.first more (g.D.Desk.outside c.args.desk.now) (g.D.Desk.outside c.print_word.new.desk)
    (g.D.Desk.outside c.print_more_words.new.desk) (g.D.Desk.outside c.print_all.new.desk)
    c.in_ok-print_word.ensures.printed c.in_ok-print_more_words.ensures.printed)
