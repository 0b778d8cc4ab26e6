use Rattle.std.proofs.Common.{sym, ◌∙◌}
use Rattle.mps_run.proofs.Records.{at_error}
use Rattle.mps_run.proofs.SomeWords.{prints_one_more, part_of_these}
use Rattle.mps_run.proofs.print.print_more_words.Goals as goal

pub returns-in_err-print_word-clause-failed : goal.returns-in_err-print_word-clause-failed
returns-in_err-print_word-clause-failed g c =
    at_error c.from_residual.result
    (part_of_these (g.C.Commands.words c.args.commands.now) c.args.from c.args.count c.loop-k.k c.in-Some.word
    (g.D.Desk.outside c.args.desk.now) (g.D.Desk.outside c.loop-k.desk) (g.D.Desk.outside c.print_word.new.desk) c.loop-k-test.true
    (sym c.word.ensures ∙ c.in-Some.is) c.loop-k.invariant c.in_err-print_word.ensures.failed)

pub loop-k-preserved : goal.loop-k-preserved
loop-k-preserved g c =
    prints_one_more (g.C.Commands.words c.args.commands.now) c.args.from c.args.count c.loop-k.k c.in-Some.word
    (g.D.Desk.outside c.args.desk.now) (g.D.Desk.outside c.loop-k.desk) (g.D.Desk.outside c.print_word.new.desk) c.loop-k-test.true
    (sym c.word.ensures ∙ c.in-Some.is) c.loop-k.invariant c.in_ok-print_word.ensures.printed
