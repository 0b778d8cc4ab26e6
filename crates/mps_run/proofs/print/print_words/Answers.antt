use Rattle.std.proofs.Common.{ℕ, ◌≡◌, ◌<◌, None, Some, slice_get, take, drop, OnOk, OnErr, arith, sym, subst, ◌∙◌}
use Rattle.mps_model.specs.Answer.{Dumped}
use Rattle.mps_model.specs.Text.{line_of_answer}
use Rattle.mps_report.specs.Streams.{Prints, PrintsPart}
use Rattle.mps_run.proofs.Records.{ok_then, error_then}
use Rattle.mps_run.proofs.SomeWords.{part_of_some_words, prints_some_words, part_of_no_words}
use Rattle.mps_run.proofs.print.print_words.Goals as goal

pub returns-in_default-clause-failed : goal.returns-in_default-clause-failed
returns-in_default-clause-failed g c =
    let words = g.C.Commands.words c.args.commands.now in
    let before = g.D.Desk.outside c.args.desk.now in
    let after = g.D.Desk.outside c.print_all-in_default.new.desk in
    let none : slice_get words c.word-from.result ≡ None = sym c.word.ensures ∙ c.in_default.is in
    subst (λ (from : ℕ). OnErr c.print_all-in_default.result (PrintsPart before after
    (line_of_answer (Dumped (take c.args.count (drop from words)))))) c.word-from.ensures
    (error_then c.print_all-in_default.result c.print_all-in_default.ensures.failed
    (part_of_no_words words c.word-from.result c.args.count before after none))

pub returns-clause-printed : goal.returns-clause-printed
returns-clause-printed g c =
    let words = g.C.Commands.words c.args.commands.now in
    let before = g.D.Desk.outside c.args.desk.now in
    let after = g.D.Desk.outside c.print_first_and_more.new.desk in
    let some : 0 < c.args.count = omega (arith, c.if-count-eq0.false) in
    let first : slice_get words c.word-from.result ≡ Some c.in-Some.first = sym c.word.ensures ∙ c.in-Some.is in
    subst (λ (from : ℕ). OnOk c.print_first_and_more.result (Prints before after
    (line_of_answer (Dumped (take c.args.count (drop from words)))))) c.word-from.ensures
    (ok_then c.print_first_and_more.result c.print_first_and_more.ensures.printed
    (prints_some_words words c.word-from.result c.args.count c.in-Some.first before after some first))

pub returns-clause-failed : goal.returns-clause-failed
returns-clause-failed g c =
    let words = g.C.Commands.words c.args.commands.now in
    let before = g.D.Desk.outside c.args.desk.now in
    let after = g.D.Desk.outside c.print_first_and_more.new.desk in
    let some : 0 < c.args.count = omega (arith, c.if-count-eq0.false) in
    let first : slice_get words c.word-from.result ≡ Some c.in-Some.first = sym c.word.ensures ∙ c.in-Some.is in
    subst (λ (from : ℕ). OnErr c.print_first_and_more.result (PrintsPart before after
    (line_of_answer (Dumped (take c.args.count (drop from words)))))) c.word-from.ensures
    (error_then c.print_first_and_more.result c.print_first_and_more.ensures.failed
    (part_of_some_words words c.word-from.result c.args.count c.in-Some.first before after some first))
