use Rattle.std.proofs.lemmas.Result.{err_from_is_err_and}
use Rattle.mps_txt.specs.declared.labels.LabelFault.TheVariants as LabelFault
use Rattle.mps_txt.proofs.PutLine.{puts_line, is_refused, same_fault}
use Rattle.mps_txt.proofs.text_reader.put_line.Goals as goal

pub returns-in_err-apply-clause-bad : goal.returns-in_err-apply-clause-bad
returns-in_err-apply-clause-bad c = λ e.
    let p = err_from_is_err_and c.from_residual.result c.from_residual.ensures.1 in
    let read = c.in-Some.ensures in
    is_refused c.args.version c.args.line.now c.in-Some.entry (record { spells = read.sound; known = read.event; size = read.size })
    c.args.labels.now
    (c.in_err-apply.ensures.refused (same_fault c.from_residual.result p.0 c.in_err-apply.field-0.0 LabelFault.BadLine e p.1 p.2))

pub returns-clause-put : goal.returns-clause-put
returns-clause-put c =
    let read = c.in-Some.ensures in
    puts_line c.args.version c.args.line.now c.in-Some.entry (record { spells = read.sound; known = read.event; size = read.size })
    c.args.labels.now c.apply.new.self c.label_before-before.result c.args.output.now c.put_readable_line.new.output
    c.in_ok-apply.ensures.state c.label_before-before.ensures c.put_readable_line.ensures
