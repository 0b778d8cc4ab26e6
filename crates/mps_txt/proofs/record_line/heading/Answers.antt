use Rattle.std.proofs.Common.{◌<◌, ◌^◌, option_copied}
use Rattle.mps_txt.proofs.NumberTexts.{if_none}
use Rattle.mps_txt.proofs.RecordWords.{not_ok, without_line, large_line, without_rest, without_code, large_code}
use Rattle.mps_txt.proofs.record_line.heading.Goals as goal

pub returns-in_err-line-clause-complete : goal.returns-in_err-line-clause-complete
returns-in_err-line-clause-complete c = if_none c.from_residual.result _ (without_line c.args.text.now c.in_err-line.ensures.complete)

pub returns-in_err-line-2-clause-complete : goal.returns-in_err-line-2-clause-complete
returns-in_err-line-2-clause-complete c =
    if_none c.from_residual-in_err-line-2.result _
    (large_line c.args.text.now c.in_ok-line.line (option_copied c.in_ok-line.rest) c.in_ok-line.ensures.sound c.in_ok-line.ensures.at_most
    (not_ok c.try_from.result (c.in_ok-line.line < 2 ^ 32) c.in_ok-line.line c.try_from.ensures c.in_err-line-2.ensures.variant))

pub returns-in_err-rest-clause-complete : goal.returns-in_err-rest-clause-complete
returns-in_err-rest-clause-complete c =
    if_none c.from_residual-in_err-rest.result _
    (without_rest c.args.text.now c.in_ok-line.line (rw c.in_err-rest.was at c.in_ok-line.ensures.sound) c.in_ok-line.ensures.at_most)

pub returns-in_err-code-clause-complete : goal.returns-in_err-code-clause-complete
returns-in_err-code-clause-complete c =
    if_none c.from_residual-in_err-code.result _
    (without_code c.args.text.now c.in_ok-rest.field-0.now c.in_ok-line.line
    (rw c.in_ok-rest.was at c.in_ok-line.ensures.sound) c.in_ok-line.ensures.at_most c.in_err-code.ensures.complete)

pub returns-in_err-code-2-clause-complete : goal.returns-in_err-code-2-clause-complete
returns-in_err-code-2-clause-complete c =
    if_none c.from_residual-in_err-code-2.result _
    (large_code c.args.text.now c.in_ok-rest.field-0.now c.in_ok-line.line c.in_ok-code.code (option_copied c.in_ok-code.rest)
    (rw c.in_ok-rest.was at c.in_ok-line.ensures.sound) c.in_ok-line.ensures.at_most
    c.in_ok-code.ensures.sound c.in_ok-code.ensures.at_most
    (not_ok c.try_from-2.result (c.in_ok-code.code < 2 ^ 16) c.in_ok-code.code c.try_from-2.ensures c.in_err-code-2.ensures.variant))
