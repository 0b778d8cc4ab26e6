use Rattle.std.proofs.Common.{◌∙◌, true, false}
use Rattle.mps_line_words.specs.Number.{number_of}
use Rattle.mps_line_words.specs.Word.{words}
use Rattle.mps_line_words.proofs.Headed.{single_none, single_some}
use Rattle.mps_line_words.proofs.arguments.value.Goals as goal

pub returns-in_err-number : goal.returns-in_err-number
returns-in_err-number c =
    c.from_residual.ensures ∙ single_none number_of (words c.args.arguments.now) c.in_err-number.ensures

pub returns-then-is_blank : goal.returns-then-is_blank
returns-then-is_blank c = single_some number_of (words c.args.arguments.now) _ _ c.in_ok-number.ensures true c.if-is_blank.ensures

pub returns-else-is_blank : goal.returns-else-is_blank
returns-else-is_blank c = single_some number_of (words c.args.arguments.now) _ _ c.in_ok-number.ensures false c.if-is_blank.ensures
