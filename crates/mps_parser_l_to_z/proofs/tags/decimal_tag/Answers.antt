use Rattle.std.proofs.Common.{◌∙◌, None}
use Rattle.mps_numerals.specs.Decimal.{decimal_number}
use Rattle.mps_line_words.specs.Reading.{single}
use Rattle.mps_line_words.specs.Word.{words}
use Rattle.mps_line_words.proofs.Headed.{onto_some}
use Rattle.mps_grammar.specs.Form.{tag_number}
use Rattle.mps_parser_l_to_z.proofs.tags.decimal_tag.Goals as goal

pub returns-in_err-others : goal.returns-in_err-others
returns-in_err-others c =
    c.from_residual-in_err-others.ensures
    ∙ onto_some decimal_number (single tag_number) (words c.args.arguments.now) _ _ c.in_ok-number.ensures None c.in_err-others.ensures
