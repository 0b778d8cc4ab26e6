use Rattle.std.proofs.Common.{Some, ◌∙◌, None, ap}
use Rattle.mps_numerals.specs.Decimal.{decimal_number}
use Rattle.mps_line_words.specs.Name.{slot_of}
use Rattle.mps_line_words.specs.Reading.{pair}
use Rattle.mps_line_words.specs.Word.{words}
use Rattle.mps_line_words.proofs.Headed.{onto_some}
use Rattle.mps_grammar.specs.Form.{tag_number}
use Rattle.mps_parser_l_to_z.proofs.tags.slot_decimal_tag.Goals as goal

pub returns-in_err-others : goal.returns-in_err-others
returns-in_err-others c =
    c.from_residual-in_err-others.ensures
    ∙ onto_some slot_of (pair decimal_number tag_number) (words c.args.arguments.now) _ _
    c.in_ok-name.ensures.found None c.in_err-others.ensures

pub returns : goal.returns
returns c =
    ap (λ slot. Some (slot, c.in_ok-others.others)) c.new.ensures
    ∙ onto_some slot_of (pair decimal_number tag_number) (words c.args.arguments.now) _ _
    c.in_ok-name.ensures.found (Some c.in_ok-others.others) c.in_ok-others.ensures
