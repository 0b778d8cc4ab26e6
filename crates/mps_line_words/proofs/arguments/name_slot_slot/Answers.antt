use Rattle.std.proofs.Common.{Some, ◌∙◌, None, ap}
use Rattle.mps_line_words.specs.Name.{name_of, slot_of}
use Rattle.mps_line_words.specs.Reading.{pair}
use Rattle.mps_line_words.specs.Word.{words}
use Rattle.mps_line_words.proofs.Headed.{onto_some}
use Rattle.mps_line_words.proofs.arguments.name_slot_slot.Goals as goal

pub returns-in_err-others : goal.returns-in_err-others
returns-in_err-others c =
    c.from_residual-in_err-others.ensures
    ∙ onto_some name_of (pair slot_of slot_of) (words c.args.arguments.now) _ _
    c.in_ok-word.ensures.found None c.in_err-others.ensures

pub returns : goal.returns
returns c =
    ap (λ name. Some (name, c.in_ok-others.others)) c.new.ensures
    ∙ onto_some name_of (pair slot_of slot_of) (words c.args.arguments.now) _ _
    c.in_ok-word.ensures.found (Some c.in_ok-others.others) c.in_ok-others.ensures
