use Rattle.std.proofs.Common.{ap, codes}
use Rattle.mps_event.specs.Name.{name_in, interned_bytes}
use Rattle.mps_txt.proofs.AppendedTexts.{name_appended}
use Rattle.mps_txt.proofs.readable_line.put_intern.Goals as goal

pub returns-clause-text : goal.returns-clause-text
returns-clause-text c = λ before after.
    name_appended c.args.output.now _ (codes " name=") (name_in c.name_of.result) (name_in (interned_bytes c.args.fields.now)) _ _ _
    c.put_decimal.ensures.text c.text.ensures c.put_name.ensures.text (ap name_in c.name_of.ensures)
