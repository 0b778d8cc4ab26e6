use Rattle.std.proofs.Common.{◌∙◌, ap}
use Rattle.mps_event.specs.Name.{is_padded_name}
use Rattle.mps_txt.proofs.RecordWords.{name_tested}
use Rattle.mps_txt.proofs.record_line.interns_a_name.Goals as goal

pub returns-in-Intern : goal.returns-in-Intern
returns-in-Intern c =
    name_tested c.args.event c.args.fields.now c.is_padded_name.result c.in-Intern.is c.told-fields (c.is_padded_name.ensures
    ∙ ap is_padded_name c.name_of.ensures)
