use Rattle.std.proofs.Common.{◌≡◌, ◌<◌, ◌^◌, ◌∙◌, take, length, sym, option_copied, arith}
use Rattle.std.proofs.lemmas.List.{length-take}
use Rattle.std.proofs.lemmas.List.Elements.{All-take}
use Rattle.mps_event.specs.Event.{field_count_of}
use Rattle.mps_event.proofs.Records.{count-le}
use Rattle.mps_txt.proofs.NumberTexts.{if_none}
use Rattle.mps_txt.proofs.RecordWords.{no_record_without_heading, no_record_without_event, no_record_without_fields, no_record_without_name, spells_record, known_by_code}
use Rattle.mps_txt.proofs.record_line.record_of_line.Goals as goal

pub returns-in_err-line-clause-complete : goal.returns-in_err-line-clause-complete
returns-in_err-line-clause-complete c =
    if_none c.from_residual.result _ (λ r spells.
    no_record_without_heading c.args.version c.args.text.now r c.in_err-line.ensures.complete spells)

pub returns-in_err-event-clause-complete : goal.returns-in_err-event-clause-complete
returns-in_err-event-clause-complete c =
    let head = c.in_ok-line.ensures in
    if_none c.from_residual-in_err-event.result _
    (no_record_without_event c.args.version c.args.text.now c.in_ok-line.line c.in_ok-line.code (option_copied c.in_ok-line.rest)
    (record { spelled = head.sound; line_fits = head.line_at_most; code_fits = head.code_at_most }) (sym c.in_err-event.ensures))

pub returns-in_err-fields-clause-complete : goal.returns-in_err-fields-clause-complete
returns-in_err-fields-clause-complete c =
    let head = c.in_ok-line.ensures in
    let none = rw c.field_count.ensures at c.in_err-fields.ensures.complete in
    if_none c.from_residual-in_err-fields.result _
    (no_record_without_fields c.args.version c.args.text.now c.in_ok-line.line c.in_ok-line.code (option_copied c.in_ok-line.rest)
    (record { spelled = head.sound; line_fits = head.line_at_most; code_fits = head.code_at_most }) c.in_ok-event.event
    (sym c.in_ok-event.ensures) none)

pub returns-then-interns_a_name-clause-sound : goal.returns-then-interns_a_name-clause-sound
returns-then-interns_a_name-clause-sound c =
    let head = c.in_ok-line.ensures in
    let count = field_count_of c.in_ok-event.event in
    let fields = c.in_ok-fields.fields in
    let found = rw c.field_count.ensures at c.in_ok-fields.ensures.sound in
    let size : length (take count fields) ≡ count =
    omega (arith, length-take count fields, c.in_ok-fields.ensures.size, count-le c.in_ok-event.event) in
    spells_record c.args.version c.args.text.now c.in_ok-line.line c.in_ok-line.code (option_copied c.in_ok-line.rest)
    (record { spelled = head.sound; line_fits = head.line_at_most; code_fits = head.code_at_most }) c.in_ok-event.event
    (sym c.in_ok-event.ensures) (take count fields) found
    (All-take (λ field. field < 2 ^ 64) count fields c.in_ok-fields.ensures.at_most) size
    (sym c.interns_a_name.ensures ∙ c.if-interns_a_name.true)

pub returns-then-interns_a_name-clause-event : goal.returns-then-interns_a_name-clause-event
returns-then-interns_a_name-clause-event c =
    known_by_code c.args.version c.in_ok-line.code c.in_ok-event.event (sym c.in_ok-event.ensures)

pub returns-then-interns_a_name-clause-size : goal.returns-then-interns_a_name-clause-size
returns-then-interns_a_name-clause-size c = c.in_ok-fields.ensures.size

pub returns-else-interns_a_name-clause-complete : goal.returns-else-interns_a_name-clause-complete
returns-else-interns_a_name-clause-complete c =
    let head = c.in_ok-line.ensures in
    let count = field_count_of c.in_ok-event.event in
    let fields = c.in_ok-fields.fields in
    let found = rw c.field_count.ensures at c.in_ok-fields.ensures.sound in
    no_record_without_name c.args.version c.args.text.now c.in_ok-line.line c.in_ok-line.code (option_copied c.in_ok-line.rest)
    (record { spelled = head.sound; line_fits = head.line_at_most; code_fits = head.code_at_most }) c.in_ok-event.event
    (sym c.in_ok-event.ensures) (take count fields) found
    (All-take (λ field. field < 2 ^ 64) count fields c.in_ok-fields.ensures.at_most)
    (sym c.interns_a_name.ensures ∙ c.if-interns_a_name.false)
