-- What a line that was read does, and how it is put out.
use Rattle.std.proofs.Common.{◌≡◌, ℕ, List, [], ◌++◌, length, take, decimal, Option, Some, None, Result, Err, sym, ap, ◌∙◌}
use Rattle.std.specs.Prelude.{codes, option_and_then, slice_index}
use Rattle.std.specs.Option.{option_map, option_map_or}
use Rattle.mps_base.specs.Record.{Record}
use Rattle.mps_event.specs.declared.version.Version.{Version}
use Rattle.mps_event.specs.declared.event.Event.{Event}
use Rattle.mps_event.specs.Event.{event_of, code_of, field_count_of}
use Rattle.mps_event.specs.Name.{name_in}
use Rattle.mps_txt.specs.declared.labels.LabelFault.{LabelFault}
use Rattle.mps_txt.specs.declared.record_line.RecordLine.{RecordLine}
use Rattle.mps_txt.specs.Labels.{Naming, after_event, after_record, label_at}
use Rattle.mps_txt.specs.Readable.{event_text, readable_line}
use Rattle.mps_txt.specs.Line.{Spells, record_of}
use Rattle.mps_txt.specs.PendingLine.{PutsLine}
use Rattle.mps_txt.proofs.EventFields.{after_event-take, event_text-take}
use Rattle.mps_txt.proofs.Spelling.{one_text}

-- a line was read as this entry
pub record IsReadAs (version : Version) (line : List ℕ) (entry : RecordLine) : Type 0 where
  pub spells : Spells version line (record_of entry)
  pub known : event_of version (code_of entry.event) ≡ Some entry.event
  pub size : length entry.fields ≡ 4

module _ (version : Version) (line : List ℕ) (entry : RecordLine) (is : IsReadAs version line entry) (before : Naming) where
  -- its record does what its event does
  after_entry : after_record version before (record_of entry) ≡ after_event entry.event entry.fields before
  after_entry =
      ap (λ (o : Option Event). option_and_then (λ event. after_event event (take (field_count_of entry.event) entry.fields) before) o)
      is.known
      ∙ after_event-take entry.event entry.fields before is.size

  line_of_entry : (after : Naming)
      → readable_line version before after (record_of entry) ≡ decimal entry.line ++ event_text before after entry.event entry.fields
      ++ codes "\n"
  line_of_entry after =
      ap (λ (o : Option Event). decimal entry.line
      ++ option_map_or (λ event. event_text before after event (take (field_count_of entry.event) entry.fields)) o []
      ++ codes "\n") is.known
      ∙ ap (λ (text : List ℕ). decimal entry.line ++ text ++ codes "\n") (event_text-take before after entry.event entry.fields is.size)

  pub puts_line : (after : Naming) (label : Option (List ℕ)) (old new : List ℕ) → after_event entry.event entry.fields before ≡ Some after
      → option_map name_in label ≡ label_at before (slice_index entry.fields 0)
      → ((s : Naming) → label_at s (slice_index entry.fields 0) ≡ option_map name_in label
      → new ≡ old ++ (decimal entry.line ++ event_text s after entry.event entry.fields ++ codes "\n"))
      → PutsLine version line before after old new
  puts_line after label old new taken labelled put = record {
    read = record_of entry;
    spells = is.spells;
    taken = after_entry ∙ taken;
    put = put before (sym labelled) ∙ ap (λ (text : List ℕ). old ++ text) (sym (line_of_entry after));
  }

  pub is_refused : after_event entry.event entry.fields before ≡ None → (r : Record) → Spells version line r
      → after_record version before r ≡ None
  is_refused none r other =
      ap (after_record version before) (one_text version line r (record_of entry) other is.spells) ∙ after_entry ∙ none

-- the fault that is passed on
abbrev pub failed : LabelFault → Result (Unit {0}) LabelFault
failed fault = Err fault

pub same_fault : (answer : Result (Unit {0}) LabelFault) (x y z : LabelFault) → answer ≡ failed z → answer ≡ failed x
    → x ≡ y → failed y ≡ failed z
same_fault answer x y z is passed same = ap failed (sym same) ∙ sym passed ∙ is
