-- The grammar of a log: a header, and then the bytes of whole records, each of an event of the log's version.
use Rattle.std.specs.Prelude.{◌≡◌, ℕ, ◌<◌, ◌-◌, ◌^◌, Bool, true, false, IsTrue, MatchOption, List, [], ◌∷◌, ◌++◌, length, All, refl}
use Rattle.std.proofs.Common.{arith}
use Rattle.std.proofs.lemmas.List.Elements.{All-from_recursion}
use Rattle.mps_base.specs.Record.{Record, header_bytes, records_bytes}
use Rattle.mps_event.specs.declared.version.Version.{Version}
use Rattle.mps_event.specs.declared.version.Version.TheVariants.{One, Two}
use Rattle.mps_event.specs.declared.event.Event.{Event}
use Rattle.mps_event.specs.declared.event.Event.TheVariants.{Intern, Label}
use Rattle.mps_event.specs.Event.{number_of_version, event_of, field_count_of}
use Rattle.mps_event.specs.Name.{is_padded_name, interned_bytes}

-- what an event interns, if anything, is a name
abbrev pub interns_a_name : Event → List ℕ → Bool
interns_a_name Intern fields = is_padded_name (interned_bytes fields)
interns_a_name event fields = true

-- the version has an event of this code, and these may be its fields
abbrev pub AreFields : Version → (code : ℕ) → List ℕ → Type 0
AreFields version code fields =
    MatchOption (event_of version code) ⊥ (λ event. (length fields ≡ field_count_of event) × IsTrue (interns_a_name event fields))

-- a log of this version may hold this record
pub record IsRecord (version : Version) (r : Record) : Type 0 where
  pub fields : AreFields version r.code r.fields
  pub fields_fit : All (λ field. field < 2 ^ 64) r.fields
  pub line_fits : r.line < 2 ^ 32

-- the log of these records
abbrev pub log_bytes : Version → List Record → List ℕ
log_bytes version records = header_bytes (number_of_version version) ++ records_bytes records

-- `5 Move 0x1000 0x2000`, and `9 Intern 0 ring`
abbrev a_move : Record
a_move = record { line = 5; code = 82; fields = 0x1000 ∷ 0x2000 ∷ [] }

abbrev an_intern : Record
an_intern = record { line = 9; code = 96; fields = 0 ∷ 0x676e6972 ∷ 0 ∷ [] }

pub a_name_is_interned : interns_a_name Intern an_intern.fields ≡ true
a_name_is_interned = refl

pub a_blank_is_no_name : interns_a_name Intern (0 ∷ 0x20 ∷ 0 ∷ []) ≡ false
a_blank_is_no_name = refl

pub a_label_interns_nothing : interns_a_name Label (0x20 ∷ 0 ∷ []) ≡ true
a_label_interns_nothing = refl

pub two_fields_of_a_label : AreFields Two 97 (0x1000 ∷ 0 ∷ [])
two_fields_of_a_label = (refl, refl)

pub no_third_field_of_a_label : AreFields Two 97 (0x1000 ∷ 0 ∷ 0 ∷ []) → ⊥
no_third_field_of_a_label fields = absurd cc

pub no_fields_of_a_label_in_version_one : AreFields One 97 (0x1000 ∷ 0 ∷ []) → ⊥
no_fields_of_a_label_in_version_one fields = fields

pub a_record_of_version_one : IsRecord One a_move
a_record_of_version_one = record {
  fields = (refl, refl);
  fields_fit = All-from_recursion (λ field. field < 2 ^ 64) a_move.fields (omega arith, (omega arith, tt));
  line_fits = omega arith;
}

pub a_record_of_version_two : IsRecord Two an_intern
a_record_of_version_two = record {
  fields = (refl, refl);
  fields_fit = All-from_recursion (λ field. field < 2 ^ 64) an_intern.fields (omega arith, (omega arith, (omega arith, tt)));
  line_fits = omega arith;
}

pub the_greatest_line_and_field : IsRecord One (record { line = 2 ^ 32 - 1; code = 85; fields = (2 ^ 64 - 1) ∷ [] })
the_greatest_line_and_field = record {
  fields = (refl, refl);
  fields_fit = All-from_recursion (λ field. field < 2 ^ 64) ((2 ^ 64 - 1) ∷ []) (omega arith, tt);
  line_fits = omega arith;
}

pub no_intern_in_version_one : IsRecord One an_intern → ⊥
no_intern_in_version_one r = r.fields

pub no_move_of_one_field : IsRecord One (record { line = 5; code = 82; fields = 0x1000 ∷ [] }) → ⊥
no_move_of_one_field r = let fields = r.fields in absurd cc

pub no_intern_of_a_blank : IsRecord Two (record { line = 9; code = 96; fields = 0 ∷ 0x20 ∷ 0 ∷ [] }) → ⊥
no_intern_of_a_blank r = let named = r.fields.1 in absurd cc

pub no_greater_line : IsRecord One (record { line = 2 ^ 32; code = 85; fields = 0x1000 ∷ [] }) → ⊥
no_greater_line r = omega arith

pub no_greater_field : IsRecord One (record { line = 5; code = 85; fields = (2 ^ 64) ∷ [] }) → ⊥
no_greater_field r = let fits : 2 ^ 64 < 2 ^ 64 = r.fields_fit 0 0 (omega arith) in omega arith

-- `3 End` in a log of its own
pub a_log_of_one_record :
    log_bytes Two (record { line = 3; code = 33; fields = [] } ∷ [])
    ≡ 77 ∷ 80 ∷ 83 ∷ 76 ∷ 79 ∷ 71 ∷ 2 ∷ 0 ∷ 33 ∷ 0 ∷ 0 ∷ 0 ∷ 3 ∷ 0 ∷ 0 ∷ 0 ∷ []
a_log_of_one_record = refl

pub an_empty_log : log_bytes One [] ≡ 77 ∷ 80 ∷ 83 ∷ 76 ∷ 79 ∷ 71 ∷ 1 ∷ 0 ∷ []
an_empty_log = refl
