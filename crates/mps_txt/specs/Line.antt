-- A line of a portable text, and the record that it spells.
use Rattle.std.specs.Prelude.{◌≡◌, ℕ, Bool, true, false, codes, decimal, List, [], ◌∷◌, ◌++◌, take, refl}
use Rattle.std.specs.Fmt.{digits}
use Rattle.std.specs.Str.{bytes_eq}
use Rattle.std.specs.List.{flat_map}
use Rattle.mps_base.specs.Record.{Record}
use Rattle.mps_event.specs.declared.version.Version.{Version}
use Rattle.mps_event.specs.Event.{code_of, field_count_of}
use Rattle.mps_event.specs.Grammar.{IsRecord}
use Rattle.mps_txt.specs.declared.record_line.RecordLine.{RecordLine}
use Rattle.mps_log_reader.specs.RecordLine.{record_line, field_text}

-- the line of a record, without its line feed
abbrev pub record_text : Record → List ℕ
record_text r = decimal r.line ++ codes " " ++ decimal r.code ++ flat_map field_text r.fields

-- a line, without its line feed, is the one of this record, which a text of this version may hold
pub record Spells (version : Version) (line : List ℕ) (r : Record) : Type 0 where
  pub grammar : IsRecord version r
  pub text : line ≡ record_text r

-- the record of a line that was read: the code of its event, and as many fields as the event has
abbrev pub record_of : RecordLine → Record
record_of entry =
    record { line = entry.line; code = code_of entry.event; fields = take (field_count_of entry.event) entry.fields }

pub a_line_feed_after : (r : Record) → record_line r ≡ record_text r ++ codes "\n"
a_line_feed_after r = refl

-- the most bytes of a line, without its line feed
abbrev pub max_line_bytes : ℕ
max_line_bytes = 4096

-- whether a line is the one of a move in line 10 from 0xaf0 to 0x2000
abbrev is_the_move : List ℕ → Bool
is_the_move line = bytes_eq line (record_text (record { line = 10; code = 82; fields = 0xaf0 ∷ 0x2000 ∷ [] }))

pub the_move : is_the_move (codes "10 82 af0 2000") ≡ true
unfolding digits
the_move = refl

pub a_zero_in_front : is_the_move (codes "010 82 af0 2000") ≡ false
unfolding digits
a_zero_in_front = refl

pub a_zero_in_front_of_a_field : is_the_move (codes "10 82 0af0 2000") ≡ false
unfolding digits
a_zero_in_front_of_a_field = refl

pub a_capital : is_the_move (codes "10 82 aF0 2000") ≡ false
unfolding digits
a_capital = refl

pub a_prefix : is_the_move (codes "10 82 0xaf0 0x2000") ≡ false
unfolding digits
a_prefix = refl

pub two_spaces : is_the_move (codes "10  82 af0 2000") ≡ false
unfolding digits
two_spaces = refl

pub a_space_in_front : is_the_move (codes " 10 82 af0 2000") ≡ false
unfolding digits
a_space_in_front = refl

pub a_space_after : is_the_move (codes "10 82 af0 2000 ") ≡ false
unfolding digits
a_space_after = refl

pub a_field_too_few : is_the_move (codes "10 82 af0") ≡ false
unfolding digits
a_field_too_few = refl

pub a_field_too_many : is_the_move (codes "10 82 af0 2000 0") ≡ false
unfolding digits
a_field_too_many = refl

pub zero_has_a_digit : record_text (record { line = 0; code = 64; fields = 0 ∷ 0 ∷ [] }) ≡ codes "0 64 0 0"
unfolding digits
zero_has_a_digit = refl

pub an_end_has_no_fields : record_text (record { line = 7; code = 33; fields = [] }) ≡ codes "7 33"
unfolding digits
an_end_has_no_fields = refl

pub the_largest_numbers :
    record_text (record { line = 4294967295; code = 85; fields = 0xffffffffffffffff ∷ [] }) ≡ codes "4294967295 85 ffffffffffffffff"
unfolding digits
the_largest_numbers = refl
