-- What a prefix of some bytes is read as: a record, nothing, or a fault, the first in the stated order.
use Rattle.std.specs.Prelude.{◌≡◌, ℕ, zero, suc, ◌+◌, ◌*◌, Bool, true, false, nat_lt, ◌==◌, not, if◌then◌else◌, Option, Some, None, Result, Ok, Err, List, [], ◌∷◌, ◌++◌, length, take, drop, refl}
use Rattle.byteorder.specs.Endian.{little_number}
use Rattle.mps_base.specs.Record.{Record, record_bytes}
use Rattle.mps_event.specs.declared.version.Version.{Version}
use Rattle.mps_event.specs.declared.version.Version.TheVariants.{One, Two}
use Rattle.mps_event.specs.declared.event.Event.{Event}
use Rattle.mps_event.specs.declared.fault.LogFault.{LogFault}
use Rattle.mps_event.specs.declared.fault.LogFault.TheVariants.{UnknownCode, BadCount, Cut, BadString}
use Rattle.mps_event.specs.Event.{event_of, field_count_of}
use Rattle.mps_event.specs.Grammar.{interns_a_name}

-- the first `count` numbers of 8 bytes
abbrev pub fields_in : (count : ℕ) → List ℕ → List ℕ
fields_in zero bytes = []
fields_in (suc count) bytes = little_number 8 bytes ∷ fields_in count (drop 8 bytes)

-- the record that whole bytes of one represent
abbrev pub record_in : List ℕ → Record
record_in bytes =
    record {
      line = little_number 4 (drop 4 bytes);
      code = little_number 2 bytes;
      fields =
          fields_in (little_number 2 (drop 2 bytes)) (drop 8 bytes);
    }

-- how many bytes a record of n fields has
abbrev pub size_of_record : (count : ℕ) → ℕ
size_of_record count = 8 + 8 * count

-- there is not enough: a fault if the bytes have ended, and else nothing yet
abbrev pub too_few : (ended : Bool) → Result (Option Record) LogFault
too_few true = Err Cut
too_few false = Ok None

-- the record of whole bytes, whose name, if it interns one, is tried last
abbrev pub whole_of : Event → Record → Result (Option Record) LogFault
whole_of event r = if interns_a_name event r.fields then Ok (Some r) else Err BadString

-- the event is known: the number of fields is tried, and then whether they are there
abbrev pub known_of : Event → (ended : Bool) → List ℕ → Result (Option Record) LogFault
known_of event ended bytes =
    if not (little_number 2 (drop 2 bytes) == field_count_of event) then Err BadCount
    else (if nat_lt (length bytes) (size_of_record (field_count_of event)) then too_few ended else whole_of event (record_in bytes))

-- the code is tried first
abbrev pub coded_of : Option Event → (ended : Bool) → List ℕ → Result (Option Record) LogFault
coded_of None ended bytes = Err UnknownCode
coded_of (Some event) ended bytes = known_of event ended bytes

-- what `first` answers: nothing if the bytes are empty and ended, or have not ended and are too few
abbrev pub first_of : Version → (ended : Bool) → List ℕ → Result (Option Record) LogFault
first_of version ended [] = Ok None
first_of version ended (byte ∷ bytes) =
    if nat_lt (length (byte ∷ bytes)) 8 then too_few ended
    else coded_of (event_of version (little_number 2 (byte ∷ bytes))) ended (byte ∷ bytes)

-- `10 Free 0x1000`, and a byte more
abbrev example : List ℕ
example = record_bytes (record { line = 10; code = 85; fields = 0x1000 ∷ [] }) ++ 7 ∷ []

pub the_record_is_read : first_of One true example ≡ Ok (Some (record { line = 10; code = 85; fields = 0x1000 ∷ [] }))
the_record_is_read = refl

pub a_rest_of_one_byte_is_cut : first_of One true (drop 16 example) ≡ Err Cut
a_rest_of_one_byte_is_cut = refl

pub more_may_come : first_of One false (drop 16 example) ≡ Ok None
more_may_come = refl

pub an_unknown_code_comes_before_a_wrong_count : first_of One true (17 ∷ 0 ∷ 9 ∷ 0 ∷ 1 ∷ 0 ∷ 0 ∷ 0 ∷ []) ≡ Err UnknownCode
an_unknown_code_comes_before_a_wrong_count = refl

pub a_wrong_count_comes_before_the_end : first_of One true (85 ∷ 0 ∷ 2 ∷ 0 ∷ 1 ∷ 0 ∷ 0 ∷ 0 ∷ []) ≡ Err BadCount
a_wrong_count_comes_before_the_end = refl

pub fields_that_are_missing : first_of One true (85 ∷ 0 ∷ 1 ∷ 0 ∷ 1 ∷ 0 ∷ 0 ∷ 0 ∷ []) ≡ Err Cut
fields_that_are_missing = refl

pub missing_fields_may_come : first_of One false (85 ∷ 0 ∷ 1 ∷ 0 ∷ 1 ∷ 0 ∷ 0 ∷ 0 ∷ []) ≡ Ok None
missing_fields_may_come = refl

pub nothing_is_left_at_the_end : first_of One true [] ≡ Ok None
nothing_is_left_at_the_end = refl

pub nothing_has_come_yet : first_of One false [] ≡ Ok None
nothing_has_come_yet = refl

pub no_label_in_version_one :
    first_of One true (record_bytes (record { line = 10; code = 97; fields = 0x1000 ∷ 0 ∷ [] })) ≡ Err UnknownCode
no_label_in_version_one = refl

pub a_string_that_is_no_name :
    first_of Two true (record_bytes (record { line = 9; code = 96; fields = 0 ∷ 0x20 ∷ 0 ∷ [] })) ≡ Err BadString
a_string_that_is_no_name = refl

pub the_cut_comes_before_a_bad_string :
    first_of Two true (take 31 (record_bytes (record { line = 9; code = 96; fields = 0 ∷ 0x20 ∷ 0 ∷ [] }))) ≡ Err Cut
the_cut_comes_before_a_bad_string = refl

pub an_interned_name_is_read :
    first_of Two true (record_bytes (record { line = 9; code = 96; fields = 0 ∷ 0x676e6972 ∷ 0 ∷ [] }))
    ≡ Ok (Some (record { line = 9; code = 96; fields = 0 ∷ 0x676e6972 ∷ 0 ∷ [] }))
an_interned_name_is_read = refl

pub a_label_is_read :
    first_of Two true (record_bytes (record { line = 10; code = 97; fields = 0x1000 ∷ 0 ∷ [] }))
    ≡ Ok (Some (record { line = 10; code = 97; fields = 0x1000 ∷ 0 ∷ [] }))
a_label_is_read = refl
