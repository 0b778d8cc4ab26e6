-- Names and slots as words.
use Rattle.std.specs.Prelude.{ℕ, ◌≡◌, if◌then◌else◌, codes, Option, Some, None, option_and_then, List, [], ◌∷◌, ◌++◌, not, length, drop, replicate, refl}
use Rattle.std.specs.List.{position_or_len}
use Rattle.mps_base.specs.Name.{is_name, is_name_byte, max_name_bytes}
use Rattle.mps_base.specs.declared.names.Name.{Name}
use Rattle.mps_base.specs.declared.names.Slot.{Slot}
use Rattle.mps_line_words.specs.Word.{cut_at}
use Rattle.mps_numerals.specs.Decimal.{decimal_number}

-- what stands after the bytes at the beginning of a text that may stand in a name
abbrev pub after_name : List ℕ → List ℕ
after_name text = drop (position_or_len (λ b. not (is_name_byte b)) text) text

-- the name of these bytes
abbrev pub name_from : List ℕ → Name
name_from bytes = record { bytes = bytes ++ drop (length bytes) (replicate max_name_bytes 0) }

-- the name that a word writes
abbrev pub name_of : List ℕ → Option Name
name_of word = if is_name word then Some (name_from word) else None

-- two words that write one name are the same word
abbrev pub NamesAreUnique : Type 0
NamesAreUnique = (these those : List ℕ) (name : Name) → name_of these ≡ Some name → name_of those ≡ Some name → these ≡ those

-- the slot of the bytes of its name and an index
abbrev pub slot_from : List ℕ → ℕ → Slot
slot_from name index = record { name = name_from name; index = index }

-- the slot that a word writes: a name, a dot and a decimal number
abbrev pub slot_of : List ℕ → Option Slot
slot_of word =
    option_and_then (λ p.
    option_and_then (λ n. option_and_then (λ i. Some (record { name = n; index = i })) (decimal_number p.1))
    (name_of p.0))
    (cut_at 46 word)

pub what_stands_after_a_name : after_name (codes "t_1.0 2") ≡ codes ".0 2"
what_stands_after_a_name = refl

pub a_name : name_of (codes "t_1") ≡ Some (record { bytes = codes "t_1" ++ replicate 13 0 })
a_name = refl

pub a_digit_is_not_first : name_of (codes "1t") ≡ None
a_digit_is_not_first = refl

pub a_zero_is_in_no_name : name_of (116 ∷ 0 ∷ []) ≡ None
a_zero_is_in_no_name = refl

pub a_slot_needs_its_number : slot_of (codes "t.") ≡ None
a_slot_needs_its_number = refl

pub a_slot_has_one_dot : slot_of (codes "t.1.2") ≡ None
a_slot_has_one_dot = refl

pub a_slot_needs_its_dot : slot_of (codes "t") ≡ None
a_slot_needs_its_dot = refl
