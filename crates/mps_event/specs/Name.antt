-- Names that a log interns, filled up with zeros to 16 bytes.
use Rattle.std.specs.Prelude.{◌≡◌, ℕ, Bool, true, false, ◌&&◌, ◌==◌, List, [], ◌∷◌, ◌++◌, length, take, drop, position, unwrap_or, codes, replicate, slice_index, refl}
use Rattle.std.specs.List.{list_all}
use Rattle.mps_base.specs.Name.{is_name}
use Rattle.mps_base.specs.Record.{number_bytes}

-- the bytes before the first zero
abbrev pub name_in : List ℕ → List ℕ
name_in bytes = take (unwrap_or (position (λ byte. byte == 0) bytes) (length bytes)) bytes

-- a name and then zeros
abbrev pub is_padded_name : List ℕ → Bool
is_padded_name bytes = is_name (name_in bytes) && list_all (λ byte. byte == 0) (drop (length (name_in bytes)) bytes)

-- the 16 bytes of an interned name: those of the fields `low` and `high`
abbrev pub interned_bytes : (fields : List ℕ) → List ℕ
interned_bytes fields = number_bytes 8 (slice_index fields 1) ++ number_bytes 8 (slice_index fields 2)

pub a_name_and_zeros : is_padded_name (codes "ring_2" ++ replicate 10 0) ≡ true
a_name_and_zeros = refl

pub a_full_name : is_padded_name (codes "abcdefghijklmnop") ≡ true
a_full_name = refl

pub nothing_is_no_name : is_padded_name (replicate 16 0) ≡ false
nothing_is_no_name = refl

pub a_byte_after_a_zero : is_padded_name (codes "ring" ++ 0 ∷ 97 ∷ replicate 10 0) ≡ false
a_byte_after_a_zero = refl

pub a_digit_begins_no_name : is_padded_name (codes "2ring" ++ replicate 11 0) ≡ false
a_digit_begins_no_name = refl

pub a_capital_is_in_no_name : is_padded_name (codes "rIng" ++ replicate 12 0) ≡ false
a_capital_is_in_no_name = refl

-- the fields that `intern ring` writes
pub interned_ring : interned_bytes (0 ∷ 0x676e6972 ∷ 0 ∷ []) ≡ codes "ring" ++ replicate 12 0
interned_ring = refl
