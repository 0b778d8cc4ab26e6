-- The grammar of names: a letter a to z and then at most 15 letters a to z, digits or underscores.
use Rattle.std.specs.Prelude.{◌≡◌, ℕ, Bool, true, false, ◌&&◌, ◌||◌, ◌==◌, nat_le, nat_lt, List, [], ◌∷◌, length, codes, refl}
use Rattle.std.specs.List.{list_all}
use Rattle.std.specs.Str.{bytes_eq}
use Rattle.mps_base.specs.declared.names.Name.{Name}

-- the most bytes of a name
abbrev pub max_name_bytes : ℕ
max_name_bytes = 16

-- a letter a to z, whose codes are 97 to 122
abbrev pub is_letter : ℕ → Bool
is_letter byte = nat_le 97 byte && nat_le byte 122

-- a digit 0 to 9, whose codes are 48 to 57
abbrev pub is_digit : ℕ → Bool
is_digit byte = nat_le 48 byte && nat_le byte 57

-- the code of `_`
abbrev pub underscore : ℕ
underscore = 95

-- a letter, a digit or an underscore
abbrev pub is_name_byte : ℕ → Bool
is_name_byte byte = is_letter byte || (is_digit byte || (byte == underscore))

-- a letter and then bytes of names, with it at most 16
abbrev pub is_name : List ℕ → Bool
is_name [] = false
is_name (first ∷ rest) = is_letter first && (nat_lt (length rest) max_name_bytes && list_all is_name_byte rest)

-- the same bytes
abbrev pub same_name : Name → Name → Bool
same_name these those = bytes_eq these.bytes those.bytes

pub letters_digits_and_underscores : is_name (codes "ring_2") ≡ true
letters_digits_and_underscores = refl

pub sixteen_bytes_are_a_name : is_name (codes "abcdefghijklmnop") ≡ true
sixteen_bytes_are_a_name = refl

pub seventeen_are_none : is_name (codes "abcdefghijklmnopq") ≡ false
seventeen_are_none = refl

pub no_name_is_empty : is_name [] ≡ false
no_name_is_empty = refl

pub a_digit_is_not_first : is_name (codes "2ring") ≡ false
a_digit_is_not_first = refl

pub no_upper_case : is_name (codes "rIng") ≡ false
no_upper_case = refl
