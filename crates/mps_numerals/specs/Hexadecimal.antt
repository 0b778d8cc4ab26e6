-- Hexadecimal numbers in texts: lower case, without leading zeros, `0` for zero.
use Rattle.std.specs.Prelude.{◌≡◌, ℕ, false, codes, List, refl}
use Rattle.std.specs.Fmt.{digits}

-- the text of a number
abbrev pub hexadecimal : ℕ → List ℕ
hexadecimal number = digits 16 false number

pub a_number_in_lower_case : hexadecimal 0x10af ≡ codes "10af"
unfolding digits
a_number_in_lower_case = refl

pub zero_has_a_digit : hexadecimal 0 ≡ codes "0"
unfolding digits
zero_has_a_digit = refl
