-- Numbers as words. A decimal number has no leading zero and is below 2^64. A hexadecimal one stands after `0x`, in
-- lower case, and so has at most 16 digits.
use Rattle.std.specs.Prelude.{ℕ, ◌≡◌, ◌==◌, nat_le, ◌&&◌, if◌then◌else◌, codes, Option, Some, None, option_and_then, List, [], ◌∷◌, refl}
use Rattle.mps_numerals.specs.Decimal.{decimal_number}
use Rattle.mps_numerals.specs.Reading.{number_in}
use Rattle.mps_line_words.specs.Reading.{first_of_two}

-- a hexadecimal number, after `0x`
abbrev pub prefixed_hexadecimal : List ℕ → Option ℕ
prefixed_hexadecimal [] = None
prefixed_hexadecimal (a ∷ []) = None
prefixed_hexadecimal (a ∷ b ∷ digits) = if (a == 48) && (b == 120) then number_in 16 digits else None

-- a number in either form
abbrev pub number_of : List ℕ → Option ℕ
number_of word = first_of_two (decimal_number word) (prefixed_hexadecimal word)

-- a decimal number in a range
abbrev pub number_within : ℕ → ℕ → List ℕ → Option ℕ
number_within low high word =
    option_and_then (λ n. if nat_le low n && nat_le n high then Some n else None) (decimal_number word)

pub in_hexadecimal : number_of (codes "0x1f") ≡ Some 31
in_hexadecimal = refl

pub no_upper_case : number_of (codes "0x1F") ≡ None
no_upper_case = refl

pub sixteen_digits : number_of (codes "0xffffffffffffffff") ≡ Some 18446744073709551615
sixteen_digits = refl

pub seventeen_digits_are_too_many : number_of (codes "0x10000000000000000") ≡ None
seventeen_digits_are_too_many = refl
