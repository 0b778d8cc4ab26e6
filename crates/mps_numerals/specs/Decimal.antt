-- Decimal numbers in texts: below 2^64, without leading zeros, `0` for zero.
use Rattle.std.specs.Prelude.{◌≡◌, ℕ, codes, Option, Some, None, List, [], refl}
use Rattle.mps_numerals.specs.Reading.{number_in}

-- the number that a text writes
abbrev pub decimal_number : List ℕ → Option ℕ
decimal_number text = number_in 10 text

pub the_largest : decimal_number (codes "18446744073709551615") ≡ Some 18446744073709551615
the_largest = refl

pub one_more_is_no_number : decimal_number (codes "18446744073709551616") ≡ None
one_more_is_no_number = refl

pub no_leading_zero : decimal_number (codes "07") ≡ None
no_leading_zero = refl

pub zero_itself : decimal_number (codes "0") ≡ Some 0
zero_itself = refl

pub nothing_is_no_number : decimal_number [] ≡ None
nothing_is_no_number = refl

pub no_decimal_digit : decimal_number (codes "1f") ≡ None
no_decimal_digit = refl
