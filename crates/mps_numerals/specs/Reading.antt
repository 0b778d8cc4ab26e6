-- The number that digits of a base write: in lower case, with no leading zero, and below 2^64.
use Rattle.std.specs.Prelude.{ℕ, ◌≡◌, ◌+◌, ◌-◌, ◌*◌, ◌^◌, ◌==◌, nat_lt, Bool, true, false, not, if◌then◌else◌, codes, Option, Some, None, List, [], ◌∷◌, refl}
use Rattle.std.specs.List.{list_all}

-- what a digit represents, up to 15 for `f`; 16 for a byte that is no digit. The codes of the digits are 48 to 57 for `0` to `9`,
-- and 97 to 102 for `a` to `f`.
abbrev pub digit_of : ℕ → ℕ
digit_of b = if nat_lt b 48 then 16 else (if nat_lt b 58 then b - 48
    else (if nat_lt b 97 then 16 else (if nat_lt b 103 then b - 87 else 16)))

-- the number that digits write after those of n
abbrev pub value_after : ℕ → ℕ → List ℕ → ℕ
value_after base n [] = n
value_after base n (b ∷ bs) = value_after base (n * base + digit_of b) bs

-- the number that digits write
abbrev pub digits_value : ℕ → List ℕ → ℕ
digits_value base digits = value_after base 0 digits

-- each byte is a digit of the base
abbrev pub are_digits : ℕ → List ℕ → Bool
are_digits base bytes = list_all (λ b. nat_lt (digit_of b) base) bytes

-- one byte or more, and no leading zero but in `0`
abbrev pub is_canonical : List ℕ → Bool
is_canonical [] = false
is_canonical (b ∷ []) = true
is_canonical (b ∷ _ ∷ _) = not (b == 48)

-- the number, if it is below 2^64
abbrev pub below_word : ℕ → Option ℕ
below_word n = if nat_lt n (2 ^ 64) then Some n else None

-- the number that the bytes write, if they are digits of the base and it is below 2^64
abbrev pub value_in : ℕ → List ℕ → Option ℕ
value_in base bytes = if are_digits base bytes then below_word (digits_value base bytes) else None

-- so it is if they are in the right form
abbrev pub number_in : ℕ → List ℕ → Option ℕ
number_in base bytes = if is_canonical bytes then value_in base bytes else None

pub in_hexadecimal : number_in 16 (codes "1f") ≡ Some 31
in_hexadecimal = refl

pub no_upper_case : number_in 16 (codes "1F") ≡ None
no_upper_case = refl

pub sixteen_digits : number_in 16 (codes "ffffffffffffffff") ≡ Some 18446744073709551615
sixteen_digits = refl

pub seventeen_digits_are_too_many : number_in 16 (codes "10000000000000000") ≡ None
seventeen_digits_are_too_many = refl
