-- A number begins with a digit.
use Rattle.std.proofs.Common.{◌≡◌, ℕ, ◌<◌, ◌≤◌, ◌⊎◌, inl, inr, ◌==◌, nat_lt, Bool, true, false, None, List, [], ◌∷◌, length, get_or, refl, ap, ◌∙◌, arith}
use Rattle.std.proofs.lemmas.Bool.Decides.{nat_tests}
use Rattle.mps_numerals.specs.Reading.{digit_of}
use Rattle.mps_numerals.specs.Decimal.{decimal_number}
use Rattle.mps_line_words.specs.Number.{number_of, prefixed_hexadecimal}
use Rattle.mps_line_words.specs.Word.{is_space, word_at}
use Rattle.mps_line_words.proofs.FirstWord.{word_more, no_word}

-- another byte writes no number
abbrev IsNoDigit : ℕ → Type 0
IsNoDigit byte = (byte < 48) ⊎ (57 < byte)

not_within : (byte : ℕ) → (48 ≤ byte → byte ≤ 57 → ⊥) → IsNoDigit byte
not_within byte none = at (nat_lt byte 48) refl
  where
    at : (b : Bool) → nat_lt byte 48 ≡ b → IsNoDigit byte
    at true below = inl (grind (arith, nat_tests))
    at false least =
        let from : 48 ≤ byte = grind (arith, nat_tests) in
        inr (omega (arith, none from))

is_no_zero : (byte : ℕ) → IsNoDigit byte → (byte == 48) ≡ false
is_no_zero byte (inl below) = grind (arith, nat_tests)
is_no_zero byte (inr above) = grind (arith, nat_tests)

is_no_digit : (byte : ℕ) → IsNoDigit byte → nat_lt (digit_of byte) 10 ≡ false
is_no_digit byte (inl below) = grind (arith, nat_tests)
is_no_digit byte (inr above) = grind (arith, nat_tests)

no_decimal : (byte : ℕ) (bytes : List ℕ) → IsNoDigit byte → decimal_number (byte ∷ bytes) ≡ None
no_decimal byte [] other = rw (is_no_digit byte other) refl
no_decimal byte (next ∷ bytes) other = rw (is_no_zero byte other, is_no_digit byte other) refl

no_hexadecimal : (byte : ℕ) (bytes : List ℕ) → IsNoDigit byte → prefixed_hexadecimal (byte ∷ bytes) ≡ None
no_hexadecimal byte [] other = refl
no_hexadecimal byte (next ∷ bytes) other = rw (is_no_zero byte other) refl

no_number_in : (byte : ℕ) (bytes : List ℕ) → IsNoDigit byte → number_of (byte ∷ bytes) ≡ None
no_number_in byte bytes other = rw (no_decimal byte bytes other, no_hexadecimal byte bytes other) refl

-- where a line begins with none, its first word is no number
pub no_number : (line : List ℕ) → (1 ≤ length line → 48 ≤ get_or line 0 0 → get_or line 0 0 ≤ 57 → ⊥) → number_of (word_at line) ≡ None
no_number [] none = refl
no_number (byte ∷ bytes) none = at (is_space byte) refl
  where
    at : (b : Bool) → is_space byte ≡ b → number_of (word_at (byte ∷ bytes)) ≡ None
    at true space = ap number_of (no_word byte bytes space)
    at false space =
        ap number_of (word_more byte bytes space) ∙ no_number_in byte (word_at bytes) (not_within byte (none (omega arith)))
