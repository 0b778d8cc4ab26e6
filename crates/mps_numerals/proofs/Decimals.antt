-- Decimal numbers: what is read was written so, and what is written is read.
use Rattle.std.proofs.Common.{◌≡◌, ℕ, ◌+◌, ◌-◌, ◌*◌, ◌^◌, ◌<◌, Bool, true, false, ◌&&◌, nat_lt, if◌then◌else◌, Option, Some, None, IfSome, List, [], ◌∷◌, length, get_or, decimal, refl, ap, ◌∙◌, sym, inl, inr, arith}
use Rattle.std.specs.Int.{IsInRange}
use Rattle.std.proofs.lemmas.Bool.{cases_eq}
use Rattle.std.proofs.lemmas.Grind.{common_steps}
use Rattle.std.proofs.lemmas.Fmt.{decimal_nonempty, decimal_digit, first_decimal, decimal-digits_value, digits_decimal, digits_value-decimal}
use Rattle.std.proofs.lemmas.Str.Parse.{IsNumeralModel, IsDigitsTest, FoldsDigits, numerals_by_fold}
use Rattle.mps_numerals.specs.Reading.{digit_of, are_digits, value_after, digits_value, is_canonical, below_word, number_in}

abbrev pub AreDecimal : List ℕ → Type 0
AreDecimal text = are_digits 10 text ≡ true

digit_range : (c : ℕ) → nat_lt (digit_of c) 10 ≡ true → IsInRange 48 57 c
digit_range c e = grind (arith, common_steps)

range_digit : (c : ℕ) → IsInRange 48 57 c → nat_lt (digit_of c) 10 ≡ true
range_digit c e = grind (arith, common_steps)

range_value : (c : ℕ) → IsInRange 48 57 c → digit_of c ≡ c - 48
range_value c e = grind (arith, common_steps)

pub both : (a b : Bool) → (a && b) ≡ true → (a ≡ true) × (b ≡ true)
both true b e = (refl, e)
both false b e = absurd cc

test : IsDigitsTest AreDecimal
test = record {
  empty = refl;
  parts = λ c cs e. let k = both (nat_lt (digit_of c) 10) (are_digits 10 cs) e in (digit_range c k.0, k.1);
  more = λ c cs k e. rw (range_digit c k, e) refl;
}

fold : FoldsDigits (value_after 10)
fold = record {
  empty = λ n. refl;
  more = λ n c cs k. ap (λ (d : ℕ). value_after 10 (n * 10 + d) cs) (range_value c k);
}

own : IsNumeralModel AreDecimal (value_after 10 0)
own = numerals_by_fold AreDecimal test (value_after 10) fold

pub plain_from : (text : List ℕ) → is_canonical text ≡ true → (0 < length text) × (get_or text 0 0 ≡ 48 → length text ≡ 1)
plain_from [] e = absurd cc
plain_from (a ∷ []) e = (omega arith, λ _. refl)
plain_from (a ∷ b ∷ rest) e = (omega arith, λ h. grind (arith, common_steps))

pub canonical_from : (text : List ℕ) → 0 < length text → (get_or text 0 0 ≡ 48 → length text ≡ 1) → is_canonical text ≡ true
canonical_from [] some plain = absurd (omega arith)
canonical_from (a ∷ []) some plain = refl
canonical_from (a ∷ b ∷ rest) some plain =
    elim (cases_eq a 48) [
      | inl zero ↦ absurd (omega (arith, plain zero))
      | inr other ↦ grind (arith, common_steps)
    ]

pub below_from : (v n : ℕ) → below_word v ≡ Some n → (v ≡ n) × (v < 2 ^ 64)
below_from v n e = grind (arith, common_steps)

pub below_to : (v : ℕ) → v < 2 ^ 64 → below_word v ≡ Some v
below_to v fits = grind (arith, common_steps)

pub parts_of : (c a : Bool) (v n : ℕ) → (if c then (if a then below_word v else None) else None) ≡ Some n
    → (c ≡ true) × (a ≡ true) × (v ≡ n) × (v < 2 ^ 64)
parts_of true true v n e = let k = below_from v n e in (refl, refl, k.0, k.1)
parts_of true false v n e = absurd cc
parts_of false a v n e = absurd cc

-- the number that a text writes is written by just this text
pub read_was_written : (text : List ℕ) (n : ℕ) → number_in 10 text ≡ Some n → (text ≡ decimal n) × (n < 2 ^ 64)
read_was_written text n e =
    let k = parts_of (is_canonical text) (are_digits 10 text) (digits_value 10 text) n e in
    let plain = plain_from text k.0 in
    (sym (ap decimal (sym k.2) ∙ decimal-digits_value own text k.1 plain.0 plain.1 k.3), omega (arith, k.2, k.3))

written_plain : (n : ℕ) → n < 2 ^ 64 → get_or (decimal n) 0 0 ≡ 48 → length (decimal n) ≡ 1
written_plain n fits zero_first =
    elim (cases_eq n 0) [
      | inl none ↦ ap length (ap decimal none ∙ decimal_digit 0 (omega arith))
      | inr some ↦ absurd (omega (arith, first_decimal n (omega arith) fits, zero_first))
    ]

-- what is written for a number is read as this number
pub written_is_read : (n : ℕ) → n < 2 ^ 64 → number_in 10 (decimal n) ≡ Some n
written_is_read n fits =
    let canonical = canonical_from (decimal n) (decimal_nonempty n fits) (written_plain n fits) in
    let digits : are_digits 10 (decimal n) ≡ true = digits_decimal own n fits in
    let value : digits_value 10 (decimal n) ≡ n = digits_value-decimal own n fits in
    rw (canonical, digits, value) (below_to n fits)

-- ---- what a reader answers
pub sound_reading : (text : List ℕ) (r : Option ℕ) → r ≡ number_in 10 text → IfSome r (λ n. text ≡ decimal n)
sound_reading text (Some n) e = (read_was_written text n (sym e)).0
sound_reading text None e = _

pub complete_reading : (text : List ℕ) (r : Option ℕ) (n : ℕ) → r ≡ number_in 10 text → n < 2 ^ 64 → text ≡ decimal n → r ≡ Some n
complete_reading text r n e fits written = e ∙ ap (number_in 10) written ∙ written_is_read n fits
