-- Hexadecimal texts and the numbers that they write.
use Rattle.std.proofs.Common.{◌≡◌, ℕ, zero, suc, ◌+◌, ◌*◌, ◌/◌, ◌%◌, ◌^◌, ◌<◌, ◌≤◌, Bool, true, false, cond, eqb, List, [], ◌∷◌, ◌++◌, length, take, get_or, take_all, Option, Some, None, nat_lt, add-one, refl, sym, ap, subst, ◌∙◌, inl, inr, arith}
use Rattle.std.specs.Prelude.{IfSome}
use Rattle.std.specs.Char.{digit_value}
use Rattle.std.specs.Str.Parse.{digits_value, digits_value_after}
use Rattle.std.specs.Fmt.{digit_glyph, digits_onto, digits}
use Rattle.std.proofs.Math.Nat.{pow-suc}
use Rattle.std.proofs.lemmas.Bool.{cases_eq, cases_lt, eq-eqb, ne_eqb}
use Rattle.std.proofs.lemmas.List.{take_more, get_or_append_left}
use Rattle.std.proofs.lemmas.Grind.{common_steps}
use Rattle.std.proofs.lemmas.Fmt.{digits_is_IsNumeral, hex_one_digit}
use Rattle.std.proofs.lemmas.Int.Digits.{digits_value_more}
use Rattle.std.proofs.lemmas.Str.Parse.{digits_value-take-le}
use Rattle.mps_numerals.specs.Hexadecimal.{hexadecimal}
use Rattle.mps_numerals.specs.Reading.{digit_of, value_after, are_digits, is_canonical, number_in}
use Rattle.mps_numerals.proofs.Decimals.{both, plain_from, canonical_from, below_to, parts_of}

-- there are digits, and no zero in front but in `0`
abbrev IsPlain : List ℕ → Type 0
IsPlain text = (0 < length text) × (get_or text 0 0 ≡ 48 → length text ≡ 1)

fits_hexadecimal : (n : ℕ) → n < 2 ^ 64 → n < 16 ^ 64
fits_hexadecimal n fits = omega arith

-- ---- one digit

pub one_digit : (digit : ℕ) → digit < 16 → hexadecimal digit ≡ digit_glyph false digit ∷ []
one_digit digit small = hex_one_digit false digit small

pub value_of_digit : (digit : ℕ) → digit < 16 → digit_value (digit_glyph false digit) ≡ digit
value_of_digit digit small =
    let read : digits_value 16 (hexadecimal digit) ≡ digit =
    (digits_is_IsNumeral 16 false (omega arith) (omega arith) digit (omega arith)).1 in
    let same : digits_value 16 (digit_glyph false digit ∷ []) ≡ digit = ap (digits_value 16) (sym (one_digit digit small)) ∙ read in
    omega (arith, same)

-- ---- the last digit

either : (last : Bool) (x y z w : List ℕ) → x ≡ z → y ≡ w → cond last x y ≡ cond last z w
either true x y z w e f = e
either false x y z w e f = f

after_either : (last : Bool) (x y : List ℕ) (digit : ℕ) → cond last (x ++ digit ∷ []) (y ++ digit ∷ []) ≡ cond last x y ++ digit ∷ []
after_either true x y digit = refl
after_either false x y digit = refl

onto_after : (fuel n digit : ℕ) (front : List ℕ) → digits_onto fuel 16 false n (front ++ digit ∷ []) ≡ digits_onto fuel 16 false n front
    ++ digit ∷ []
onto_after zero n digit front = refl
onto_after (suc fuel) n digit front =
    let next = digit_glyph false (n % 16) ∷ front in
    either (eqb (n / 16) 0) (next ++ digit ∷ []) (digits_onto fuel 16 false (n / 16) (next ++ digit ∷ [])) (next ++ digit ∷ [])
    (digits_onto fuel 16 false (n / 16) next ++ digit ∷ [])
    refl (onto_after fuel (n / 16) digit next)
    ∙ after_either (eqb (n / 16) 0) next (digits_onto fuel 16 false (n / 16) next) digit

-- there are digits enough
none_or_more : (n : ℕ) (x y z : List ℕ) → (16 ≤ n → y ≡ z) → cond (eqb (n / 16) 0) x y ≡ cond (eqb (n / 16) 0) x z
none_or_more n x y z h =
    elim (cases_eq (n / 16) 0) [
      | inl none ↦ ap (λ (last : Bool). cond last x y) (eq-eqb _ 0 none) ∙ sym (ap (λ (last : Bool). cond last x z) (eq-eqb _ 0 none))
      | inr more ↦ ap (λ (w : List ℕ). cond (eqb (n / 16) 0) x w) (h (omega (arith, more)))
    ]

onto_enough : (fuel n : ℕ) (front : List ℕ) → n < 16 ^ fuel → 0 < fuel
    → digits_onto (suc fuel) 16 false n front ≡ digits_onto fuel 16 false n front
onto_enough zero n front fits some = absurd (omega arith)
onto_enough (suc zero) n front fits some =
    let next = digit_glyph false (n % 16) ∷ front in
    none_or_more n next (digits_onto 1 16 false (n / 16) next) next (λ large. absurd (omega arith))
onto_enough (suc (suc fuel)) n front fits some =
    let next = digit_glyph false (n % 16) ∷ front in
    none_or_more n next (digits_onto (suc (suc fuel)) 16 false (n / 16) next) (digits_onto (suc fuel) 16 false (n / 16) next)
    (λ large. onto_enough (suc fuel) (n / 16) next (omega (arith, fits, pow-suc 16 (suc fuel))) (omega arith))

-- a number of two digits or more is written by that of all but the last, and the last
pub last_digit : (n : ℕ) → 16 ≤ n → n < 2 ^ 64 → hexadecimal n ≡ hexadecimal (n / 16) ++ digit_glyph false (n % 16) ∷ []
unfolding digits
last_digit n large fits =
    onto_rest (eqb (n / 16) 0) (ne_eqb _ 0 (λ e. omega (arith, e)))
    ∙ onto_after 63 (n / 16) (digit_glyph false (n % 16)) []
    ∙ ap (λ (front : List ℕ). front ++ digit_glyph false (n % 16) ∷ []) (sym (onto_enough 63 (n / 16) [] (omega arith) (omega arith)))
  where
    onto_rest : (last : Bool) → last ≡ false → cond last (digit_glyph false (n % 16) ∷ [])
        (digits_onto 63 16 false (n / 16) (digit_glyph false (n % 16) ∷ []))
        ≡ digits_onto 63 16 false (n / 16) (digit_glyph false (n % 16) ∷ [])
    onto_rest true e = absurd cc
    onto_rest false e = refl

-- ---- all digits are digits

is_digit : (digit : ℕ) → digit < 16 → nat_lt (digit_of (digit_glyph false digit)) 16 ≡ true
is_digit digit small = grind (arith, common_steps)

pub glyph_of_digit : (byte : ℕ) → nat_lt (digit_of byte) 16 ≡ true → (digit_of byte < 16) × (byte ≡ digit_glyph false (digit_of byte))
glyph_of_digit byte e = grind (arith, common_steps)

either_digits : (last : Bool) (x y : List ℕ) → are_digits 16 x ≡ true → are_digits 16 y ≡ true → are_digits 16 (cond last x y) ≡ true
either_digits true x y h k = h
either_digits false x y h k = k

onto_digits : (fuel n : ℕ) (front : List ℕ) → are_digits 16 front ≡ true → are_digits 16 (digits_onto fuel 16 false n front) ≡ true
onto_digits zero n front h = h
onto_digits (suc fuel) n front h =
    let next : are_digits 16 (digit_glyph false (n % 16) ∷ front) ≡ true = rw (is_digit (n % 16) (omega arith), h) refl in
    either_digits (eqb (n / 16) 0) (digit_glyph false (n % 16) ∷ front)
    (digits_onto fuel 16 false (n / 16) (digit_glyph false (n % 16) ∷ front)) next
    (onto_digits fuel (n / 16) (digit_glyph false (n % 16) ∷ front) next)

all_digits : (n : ℕ) → are_digits 16 (hexadecimal n) ≡ true
unfolding digits
all_digits n = onto_digits 64 n [] refl

digit_there : (text : List ℕ) (i : ℕ) → are_digits 16 text ≡ true → i < length text → nat_lt (digit_of (get_or text i 0)) 16 ≡ true
digit_there [] i e within = absurd (omega arith)
digit_there (byte ∷ bytes) zero e within = (both (nat_lt (digit_of byte) 16) (are_digits 16 bytes) e).0
digit_there (byte ∷ bytes) (suc i) e within = digit_there bytes i (both (nat_lt (digit_of byte) 16) (are_digits 16 bytes) e).1 (omega arith)

-- ---- the number that the digits write

same_digit : (byte : ℕ) → nat_lt (digit_of byte) 16 ≡ true → digit_value byte ≡ digit_of byte
same_digit byte e = let g = glyph_of_digit byte e in ap digit_value g.1 ∙ value_of_digit (digit_of byte) g.0

same_value_after : (n : ℕ) (text : List ℕ) → are_digits 16 text ≡ true → digits_value_after 16 n text ≡ value_after 16 n text
same_value_after n [] e = refl
same_value_after n (byte ∷ bytes) e =
    let k = both (nat_lt (digit_of byte) 16) (are_digits 16 bytes) e in
    ap (λ (d : ℕ). digits_value_after 16 (n * 16 + d) bytes) (same_digit byte k.0) ∙ same_value_after (n * 16 + digit_of byte) bytes k.1

same_value : (text : List ℕ) → are_digits 16 text ≡ true → digits_value 16 text ≡ value_after 16 0 text
same_value text e = same_value_after 0 text e

pub value_of_hexadecimal : (n : ℕ) → n < 2 ^ 64 → digits_value 16 (hexadecimal n) ≡ n
value_of_hexadecimal n fits = (digits_is_IsNumeral 16 false (omega arith) (omega arith) n (fits_hexadecimal n fits)).1

-- ---- one digit more

pub written_more : (text : List ℕ) (i number digit : ℕ) → IsPlain text → i < length text → digits_value 16 (take i text) ≡ number
    → (0 < i → take i text ≡ hexadecimal number)
    → digit < 16 → get_or text i 0 ≡ digit_glyph false digit → number * 16 + digit < 2 ^ 64
    → take (i + 1) text ≡ hexadecimal (number * 16 + digit)
written_more text zero number digit plain within value written small is fits =
    let none : number ≡ 0 = omega (arith, value) in
    let same : number * 16 + digit ≡ digit = omega (arith, none) in
    take_more text 0 0 within ∙ ap (λ (byte : ℕ). byte ∷ []) is ∙ sym (one_digit digit small) ∙ ap hexadecimal (sym same)
written_more text (suc i) number digit plain within value written small is fits =
    let before : take (suc i) text ≡ hexadecimal number = written (omega arith) in
    let some : 0 < number = elim (cases_eq number 0) [
      | inl none ↦ absurd (omega (arith, plain.1 (first_of_zero text i number before none), within))
      | inr more ↦ omega (arith, more)
    ] in
    let front : (number * 16 + digit) / 16 ≡ number = omega arith in
    let last : (number * 16 + digit) % 16 ≡ digit = omega arith in
    take_more text (suc i) 0 within
    ∙ ap (λ (front : List ℕ). front ++ get_or text (suc i) 0 ∷ []) before
    ∙ ap (λ (byte : ℕ). hexadecimal number ++ byte ∷ []) is
    ∙ ap (λ (k : ℕ). hexadecimal k ++ digit_glyph false digit ∷ []) (sym front)
    ∙ ap (λ (k : ℕ). hexadecimal ((number * 16 + digit) / 16) ++ digit_glyph false k ∷ []) (sym last)
    ∙ sym (last_digit (number * 16 + digit) (omega arith) fits)
  where
    first_of_zero : (text : List ℕ) (i number : ℕ) → take (suc i) text ≡ hexadecimal number → number ≡ 0 → get_or text 0 0 ≡ 48
    first_of_zero [] i number e none = absurd (let e' : [] ≡ 48 ∷ [] = e ∙ ap hexadecimal none ∙ one_digit 0 (omega arith) in
        let l : 0 ≡ 1 = ap (λ (x : List ℕ). length x) e' in omega (arith, l))
    first_of_zero (byte ∷ bytes) i number e none =
        let e' : byte ∷ take i bytes ≡ 48 ∷ [] = e ∙ ap hexadecimal none ∙ one_digit 0 (omega arith) in
        ap (λ (x : List ℕ). get_or x 0 0) e'

pub value_more : (text : List ℕ) (i number digit : ℕ) → i < length text → digits_value 16 (take i text) ≡ number → digit < 16
    → get_or text i 0 ≡ digit_glyph false digit
    → digits_value 16 (take (i + 1) text) ≡ number * 16 + digit
value_more text i number digit within value small is =
    omega (arith, digits_value_more 16 text i within, ap digit_value is, value_of_digit digit small, value)

-- ---- no zero in front

some_digits : (n : ℕ) → n < 2 ^ 64 → 0 < length (hexadecimal n)
some_digits n fits = (digits_is_IsNumeral 16 false (omega arith) (omega arith) n (fits_hexadecimal n fits)).0.0

no_zero_digit : (digit : ℕ) → 0 < digit → digit < 16 → digit_glyph false digit ≡ 48 → ⊥
no_zero_digit digit some small e =
    let none : digit_value 48 ≡ 0 = refl in
    omega (arith, value_of_digit digit small, ap digit_value e, none)

no_zero_in_front : (fuel n : ℕ) → n < 16 ^ fuel → 0 < n → n < 2 ^ 64 → get_or (hexadecimal n) 0 0 ≡ 48 → ⊥
no_zero_in_front zero n few some fits e = omega arith
no_zero_in_front (suc fuel) n few some fits e =
    elim (cases_lt n 16) [
      | inl small ↦ no_zero_digit n some small (sym (ap (λ (x : List ℕ). get_or x 0 0) (one_digit n small)) ∙ e)
      | inr large ↦ no_zero_in_front fuel (n / 16) (omega (arith, few, pow-suc 16 fuel)) (omega arith) (omega arith)
          (sym (get_or_append_left (hexadecimal (n / 16)) (digit_glyph false (n % 16) ∷ []) 0 0 (some_digits (n / 16) (omega arith)))
          ∙ sym (ap (λ (x : List ℕ). get_or x 0 0) (last_digit n large fits)) ∙ e)
    ]

hexadecimal_plain : (n : ℕ) → n < 2 ^ 64 → IsPlain (hexadecimal n)
hexadecimal_plain n fits = (
  some_digits n fits,
  λ e. elim (cases_eq n 0) [
    | inl none ↦ ap (λ (k : ℕ). length (hexadecimal k)) none ∙ ap (λ (x : List ℕ). length x) (one_digit 0 (omega arith))
    | inr more ↦ absurd (no_zero_in_front 16 n (omega arith) (omega (arith, more)) fits e)
  ],
)

-- ---- what a reader answers

written_to : (text : List ℕ) (i : ℕ) → IsPlain text → are_digits 16 text ≡ true → digits_value 16 text < 2 ^ 64 → i ≤ length text → 0 < i
    → take i text ≡ hexadecimal (digits_value 16 (take i text))
written_to text zero plain are fits within some = absurd (omega arith)
written_to text (suc i) plain are fits within some =
    let there : i < length text = omega arith in
    let g = glyph_of_digit (get_or text i 0) (digit_there text i are there) in
    let more = value_more text i (digits_value 16 (take i text)) (digit_of (get_or text i 0)) there refl g.0 g.1 in
    let bound = digits_value-take-le 16 text (i + 1) (omega arith) in
    let next : take (i + 1) text ≡ hexadecimal (digits_value 16 (take (i + 1) text)) =
    written_more text i (digits_value 16 (take i text)) (digit_of (get_or text i 0)) plain there refl
    (λ up. written_to text i plain are fits (omega arith) up) g.0 g.1
    (omega (arith, more, bound, fits)) ∙ ap hexadecimal (sym more) in
    subst (λ (k : ℕ). take k text ≡ hexadecimal (digits_value 16 (take k text))) (add-one i) next

-- the number that a text writes is written by just this text
read_was_written : (text : List ℕ) (n : ℕ) → number_in 16 text ≡ Some n → text ≡ hexadecimal n
read_was_written text n e =
    let k = parts_of (is_canonical text) (are_digits 16 text) (value_after 16 0 text) n e in
    let plain = plain_from text k.0 in
    let value : digits_value 16 text ≡ n = same_value text k.1 ∙ k.2 in
    let all : take (length text) text ≡ text = take_all (length text) text (omega arith) in
    sym all ∙ written_to text (length text) plain k.1 (omega (arith, value, k.3, k.2)) (omega arith) plain.0
    ∙ ap (λ (t : List ℕ). hexadecimal (digits_value 16 t)) all ∙ ap hexadecimal value

-- what is written for a number is read as this number
written_is_read : (n : ℕ) → n < 2 ^ 64 → number_in 16 (hexadecimal n) ≡ Some n
written_is_read n fits =
    let plain = hexadecimal_plain n fits in
    let canonical = canonical_from (hexadecimal n) plain.0 plain.1 in
    let digits = all_digits n in
    let value : value_after 16 0 (hexadecimal n) ≡ n = sym (same_value (hexadecimal n) digits) ∙ value_of_hexadecimal n fits in
    rw (canonical, digits, value) (below_to n fits)

pub sound_reading : (text : List ℕ) (r : Option ℕ) → r ≡ number_in 16 text → IfSome r (λ n. text ≡ hexadecimal n)
sound_reading text (Some n) e = read_was_written text n (sym e)
sound_reading text None e = tt

pub complete_reading : (text : List ℕ) (r : Option ℕ) (n : ℕ) → r ≡ number_in 16 text → n < 2 ^ 64 → text ≡ hexadecimal n → r ≡ Some n
complete_reading text r n e fits written = e ∙ ap (number_in 16) written ∙ written_is_read n fits
