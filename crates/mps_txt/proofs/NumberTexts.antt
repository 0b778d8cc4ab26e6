-- Numbers as words: no space and no line feed stands in them.
use Rattle.std.proofs.Common.{◌≡◌, ℕ, zero, suc, ◌+◌, ◌/◌, ◌%◌, ◌^◌, ◌<◌, ◌≤◌, Bool, true, false, cond, eqb, ltb, List, [], ◌∷◌, ◌++◌, decimal, Option, Some, None, sym, ap, ◌∙◌, arith}
use Rattle.std.specs.Prelude.{◌≢◌, All, IfNone}
use Rattle.std.specs.Fmt.{digit_glyph, digits, digits_onto}
use Rattle.std.specs.Str.Parse.{digits_value}
use Rattle.std.proofs.lemmas.List.Elements.{All-nil, All-cons, All-push, All-weaker}
use Rattle.std.proofs.lemmas.Option.{none-some}
use Rattle.std.proofs.lemmas.Fmt.{decimal_by_steps, decimal_injective}
use Rattle.mps_numerals.specs.Hexadecimal.{hexadecimal}
use Rattle.mps_numerals.proofs.Hexadecimals.{value_of_hexadecimal}
use Rattle.mps_txt.specs.Separators.{Lacks, separated}
use Rattle.mps_txt.proofs.SplitAtByte.{one_split}

abbrev IsHigh : ℕ → Type 0
IsHigh byte = 48 ≤ byte

high_digit : (small : Bool) (digit : ℕ) → 48 ≤ cond small (48 + digit) (87 + digit)
high_digit true digit = omega arith
high_digit false digit = omega arith

either_high : (last : Bool) (x y : List ℕ) → All IsHigh x → All IsHigh y → All IsHigh (cond last x y)
either_high true x y h k = h
either_high false x y h k = k

onto_high : (fuel n : ℕ) (front : List ℕ) → All IsHigh front → All IsHigh (digits_onto fuel 16 false n front)
onto_high zero n front h = h
onto_high (suc fuel) n front h =
    let next = All-cons IsHigh (digit_glyph false (n % 16)) front (high_digit (ltb (n % 16) 10) (n % 16)) h in
    either_high (eqb (n / 16) 0) (digit_glyph false (n % 16) ∷ front)
    (digits_onto fuel 16 false (n / 16) (digit_glyph false (n % 16) ∷ front)) next
    (onto_high fuel (n / 16) (digit_glyph false (n % 16) ∷ front) next)

high_decimal : (n : ℕ) → n < 2 ^ 64 → All IsHigh (decimal n)
high_decimal = decimal_by_steps (λ n text. All IsHigh text)
    (λ n small. All-cons IsHigh (48 + n) [] (omega arith) (All-nil IsHigh))
    (λ n text large h. All-push IsHigh text (48 + n % 10) h (omega arith))

high_hexadecimal : (n : ℕ) → All IsHigh (hexadecimal n)
unfolding digits
high_hexadecimal n = onto_high 64 n [] (All-nil IsHigh)

pub decimal_lacks : (byte n : ℕ) → byte < 48 → n < 2 ^ 64 → Lacks byte (decimal n)
decimal_lacks byte n low fits =
    All-weaker IsHigh (λ other. other ≢ byte) (λ other h e. omega (arith, h, e)) (decimal n) (high_decimal n fits)

pub hexadecimal_lacks : (byte n : ℕ) → byte < 48 → Lacks byte (hexadecimal n)
hexadecimal_lacks byte n low =
    All-weaker IsHigh (λ other. other ≢ byte) (λ other h e. omega (arith, h, e)) (hexadecimal n) (high_hexadecimal n)

-- ---- the number that a text begins with

pub if_none : {A : Type 0} (answer : Option A) (P : Type 0) → P → IfNone answer P
if_none None P p = p
if_none (Some x) P p = tt

pub none_in_front : (spelled : ℕ → List ℕ) → ((n : ℕ) → n < 2 ^ 64 → Lacks 32 (spelled n))
    → (text word : List ℕ) (after : Option (List ℕ)) → text ≡ word ++ separated 32 after → Lacks 32 word
    → ((n : ℕ) → n < 2 ^ 64 → word ≡ spelled n → None ≡ Some n) → (n : ℕ) (rest : Option (List ℕ)) → n < 2 ^ 64
    → text ≢ spelled n ++ separated 32 rest
none_in_front spelled lacks text word after whole lack exact n rest fits e =
    none-some n (exact n fits (one_split 32 word (spelled n) after rest lack (lacks n fits) (sym whole ∙ e)).0)

-- a text begins with one number only, and one text follows it
pub same_number : (m n : ℕ) (a b : Option (List ℕ)) → m < 2 ^ 64 → n < 2 ^ 64
    → decimal m ++ separated 32 a ≡ decimal n ++ separated 32 b → (m ≡ n) × (a ≡ b)
same_number m n a b few fits e =
    let same = one_split 32 (decimal m) (decimal n) a b (decimal_lacks 32 m (omega arith) few) (decimal_lacks 32 n (omega arith) fits) e in
    (decimal_injective m n few fits same.0, same.1)

hexadecimal_injective : (m n : ℕ) → m < 2 ^ 64 → n < 2 ^ 64 → hexadecimal m ≡ hexadecimal n → m ≡ n
hexadecimal_injective m n few fits e = sym (value_of_hexadecimal m few) ∙ ap (digits_value 16) e ∙ value_of_hexadecimal n fits

pub same_field : (m n : ℕ) (a b : Option (List ℕ)) → m < 2 ^ 64 → n < 2 ^ 64
    → hexadecimal m ++ separated 32 a ≡ hexadecimal n ++ separated 32 b → (m ≡ n) × (a ≡ b)
same_field m n a b few fits e =
    let same = one_split 32 (hexadecimal m) (hexadecimal n) a b (hexadecimal_lacks 32 m (omega arith))
    (hexadecimal_lacks 32 n (omega arith)) e in
    (hexadecimal_injective m n few fits same.0, same.1)
