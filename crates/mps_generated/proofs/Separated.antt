-- Texts that are cut at separators, and decimal numbers in them.
use Rattle.std.proofs.Common.{◌≡◌, ℕ, ◌^◌, ◌<◌, nat_lt, Bool, true, false, not, ◌&&◌, cond, if◌then◌else◌, Option, Some, None, List, [], ◌∷◌, ◌++◌, decimal, refl, sym, ap, ◌∙◌, arith}
use Rattle.std.specs.List.{slice_split, onto_first, list_all}
use Rattle.std.proofs.lemmas.List.Splits.{slice_split-cons_yes, slice_split-cons_no}
use Rattle.std.proofs.lemmas.Bool.Decides.{nat_tests}
use Rattle.mps_numerals.specs.Reading.{digit_of, digits_value, below_word, are_digits, is_canonical, value_in}
use Rattle.mps_numerals.proofs.Decimals.{written_is_read}
use Rattle.mps_script.specs.Word.{is_space, is_nonempty}
use Rattle.mps_script.specs.Line.{lines_of, without_empty_last}
use Rattle.mps_script.specs.Lines.{is_line_feed}

-- no byte of a text is a separator
abbrev pub has_none : (ℕ → Bool) → List ℕ → Bool
has_none p xs = list_all (λ (b : ℕ). not (p b)) xs

both_true : (a b : Bool) → (a && b) ≡ true → (a ≡ true) × (b ≡ true)
both_true true b e = (refl, e)
both_true false b e = absurd (let clash : false ≡ true = e in cc)

negated : (b : Bool) → not b ≡ true → b ≡ false
negated true e = absurd (let clash : false ≡ true = e in cc)
negated false e = refl

-- the first part ends at the first separator
pub cut_first : (p : ℕ → Bool) (xs : List ℕ) (y : ℕ) (ys : List ℕ) → has_none p xs ≡ true → p y ≡ true
    → slice_split p (xs ++ y ∷ ys) ≡ xs ∷ slice_split p ys
cut_first p [] y ys none at = slice_split-cons_yes p y ys at
cut_first p (x ∷ xs) y ys none at =
    let k = both_true (not (p x)) (has_none p xs) none in
    slice_split-cons_no p x (xs ++ y ∷ ys) (negated (p x) k.0) ∙ ap (onto_first x) (cut_first p xs y ys k.1 at)

-- a text without a separator is one part
pub uncut : (p : ℕ → Bool) (xs : List ℕ) → has_none p xs ≡ true → slice_split p xs ≡ xs ∷ []
uncut p [] none = refl
uncut p (x ∷ xs) none =
    let k = both_true (not (p x)) (has_none p xs) none in
    slice_split-cons_no p x xs (negated (p x) k.0) ∙ ap (onto_first x) (uncut p xs k.1)

-- a list of parts has one
part_first : (p : ℕ → Bool) (line xs : List ℕ) → without_empty_last (line ∷ slice_split p xs) ≡ line ∷ without_empty_last (slice_split p xs)
part_first p line [] = at line
  where
    at : (line : List ℕ) → without_empty_last (line ∷ [] ∷ []) ≡ line ∷ []
    at [] = refl
    at (x ∷ xs) = refl
part_first p line (x ∷ xs) = at line (p x) (slice_split p xs)
  where
    stays : (line m : List ℕ) (ms : List (List ℕ)) → without_empty_last (line ∷ m ∷ ms) ≡ line ∷ without_empty_last (m ∷ ms)
    stays [] m ms = refl
    stays (y ∷ ys) m ms = refl

    at : (line : List ℕ) (b : Bool) (parts : List (List ℕ))
        → without_empty_last (line ∷ cond b ([] ∷ parts) (onto_first x parts)) ≡ line ∷ without_empty_last (cond b ([]
        ∷ parts) (onto_first x parts))
    at line true parts = stays line [] parts
    at line false [] = stays line (x ∷ []) []
    at line false (m ∷ ms) = stays line (x ∷ m) ms

-- a line, its line feed, and what stands after it
pub line_first : (line rest : List ℕ) → has_none is_line_feed line ≡ true → lines_of (line ++ 10 ∷ rest) ≡ line ∷ lines_of rest
line_first line rest none = ap without_empty_last (cut_first is_line_feed line 10 rest none refl) ∙ part_first is_line_feed line rest

-- ---- decimal numbers

-- a separator that is no digit
abbrev pub IsNoDigit : (ℕ → Bool) → Type 0
IsNoDigit p = (b : ℕ) → nat_lt (digit_of b) 10 ≡ true → p b ≡ false

digits_have_none : (p : ℕ → Bool) → IsNoDigit p → (ds : List ℕ) → are_digits 10 ds ≡ true → has_none p ds ≡ true
digits_have_none p no_digit [] e = refl
digits_have_none p no_digit (d ∷ ds) e =
    let k = both_true (nat_lt (digit_of d) 10) (are_digits 10 ds) e in
    rw (no_digit d k.0) (digits_have_none p no_digit ds k.1)

pub record IsNumber (ds : List ℕ) : Type 0 where
  pub digits : are_digits 10 ds ≡ true
  pub nonempty : is_nonempty ds ≡ true

number_from : (ds : List ℕ) (canonical : Bool) (n : ℕ) → is_canonical ds ≡ canonical
    → (if canonical then value_in 10 ds else None) ≡ Some n → IsNumber ds
number_from [] canonical n c e = absurd (let clash : (if canonical then value_in 10 [] else None) ≡ None = rw (sym c) in cc)
number_from (d ∷ ds) false n c e = absurd (let clash : None ≡ Some n = e in cc)
number_from (d ∷ ds) true n c e =
    record { digits = at (are_digits 10 (d ∷ ds)) (below_word (digits_value 10 (d ∷ ds))) e; nonempty = refl }
  where
    at : (b : Bool) (x : Option ℕ) → (if b then x else None) ≡ Some n → b ≡ true
    at true x e = refl
    at false x e = absurd (let clash : None ≡ Some n = e in cc)

pub is_number : (n : ℕ) → n < 2 ^ 64 → IsNumber (decimal n)
is_number n fits = number_from (decimal n) (is_canonical (decimal n)) n refl (written_is_read n fits)

pub number_has_none : (p : ℕ → Bool) → IsNoDigit p → (n : ℕ) → n < 2 ^ 64 → has_none p (decimal n) ≡ true
number_has_none p no_digit n fits = digits_have_none p no_digit (decimal n) (is_number n fits).digits

pub no_space : IsNoDigit is_space
no_space b e = grind (arith, nat_tests)

pub no_line_feed : IsNoDigit is_line_feed
no_line_feed b e = grind (arith, nat_tests)
