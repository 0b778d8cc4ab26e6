-- A text of digits, a colon and more: where its first colon is, and what stands on either side.
use Rattle.std.proofs.Common.{◌≡◌, ℕ, ◌+◌, ◌^◌, ◌<◌, ◌≤◌, true, false, List, ◌∷◌, ◌++◌, length, take, drop, get_or, decimal, ap, ◌∙◌, sym, Option, Some, None, IfSome, suc, ◌-◌, add-one, arith}
use Rattle.std.proofs.Math.ListN.{get_or-append}
use Rattle.std.proofs.Math.Seq.{split_at, take-append_seam, drop-append-add, get_or-append_seam}
use Rattle.std.proofs.lemmas.List.{length-append, take_rest}
use Rattle.std.proofs.lemmas.List.Quantifiers.{position-Some}
use Rattle.std.specs.Prelude.{position}
use Rattle.std.specs.List.{position_or_len}
use Rattle.std.specs.Str.Parse.{AllDigits}
use Rattle.std.proofs.lemmas.Bool.Decides.{nat_tests}
use Rattle.std.proofs.lemmas.List.Sums.{position_or_len_is}
use Rattle.std.proofs.lemmas.Str.Parse.{digit_at, numerals_by_value, tells_digits}
use Rattle.std.proofs.lemmas.Fmt.{digits_decimal}
use Rattle.mps_format.specs.HeadText.{is_colon}

digits_of_decimal : (n : ℕ) → n < 2 ^ 64 → AllDigits 10 (decimal n)
digits_of_decimal n fits = digits_decimal (numerals_by_value (AllDigits 10) tells_digits) n fits

no_digit : (byte : ℕ) → 48 ≤ byte → byte ≤ 57 → is_colon byte ≡ false
no_digit byte low high = grind (arith, nat_tests)

at_the_seam : (xs ys : List ℕ) → is_colon (get_or (xs ++ 58 ∷ ys) (length xs) 0) ≡ true
at_the_seam xs ys = ap is_colon (get_or-append_seam xs 58 ys 0)

before_the_seam : (xs ys : List ℕ) (k : ℕ) → AllDigits 10 xs → k < length xs → is_colon (get_or (xs ++ 58 ∷ ys) k 0) ≡ false
before_the_seam xs ys k digits below =
    let range = digit_at xs k digits below in
    ap is_colon (get_or-append xs (58 ∷ ys) 0 k below) ∙ no_digit (get_or xs k 0) range.0 range.1

seam_is_within : (xs ys : List ℕ) → length xs < length (xs ++ 58 ∷ ys)
seam_is_within xs ys = omega (arith, length-append xs (58 ∷ ys))

index_of_seam : (xs ys : List ℕ) → AllDigits 10 xs → position_or_len is_colon (xs ++ 58 ∷ ys) ≡ length xs
index_of_seam xs ys digits =
    position_or_len_is is_colon (xs ++ 58 ∷ ys) (length xs) 0 (omega (arith, seam_is_within xs ys))
    (λ k below. before_the_seam xs ys k digits below) (λ _. at_the_seam xs ys)

-- the first colon after digits is the one that ends them
pub position_of_seam : (xs ys : List ℕ) → AllDigits 10 xs → position is_colon (xs ++ 58 ∷ ys) ≡ Some (length xs)
position_of_seam xs ys digits = grind (arith, nat_tests, index_of_seam xs ys digits, seam_is_within xs ys)

-- what a text of two numbers with a colon between them has, by the place of its first colon
pub record IsCutAt (text : List ℕ) (a b colon : ℕ) : Type 0 where
  pub before : take colon text ≡ decimal a
  pub after : drop (colon + 1) text ≡ decimal b

pub has_colon : (text : List ℕ) (a b : ℕ) → a < 2 ^ 64 → text ≡ decimal a ++ 58 ∷ decimal b
    → position is_colon text ≡ Some (length (decimal a))
has_colon text a b fits e = ap (position is_colon) e ∙ position_of_seam (decimal a) (decimal b) (digits_of_decimal a fits)

pub cut_at_colon : (text : List ℕ) (a b colon : ℕ) → a < 2 ^ 64 → text ≡ decimal a ++ 58 ∷ decimal b → position is_colon text ≡ Some colon
    → IsCutAt text a b colon
cut_at_colon text a b colon fits e p =
    let found = has_colon text a b fits e in
    let place : colon ≡ length (decimal a) = cc in
    record {
      before = ap (λ (n : ℕ). take n text) place ∙ ap (take (length (decimal a))) e ∙ take-append_seam (decimal a) (58 ∷ decimal b);
      after = ap (λ (n : ℕ). drop (n + 1) text) place ∙ ap (drop (length (decimal a) + 1)) e
          ∙ drop-append-add (decimal a) (58 ∷ decimal b) 1;
    }

-- a text is what stands before its first colon, the colon, and the rest
pub joined_at_colon : (text : List ℕ) (colon : ℕ) → position is_colon text ≡ Some colon → text ≡ take colon text ++ 58
    ∷ drop (colon + 1) text
joined_at_colon text colon p =
    let at = position-Some is_colon text colon 0 p in
    let byte : get_or text colon 0 ≡ 58 = grind (arith, nat_tests) in
    rw (add-one) (split_at text colon 0 at.0 ∙ ap (λ (x : ℕ). take colon text ++ x ∷ drop (suc colon) text) byte)

pub sound_pair : (text : List ℕ) (colon : ℕ) (r : Option (ℕ × ℕ)) → position is_colon text ≡ Some colon
    → IfSome r (λ p. (take colon text ≡ decimal p.0) × (take (length text - (colon + 1)) (drop (colon + 1) text) ≡ decimal p.1))
    → IfSome r (λ p. text ≡ decimal p.0 ++ 58 ∷ decimal p.1)
sound_pair text colon (Some p) e h =
    joined_at_colon text colon e ∙ ap (λ (t : List ℕ). t ++ 58 ∷ drop (colon + 1) text) h.0
    ∙ ap (λ (t : List ℕ). decimal p.0 ++ 58 ∷ t) (sym (take_rest text (colon + 1)) ∙ h.1)
sound_pair text colon None e h = h
