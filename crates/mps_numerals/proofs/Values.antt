-- The number that digits write, digit by digit.
use Rattle.std.proofs.Common.{◌≡◌, ℕ, ◌+◌, ◌*◌, ◌^◌, ◌<◌, ◌≤◌, Some, None, List, [], ◌∷◌, length, drop, get_or, refl, ◌∙◌, ap, sym, subst, add-one, drop-cons, arith, take, take_all, Bool, true, false, nat_lt, Option, if◌then◌else◌}
use Rattle.std.proofs.Math.Nat.{le-mul_of_pos_right, mul-le-mul_left, pow-suc, pow-le-pow_right}
use Rattle.std.proofs.lemmas.Grind.{common_steps}
use Rattle.std.proofs.lemmas.List.Folds.{list_all_more, list_all_at}
use Rattle.mps_numerals.specs.Reading.{value_after, digits_value, digit_of, are_digits, below_word, value_in}

-- the number so far is no larger than the whole
value_grows : (base n : ℕ) (bs : List ℕ) → 1 ≤ base → n ≤ value_after base n bs
value_grows base n [] h = omega arith
value_grows base n (b ∷ bs) h =
    let times : n ≤ n * base = le-mul_of_pos_right n h in omega (arith, times, value_grows base (n * base + digit_of b) bs h)

-- one digit more
pub value_step : (base n i : ℕ) (bs : List ℕ) → i < length bs
    → value_after base n (drop i bs) ≡ value_after base (n * base + digit_of (get_or bs i 0)) (drop (i + 1) bs)
value_step base n i bs h = rw (add-one, drop-cons bs i 0) refl

-- too large with one digit more is too large
pub overflows : (base n i : ℕ) (bs : List ℕ) → 1 ≤ base → i < length bs
    → digits_value base bs ≡ value_after base n (drop i bs)
    → 2 ^ 64 ≤ n * base + digit_of (get_or bs i 0)
    → None ≡ below_word (digits_value base bs)
overflows base n i bs one h e large =
    let grown : n * base + digit_of (get_or bs i 0) ≤ value_after base (n * base + digit_of (get_or bs i 0)) (drop (i + 1) bs)
    = value_grows base (n * base + digit_of (get_or bs i 0)) (drop (i + 1) bs) one in
    let same : digits_value base bs ≡ value_after base (n * base + digit_of (get_or bs i 0)) (drop (i + 1) bs)
    = e ∙ value_step base n i bs h in
    let lt : 2 ^ 64 ≤ digits_value base bs = omega arith in
    grind (arith, common_steps)

-- at the end of the digits
pub all_read : (base n i : ℕ) (bs : List ℕ) → length bs ≤ i → n < 2 ^ 64
    → digits_value base bs ≡ value_after base n (drop i bs)
    → Some n ≡ below_word (digits_value base bs)
all_read base n i bs h fits e =
    let none : drop i bs ≡ [] = grind (arith, common_steps) in
    let same : digits_value base bs ≡ n = e ∙ ap (value_after base n) none in
    rw same (grind (arith, common_steps))

-- ---- few digits

-- one digit more of a base up to 16
pub fits_more : (base n digit i : ℕ) → base ≤ 16 → digit < base → n < 16 ^ i → n * base + digit < 16 ^ (i + 1)
fits_more base n digit i some small fits =
    let most : n * base ≤ n * 16 = mul-le-mul_left n some in
    subst (λ (k : ℕ). n * base + digit < 16 ^ k) (sym (add-one i)) (omega (arith, most, fits, small, some, pow-suc 16 i))

-- 15 digits write no number that is too large
pub few_fit : (i : ℕ) → i ≤ 15 → 16 ^ i ≤ 2 ^ 60
few_fit i few = pow-le-pow_right {n = 16} (omega arith) few

-- what is not below is at least
pub at_least : (a b : ℕ) → (a < b → ⊥) → b ≤ a
at_least a b h = omega arith

-- ---- digit by digit

-- digits up to one more
pub digits_more : (base i : ℕ) (bs : List ℕ) → i < length bs → are_digits base (take i bs) ≡ true → digit_of (get_or bs i 0) < base
    → are_digits base (take (i + 1) bs) ≡ true
digits_more base i bs within seen lt =
    let test : nat_lt (digit_of (get_or bs i 0)) base ≡ true = grind (arith, common_steps) in
    list_all_more (λ b. nat_lt (digit_of b) base) bs i 0 within ∙ rw (seen, test) refl

-- a byte that is no digit
pub no_digit : (base i : ℕ) (bs : List ℕ) → i < length bs → base ≤ digit_of (get_or bs i 0) → None ≡ value_in base bs
no_digit base i bs within le =
    let test : nat_lt (digit_of (get_or bs i 0)) base ≡ false = grind (arith, common_steps) in
    let none : are_digits base bs ≡ false = list_all_at (λ b. nat_lt (digit_of b) base) bs i 0 within test in
    rw none refl

-- a number that is too large, of digits or not
pub too_large : (base : ℕ) (bs : List ℕ) → None ≡ below_word (digits_value base bs) → None ≡ value_in base bs
too_large base bs large = either (are_digits base bs) (below_word (digits_value base bs)) large
  where
    either : (t : Bool) (x : Option ℕ) → None ≡ x → None ≡ (if t then x else None)
    either true x e = e
    either false x e = refl

-- all were digits
pub all_digits : (base i : ℕ) (bs : List ℕ) (r : Option ℕ) → length bs ≤ i → are_digits base (take i bs) ≡ true
    → r ≡ below_word (digits_value base bs) → r ≡ value_in base bs
all_digits base i bs r over seen e =
    let all : are_digits base bs ≡ true = ap (are_digits base) (sym (take_all i bs over)) ∙ seen in
    rw all e
