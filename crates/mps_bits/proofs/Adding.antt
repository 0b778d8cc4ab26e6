-- Runs of bits by a sum: what is carried to a bit tells whether a run goes on there.
use Rattle.std.proofs.Common.{ℕ, zero, suc, ◌+◌, ◌-◌, ◌*◌, ◌/◌, ◌%◌, ◌^◌, ◌<◌, ◌≤◌, ◌≡◌, ◌||◌, ◌&&◌, Bool, true, false, not, cond, eqb, bit_xor, refl, sym, ap, ◌∙◌, arith, w64}
use Rattle.std.specs.Int.{bit_at, bit_not}
use Rattle.std.proofs.lemmas.Bool.{true≢false, eq-eqb}
use Rattle.std.proofs.lemmas.Nat.{shr-shr}
use Rattle.std.proofs.lemmas.Nat.Bits.{bit_at-lt, bit_at_xor, bit_at_not, bit_at_cat_low}
use Rattle.mps_bits.specs.OpenRuns.{goes_on, in_run, is_one, AreRunsApart}

-- ---- the bits of a sum of two numbers and what is carried to the lowest

unfoldable carry : (a b first : ℕ) → ℕ → ℕ
carry a b first zero = first
carry a b first (suc i) = (bit_at a i + bit_at b i + carry a b first i) / 2

half : (n i : ℕ) → n / 2 ^ suc i ≡ n / 2 ^ i / 2
half n i =
    let next : i + 1 ≡ suc i = omega arith in
    ap (λ (k : ℕ). n / 2 ^ k) (sym next) ∙ sym (shr-shr n i 1)

sum_shifted : (a b first i : ℕ) → (a + b + first) / 2 ^ i ≡ a / 2 ^ i + b / 2 ^ i + carry a b first i
unfolding carry
sum_shifted a b first zero = omega arith
sum_shifted a b first (suc i) =
    omega (arith, half (a + b + first) i, half a i, half b i, sum_shifted a b first i)

bit_of_sum : (a b first i : ℕ) → bit_at (a + b + first) i ≡ (bit_at a i + bit_at b i + carry a b first i) % 2
bit_of_sum a b first i = omega (arith, sum_shifted a b first i)

bit_of_rest : (n i : ℕ) → i < 64 → bit_at (n % 2 ^ 64) i ≡ bit_at n i
bit_of_rest n i within =
    let same : n / 2 ^ 64 * 2 ^ 64 + n % 2 ^ 64 ≡ n = omega arith in
    sym (bit_at_cat_low (n / 2 ^ 64) 64 (n % 2 ^ 64) i within) ∙ ap (λ (x : ℕ). bit_at x i) same

-- ---- one bit: of the begins, of the ends, and whether a run goes on

one_carried : (b e : ℕ) (g : Bool) → b < 2 → e < 2 → (b ≡ 1 → g ≡ false)
    → (1 - e + b + cond g 1 0) / 2 ≡ cond ((eqb b 1 || g) && not (eqb e 1)) 1 0
one_carried zero zero false few few' apart = refl
one_carried zero zero true few few' apart = refl
one_carried zero (suc zero) false few few' apart = refl
one_carried zero (suc zero) true few few' apart = refl
one_carried (suc zero) zero false few few' apart = refl
one_carried (suc zero) (suc zero) false few few' apart = refl
one_carried (suc zero) e true few few' apart = absurd (true≢false (apart refl))
one_carried (suc (suc b)) e g few few' apart = absurd (omega (arith, few))
one_carried b (suc (suc e)) g few few' apart = absurd (omega (arith, few'))

one_inside : (b e : ℕ) (g : Bool) → b < 2 → e < 2 → (b ≡ 1 → g ≡ false)
    → eqb (((1 - e + b + cond g 1 0) % 2 + (1 - e)) % 2) 1 ≡ (eqb b 1 || g)
one_inside zero zero false few few' apart = refl
one_inside zero zero true few few' apart = refl
one_inside zero (suc zero) false few few' apart = refl
one_inside zero (suc zero) true few few' apart = refl
one_inside (suc zero) zero false few few' apart = refl
one_inside (suc zero) (suc zero) false few few' apart = refl
one_inside (suc zero) e true few few' apart = absurd (true≢false (apart refl))
one_inside (suc (suc b)) e g few few' apart = absurd (omega (arith, few))
one_inside b (suc (suc e)) g few few' apart = absurd (omega (arith, few'))

not_none : (g : Bool) → not (eqb (cond g 1 0) 0) ≡ g
not_none true = refl
not_none false = refl

-- ---- a number that begins runs, one that ends them, and whether one goes on before the lowest bit

module _
    (begins ends : ℕ) (first : Bool) (fits : begins < 2 ^ 64) (fits' : ends < 2 ^ 64)
    (apart : AreRunsApart first (is_one begins) (is_one ends) 64)
  where
    apart_at : (n : ℕ) → n < 64 → bit_at begins n ≡ 1 → goes_on first (is_one begins) (is_one ends) n ≡ false
    apart_at n within is = apart n within (eq-eqb (bit_at begins n) 1 is)

    carry_is : (n : ℕ) → n ≤ 64 → carry (bit_not w64 ends) begins (cond first 1 0) n
        ≡ cond (goes_on first (is_one begins) (is_one ends) n) 1 0
    unfolding carry goes_on
    carry_is zero within = refl
    carry_is (suc n) within =
        let here : n < 64 = omega arith in
        ap (λ (x : ℕ). (x + bit_at begins n + carry (bit_not w64 ends) begins (cond first 1 0) n) / 2) (bit_at_not w64 ends n fits' here)
        ∙ ap (λ (x : ℕ). (1 - bit_at ends n + bit_at begins n + x) / 2) (carry_is n (omega arith))
        ∙ one_carried (bit_at begins n) (bit_at ends n) (goes_on first (is_one begins) (is_one ends) n) (bit_at-lt begins n)
        (bit_at-lt ends n) (apart_at n here)

    pub bit_inside : (n : ℕ) → n < 64
        → is_one (bit_xor ((bit_not w64 ends + begins + cond first 1 0) % 2 ^ 64) (bit_not w64 ends)) n
        ≡ in_run first (is_one begins) (is_one ends) n
    bit_inside n within =
        let sum = bit_not w64 ends + begins + cond first 1 0 in
        let added : bit_at (sum % 2 ^ 64) n ≡
        (1 - bit_at ends n + bit_at begins n + cond (goes_on first (is_one begins) (is_one ends) n) 1 0) % 2 =
        bit_of_rest sum n within ∙ bit_of_sum (bit_not w64 ends) begins (cond first 1 0) n
        ∙ ap (λ (x : ℕ). (x + bit_at begins n + carry (bit_not w64 ends) begins (cond first 1 0) n) % 2)
        (bit_at_not w64 ends n fits' within)
        ∙ ap (λ (x : ℕ). (1 - bit_at ends n + bit_at begins n + x) % 2) (carry_is n (omega arith))
        in
        ap (λ (x : ℕ). eqb x 1)
        (bit_at_xor (sum % 2 ^ 64) (bit_not w64 ends) n
        ∙ ap (λ (x : ℕ). (x + bit_at (bit_not w64 ends) n) % 2) added
        ∙ ap (λ (x : ℕ). ((1 - bit_at ends n + bit_at begins n + cond (goes_on first (is_one begins) (is_one ends) n) 1 0) % 2 + x) % 2)
        (bit_at_not w64 ends n fits' within))
        ∙ one_inside (bit_at begins n) (bit_at ends n) (goes_on first (is_one begins) (is_one ends) n) (bit_at-lt begins n)
        (bit_at-lt ends n) (apart_at n within)

    pub carried_out : not (eqb ((bit_not w64 ends + begins + cond first 1 0) / 2 ^ 64) 0)
        ≡ goes_on first (is_one begins) (is_one ends) 64
    carried_out =
        let last : (bit_not w64 ends + begins + cond first 1 0) / 2 ^ 64 ≡ cond (goes_on first (is_one begins) (is_one ends) 64) 1 0 =
        omega (arith, sum_shifted (bit_not w64 ends) begins (cond first 1 0) 64, carry_is 64 (omega arith), fits, fits')
        in
        ap (λ (x : ℕ). not (eqb x 0)) last ∙ not_none (goes_on first (is_one begins) (is_one ends) 64)

-- ---- runs in parts

pub goes_on_first : (first : Bool) (begins ends : ℕ → Bool) → goes_on first begins ends 0 ≡ first
unfolding goes_on
goes_on_first first begins ends = refl

pub goes_on_same : (first : Bool) (begins begins' ends ends' : ℕ → Bool) (n : ℕ) → ((i : ℕ) → i < n → begins i ≡ begins' i)
    → ((i : ℕ) → i < n → ends i ≡ ends' i) → goes_on first begins ends n ≡ goes_on first begins' ends' n
unfolding goes_on
goes_on_same first begins begins' ends ends' zero same same' = refl
goes_on_same first begins begins' ends ends' (suc n) same same' =
    let rest =
    goes_on_same first begins begins' ends ends' n (λ i below. same i (omega arith)) (λ i below. same' i (omega arith))
    in
    ap (λ (b : Bool). (b || goes_on first begins ends n) && not (ends n)) (same n (omega arith))
    ∙ ap (λ (b : Bool). (begins' n || b) && not (ends n)) rest
    ∙ ap (λ (b : Bool). (begins' n || goes_on first begins' ends' n) && not b) (same' n (omega arith))

pub goes_on_after : (first : Bool) (begins ends : ℕ → Bool) (m n : ℕ)
    → goes_on first begins ends (m + n) ≡ goes_on (goes_on first begins ends m) (λ i. begins (m + i)) (λ i. ends (m + i)) n
unfolding goes_on
goes_on_after first begins ends m zero =
    let same : m + 0 ≡ m = omega arith in
    ap (λ (k : ℕ). goes_on first begins ends k) same
goes_on_after first begins ends m (suc n) =
    let next : m + suc n ≡ suc (m + n) = omega arith in
    ap (λ (k : ℕ). goes_on first begins ends k) next
    ∙ ap (λ (b : Bool). (begins (m + n) || b) && not (ends (m + n))) (goes_on_after first begins ends m n)
