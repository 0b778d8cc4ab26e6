-- Bits that are cleared in one word of a row, and how many were set.
use Rattle.std.proofs.Common.{ℕ, zero, suc, ◌+◌, ◌-◌, ◌*◌, ◌/◌, ◌%◌, ◌^◌, ◌<◌, ◌≤◌, ◌≡◌, ◌≢◌, ◌&&◌, Bool, true, false, not, eqb, min, List, length, get_or, set, bit_and, refl, sym, ap, ◌∙◌, arith, w64, get_or-set_same, get_or-set_other}
use Rattle.std.specs.Int.{bit_at, bit_not}
use Rattle.std.specs.Int.RustNames.{count_ones}
use Rattle.std.proofs.lemmas.Bool.{true≢false, false≢true}
use Rattle.std.proofs.lemmas.Nat.Bits.{bit_at-lt, bit_at_and, bit_at_not}
use Rattle.std.specs.Prelude.{if◌then◌else◌}
use Rattle.mps_bits.specs.OpenRuns.{is_one, is_one_unless}
use Rattle.mps_bits.specs.Row.{bit_in, sum_over}
use Rattle.mps_bits.proofs.Row.{sum_over-ones, sum_over-add, sum_over_same}

-- the bit of a word of the row
pub bit_in_row : (words : List ℕ) (at k : ℕ) → k < 64 → bit_in words (64 * at + k) ≡ bit_at (get_or words at 0) k
unfolding bit_in
bit_in_row words at k within =
    let row : (64 * at + k) / 64 ≡ at = omega arith in
    let column : (64 * at + k) % 64 ≡ k = omega arith in
    ap (λ (j : ℕ). bit_at (get_or words j 0) ((64 * at + k) % 64)) row ∙ ap (λ (j : ℕ). bit_at (get_or words at 0) j) column

sum_of_both : (f g h : ℕ → ℕ) (from n : ℕ) → ((i : ℕ) → from ≤ i → i < from + n → f i + g i ≡ h i)
    → sum_over f from n + sum_over g from n ≡ sum_over h from n
unfolding sum_over
sum_of_both f g h from zero both = omega arith
sum_of_both f g h from (suc n) both =
    omega (
      arith,
      both from (omega arith) (omega arith),
      sum_of_both f g h (suc from) n
          (λ i above below. both i (omega arith) (omega arith)),
    )

module _ (words : List ℕ) (at mask : ℕ) (within : at < length words) (fits : mask < 2 ^ 64) where
  abbrev cleared : List ℕ
  cleared = set words at (bit_and (get_or words at 0) (bit_not w64 mask))

  left_bit : (k : ℕ) → k < 64 → bit_at (bit_and (get_or words at 0) (bit_not w64 mask)) k
      ≡ min (bit_at (get_or words at 0) k) (1 - bit_at mask k)
  left_bit k h =
      bit_at_and (get_or words at 0) (bit_not w64 mask) k
      ∙ ap (λ (x : ℕ). min (bit_at (get_or words at 0) k) x) (bit_at_not w64 mask k fits h)

  pub cleared_inside : (k : ℕ) → k < 64
      → bit_in (set words at (bit_and (get_or words at 0) (bit_not w64 mask))) (64 * at + k)
      ≡ min (bit_in words (64 * at + k)) (1 - bit_at mask k)
  cleared_inside k h =
      bit_in_row cleared at k h
      ∙ ap (λ (x : ℕ). bit_at x k) (get_or-set_same words at (bit_and (get_or words at 0) (bit_not w64 mask)) 0 within)
      ∙ left_bit k h ∙ ap (λ (x : ℕ). min x (1 - bit_at mask k)) (sym (bit_in_row words at k h))

  pub cleared_outside : (i : ℕ) → i / 64 ≢ at → bit_in (set words at (bit_and (get_or words at 0) (bit_not w64 mask))) i ≡ bit_in words i
  unfolding bit_in
  cleared_outside i other =
      ap (λ (x : ℕ). bit_at x (i % 64)) (get_or-set_other words at (i / 64) (bit_and (get_or words at 0) (bit_not w64 mask)) 0 other)

  -- the bits of the word that are left and those that were cleared are all
  in_word : bit_and (get_or words at 0) mask < 2 ^ 64
      → sum_over (bit_in cleared) (64 * at) 64 + count_ones (bit_and (get_or words at 0) mask) ≡ sum_over (bit_in words) (64 * at) 64
  in_word few =
      let gone = bit_and (get_or words at 0) mask in
      let shifted = λ (i : ℕ). let e : 0 + i ≡ i = omega arith in e in
      let after = sum_over_same (bit_in cleared) (bit_at (bit_and (get_or words at 0) (bit_not w64 mask))) (64 * at) 0 64 (λ i h.
      bit_in_row cleared at i h
      ∙ ap (λ (x : ℕ). bit_at x i) (get_or-set_same words at (bit_and (get_or words at 0) (bit_not w64 mask)) 0 within)
      ∙ ap (λ (k : ℕ). bit_at (bit_and (get_or words at 0) (bit_not w64 mask)) k) (sym (shifted i)))
      in
      let before = sum_over_same (bit_in words) (bit_at (get_or words at 0)) (64 * at) 0 64 (λ i h.
      bit_in_row words at i h ∙ ap (λ (k : ℕ). bit_at (get_or words at 0) k) (sym (shifted i)))
      in
      let both = sum_of_both (bit_at (bit_and (get_or words at 0) (bit_not w64 mask))) (bit_at gone) (bit_at (get_or words at 0)) 0 64
      (λ i above below.
      omega (arith, left_bit i (omega arith), bit_at_and (get_or words at 0) mask i, bit_at-lt (get_or words at 0) i, bit_at-lt mask i))
      in
      omega (arith, after, before, both, sum_over-ones 64 gone few)

  pub cleared_count : (n : ℕ) → 64 * (at + 1) ≤ n → bit_and (get_or words at 0) mask < 2 ^ 64
      → sum_over (bit_in (set words at (bit_and (get_or words at 0) (bit_not w64 mask)))) 0 n + count_ones
      (bit_and (get_or words at 0) mask)
      ≡ sum_over (bit_in words) 0 n
  cleared_count n room few =
      let low = 64 * at in
      let rest = n - 64 * (at + 1) in
      let whole : low + (64 + rest) ≡ n = omega arith in
      let start : 0 + low ≡ low = omega arith in
      let split = λ (f : ℕ → ℕ).
      let parts : sum_over f 0 n ≡ sum_over f 0 low + (sum_over f low 64 + sum_over f (low + 64) rest) =
      ap (λ (k : ℕ). sum_over f 0 k) (sym whole) ∙ sum_over-add f 0 low (64 + rest)
      ∙ ap (λ (k : ℕ). sum_over f 0 low + k) (ap (λ (k : ℕ). sum_over f k (64 + rest)) start ∙ sum_over-add f low 64 rest)
      in parts
      in
      let below = sum_over_same (bit_in cleared) (bit_in words) 0 0 low (λ i h. cleared_outside (0 + i) (λ e. omega arith)) in
      let above =
      sum_over_same (bit_in cleared) (bit_in words) (low + 64) (low + 64) rest (λ i h. cleared_outside (low + 64 + i) (λ e. omega arith))
      in
      omega (arith, split (bit_in cleared), split (bit_in words), below, above, in_word few)

-- ---- the bits of one word that are clear in another

one_unless : (a b : ℕ) → a < 2 → b < 2 → eqb (min a (1 - b)) 1 ≡ (eqb a 1 && not (eqb b 1))
one_unless zero zero few few' = refl
one_unless zero (suc zero) few few' = refl
one_unless (suc zero) zero few few' = refl
one_unless (suc zero) (suc zero) few few' = refl
one_unless (suc (suc a)) b few few' = absurd (omega (arith, few))
one_unless a (suc (suc b)) few few' = absurd (omega (arith, few'))

pub unless_bit : (words others : List ℕ) (at i : ℕ) → i < 64 → get_or others at 0 < 2 ^ 64
    → is_one (bit_and (get_or words at 0) (bit_not w64 (get_or others at 0))) i ≡ is_one_unless words others (64 * at) i
unless_bit words others at i within fits =
    let a = get_or words at 0 in
    let b = get_or others at 0 in
    ap (λ (x : ℕ). eqb x 1) (bit_at_and a (bit_not w64 b) i ∙ ap (λ (x : ℕ). min (bit_at a i) x) (bit_at_not w64 b i fits within))
    ∙ one_unless (bit_at a i) (bit_at b i) (bit_at-lt a i) (bit_at-lt b i)
    ∙ ap (λ (x : ℕ). eqb x 1 && not (eqb (bit_at b i) 1)) (sym (bit_in_row words at i within))
    ∙ ap (λ (x : ℕ). eqb (bit_in words (64 * at + i)) 1 && not (eqb x 1)) (sym (bit_in_row others at i within))

-- a bit that is cleared where a mask has it
pub cleared_bit : (old mask : ℕ) (b : Bool) → old < 2 → mask < 2 → eqb mask 1 ≡ b → min old (1 - mask) ≡ (if b then 0 else old)
cleared_bit old zero true few few' is = absurd (false≢true is)
cleared_bit old zero false few few' is = omega (arith, few)
cleared_bit old (suc zero) true few few' is = omega arith
cleared_bit old (suc zero) false few few' is = absurd (true≢false is)
cleared_bit old (suc (suc mask)) b few few' is = absurd (omega (arith, few'))
