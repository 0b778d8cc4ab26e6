-- Sets of zones are joined in any order, and fit in 64 bits.
use Rattle.std.proofs.Common.{ℕ, zero, suc, ◌+◌, ◌*◌, ◌/◌, ◌%◌, ◌^◌, ◌<◌, ◌≡◌, List, [], ◌∷◌, bit_or, refl, sym, ap, ◌∙◌, subst, arith}
use Rattle.std.proofs.Math.Pow.{pow-lt}
use Rattle.std.proofs.lemmas.Nat.{or_block, or_lt, shr_split}
use Rattle.mps_base.specs.Run.{Run}
use Rattle.mps_base.specs.Zones.{zones_from, zones_of_runs}

one_bit : (r s t : ℕ) → r < 2 → s < 2 → t < 2 → bit_or (bit_or r s) t ≡ bit_or r (bit_or s t)
one_bit zero zero zero a b c = refl
one_bit zero zero (suc zero) a b c = refl
one_bit zero (suc zero) zero a b c = refl
one_bit zero (suc zero) (suc zero) a b c = refl
one_bit (suc zero) zero zero a b c = refl
one_bit (suc zero) zero (suc zero) a b c = refl
one_bit (suc zero) (suc zero) zero a b c = refl
one_bit (suc zero) (suc zero) (suc zero) a b c = refl
one_bit (suc (suc r)) s t a b c = absurd (omega (arith, a))
one_bit r (suc (suc s)) t a b c = absurd (omega (arith, b))
one_bit r s (suc (suc t)) a b c = absurd (omega (arith, c))

module _ (a b c r s t : ℕ) (small_r : r < 2) (small_s : s < 2) (small_t : t < 2) where
  from_left : bit_or (bit_or (a * 2 ^ 1 + r) (b * 2 ^ 1 + s)) (c * 2 ^ 1 + t)
      ≡ bit_or (bit_or a b) c * 2 ^ 1 + bit_or (bit_or r s) t
  from_left =
      ap (λ (n : ℕ). bit_or n (c * 2 ^ 1 + t)) (or_block 1 a b r s small_r small_s)
      ∙ or_block 1 (bit_or a b) c (bit_or r s) t (or_lt 1 r s small_r small_s) small_t

  from_right : bit_or (a * 2 ^ 1 + r) (bit_or (b * 2 ^ 1 + s) (c * 2 ^ 1 + t))
      ≡ bit_or a (bit_or b c) * 2 ^ 1 + bit_or r (bit_or s t)
  from_right =
      ap (λ (n : ℕ). bit_or (a * 2 ^ 1 + r) n) (or_block 1 b c s t small_s small_t)
      ∙ or_block 1 a (bit_or b c) r (bit_or s t) small_r (or_lt 1 s t small_s small_t)

  both : bit_or (bit_or a b) c ≡ bit_or a (bit_or b c)
      → bit_or (bit_or (a * 2 ^ 1 + r) (b * 2 ^ 1 + s)) (c * 2 ^ 1 + t)
      ≡ bit_or (a * 2 ^ 1 + r) (bit_or (b * 2 ^ 1 + s) (c * 2 ^ 1 + t))
  both same =
      from_left ∙ ap (λ (n : ℕ). n * 2 ^ 1 + bit_or (bit_or r s) t) same
      ∙ ap (λ (n : ℕ). bit_or a (bit_or b c) * 2 ^ 1 + n) (one_bit r s t small_r small_s small_t) ∙ sym from_right

pub or_assoc_below : (k a b c : ℕ) → a < 2 ^ k → b < 2 ^ k → c < 2 ^ k → bit_or (bit_or a b) c ≡ bit_or a (bit_or b c)
or_assoc_below zero zero zero zero la lb lc = refl
or_assoc_below zero (suc a) b c la lb lc = absurd (omega (arith, la))
or_assoc_below zero a (suc b) c la lb lc = absurd (omega (arith, lb))
or_assoc_below zero a b (suc c) la lb lc = absurd (omega (arith, lc))
or_assoc_below (suc k) a b c la lb lc =
    let same = or_assoc_below k (a / 2 ^ 1) (b / 2 ^ 1) (c / 2 ^ 1) (omega (arith, la)) (omega (arith, lb)) (omega (arith, lc)) in
    let halves =
    both (a / 2 ^ 1) (b / 2 ^ 1) (c / 2 ^ 1) (a % 2 ^ 1) (b % 2 ^ 1) (c % 2 ^ 1) (omega arith) (omega arith) (omega arith) same
    in
    let P : (x y z : ℕ) → Type 0 = λ x y z. bit_or (bit_or x y) z ≡ bit_or x (bit_or y z) in
    subst (λ (z : ℕ). P a b z) (shr_split c 1)
    (subst (λ (y : ℕ). P a y (c / 2 ^ 1 * 2 ^ 1 + c % 2 ^ 1)) (shr_split b 1)
    (subst (λ (x : ℕ). P x (b / 2 ^ 1 * 2 ^ 1 + b % 2 ^ 1) (c / 2 ^ 1 * 2 ^ 1 + c % 2 ^ 1)) (shr_split a 1) halves))

pub zones_small : (count grain : ℕ) → zones_from count grain < 2 ^ 64
zones_small zero grain = omega arith
zones_small (suc count) grain =
    or_lt 64 (2 ^ (grain % 64)) (zones_from count (grain + 1)) (pow-lt {i = grain % 64} {j = 64} (omega arith))
    (zones_small count (grain + 1))

pub runs_small : (rs : List Run) → zones_of_runs rs < 2 ^ 64
runs_small [] = omega arith
runs_small (r ∷ rs) = or_lt 64 (zones_from r.count r.from) (zones_of_runs rs) (zones_small r.count r.from) (runs_small rs)
