-- Sets of zones: what meets a part meets the whole, and the zone of an address is among those of the run of grains in which it lies.
use Rattle.std.proofs.Common.{◌≡◌, inl, inr, ℕ, zero, suc, ◌+◌, ◌*◌, ◌%◌, ◌^◌, ◌<◌, ◌≤◌, Bool, true, not, ◌||◌, ◌==◌, bit_and, bit_or, sym, ◌∙◌, ap, arith}
use Rattle.std.specs.Int.Bits.{or_add_and, or_zero_l}
use Rattle.std.proofs.lemmas.Grind.{common_steps}
use Rattle.std.proofs.lemmas.Bool.{cases_eq, or_left, or_right}
use Rattle.std.proofs.lemmas.Nat.{and_le_l, and_le_r, pow_pos}
use Rattle.std.proofs.lemmas.Nat.Bits.{and_pow, bit_at-pow_same, bit_at_and, bit_at_or, same_from_bits}
use Rattle.mps_base.specs.Zones.{zone_bit, zones_meet, zones_from}

and_over_or : (a b z : ℕ) → bit_and (bit_or a b) z ≡ bit_or (bit_and a z) (bit_and b z)
and_over_or a b z = same_from_bits (bit_and (bit_or a b) z) (bit_or (bit_and a z) (bit_and b z)) (λ i.
    omega (
      arith,
      bit_at_and (bit_or a b) z i,
      bit_at_or a b i,
      bit_at_or (bit_and a z) (bit_and b z) i,
      bit_at_and a z i,
      bit_at_and b z i,
    ))

and_swapped : (a b : ℕ) → bit_and a b ≡ bit_and b a
and_swapped a b = same_from_bits (bit_and a b) (bit_and b a) (λ i. omega (arith, bit_at_and a b i, bit_at_and b a i))

either_nonzero : (x y : ℕ) → not (bit_or x y == 0) ≡ (not (x == 0) || not (y == 0))
either_nonzero zero y = ap (λ (n : ℕ). not (n == 0)) (or_zero_l y)
either_nonzero (suc x) y = grind (arith, common_steps, or_add_and (suc x) y, and_le_l (suc x) y, and_le_r (suc x) y)

-- a union meets what one of its two parts meets
pub union_meets : (a b z : ℕ) → zones_meet (bit_or a b) z ≡ (zones_meet a z || zones_meet b z)
union_meets a b z = ap (λ (n : ℕ). not (n == 0)) (and_over_or a b z) ∙ either_nonzero (bit_and a z) (bit_and b z)

pub zones_meet-swapped : (a b : ℕ) → zones_meet a b ≡ zones_meet b a
zones_meet-swapped a b = ap (λ (n : ℕ). not (n == 0)) (and_swapped a b)

pub meets_union : (z a b : ℕ) → zones_meet z (bit_or a b) ≡ (zones_meet z a || zones_meet z b)
meets_union z a b =
    zones_meet-swapped z (bit_or a b) ∙ union_meets a b z
    ∙ ap (λ (x : Bool). x || zones_meet b z) (zones_meet-swapped a z) ∙ ap (λ (x : Bool). zones_meet z a || x) (zones_meet-swapped b z)

pub meets_first : (z a b : ℕ) → zones_meet z a ≡ true → zones_meet z (bit_or a b) ≡ true
meets_first z a b h = meets_union z a b ∙ or_left (zones_meet z a) (zones_meet z b) h

pub meets_second : (z a b : ℕ) → zones_meet z b ≡ true → zones_meet z (bit_or a b) ≡ true
meets_second z a b h = meets_union z a b ∙ or_right (zones_meet z a) (zones_meet z b) h

-- ---- zones of runs of grains

nonzero_pow : (k : ℕ) → not (1 * 2 ^ k == 0) ≡ true
nonzero_pow k = grind (arith, common_steps, pow_pos k)

meets_itself : (k : ℕ) → zones_meet (zone_bit k) (zone_bit k) ≡ true
meets_itself k =
    ap (λ (n : ℕ). not (n == 0)) (and_pow (2 ^ k) k ∙ ap (λ (n : ℕ). n * 2 ^ k) (bit_at-pow_same k)) ∙ nonzero_pow k

-- the zone of a grain is among those of n grains from some grain on, where it is one of them
pub grain_meets : (count from grain : ℕ) → from ≤ grain → grain < from + count
    → zones_meet (zone_bit (grain % 64)) (zones_from count from) ≡ true
grain_meets zero from grain low high = absurd (omega (arith, low, high))
grain_meets (suc count) from grain low high =
    elim (cases_eq grain from) [
      | inl same ↦
          meets_first (zone_bit (grain % 64)) (zone_bit (from % 64)) (zones_from count (from + 1))
          (ap (λ (g : ℕ). zones_meet (zone_bit (grain % 64)) (zone_bit (g % 64))) (sym same) ∙ meets_itself (grain % 64))
      | inr other ↦
          meets_second (zone_bit (grain % 64)) (zone_bit (from % 64)) (zones_from count (from + 1))
          (grain_meets count (from + 1) grain (omega (arith, low, other)) (omega (arith, high)))
    ]
