-- A set that meets a zone goes on to meet it with more zones.
use Rattle.std.proofs.Common.{◌≡◌, ◌∙◌, ℕ, zero, suc, ◌*◌, ◌^◌, true, refl, sym, ap, subst, inl, inr, arith, min, max}
use Rattle.std.proofs.lemmas.Bool.{cases_Bool, eqb-true, false≢true}
use Rattle.std.proofs.lemmas.Nat.{and_comm, or_comm}
use Rattle.std.proofs.lemmas.Nat.Bits.{bit_at_and, bit_at_or, bit_at-zero, bit_at-pow_same, and_pow}
use Rattle.std.specs.Int.{bit_at}
use Rattle.std.specs.Prelude.{bit_and, bit_or, not, ◌==◌}
use Rattle.mps_base.specs.Zones.{zones_meet, zone_bit}

none_times : (n : ℕ) → 0 * n ≡ 0
none_times n = omega arith

none_of_min : (n : ℕ) → min 1 n ≡ 0 → n ≡ 0
none_of_min zero e = refl
none_of_min (suc n) e = absurd (omega (arith, e))

none_of_max : (m n : ℕ) → max m n ≡ 0 → m ≡ 0
none_of_max zero n e = refl
none_of_max (suc m) zero e = absurd (omega (arith, e))
none_of_max (suc m) (suc n) e = absurd (omega (arith, e))

-- a set that doesn't meet a zone has no bit of it
no_bit : (a k : ℕ) → (bit_and (zone_bit k) a == 0) ≡ true → bit_at a k ≡ 0
no_bit a k z =
    none_of_min (bit_at a k)
    (ap (λ n. min n (bit_at a k)) (sym (bit_at-pow_same k))
    ∙ sym (bit_at_and (2 ^ k) a k)
    ∙ ap (λ n. bit_at n k) (eqb-true (bit_and (2 ^ k) a) 0 z)
    ∙ bit_at-zero k)

-- a set that has the bit of a zone meets it
pub has_zone : (a k : ℕ) → bit_at a k ≡ 1 → zones_meet (zone_bit k) a ≡ true
has_zone a k bit = elim (cases_Bool (bit_and (zone_bit k) a == 0)) [
  | inl z ↦ absurd (omega (arith, no_bit a k z, bit))
  | inr nz ↦ ap not nz
]

pub own_zone : (k : ℕ) → zones_meet (zone_bit k) (zone_bit k) ≡ true
own_zone k = has_zone (zone_bit k) k (bit_at-pow_same k)

-- a set that meets a zone has a bit of it
has_bit : (a k : ℕ) → zones_meet (zone_bit k) a ≡ true → bit_at a k ≡ 0 → ⊥
has_bit a k h bit =
    let none : bit_and (2 ^ k) a ≡ 0 =
    and_comm (2 ^ k) a ∙ and_pow a k ∙ ap (λ (n : ℕ). n * 2 ^ k) bit ∙ none_times (2 ^ k)
    in
    false≢true (ap (λ (n : ℕ). not (n == 0)) (sym none) ∙ h)

pub more_zones : (a b k : ℕ) → zones_meet (zone_bit k) a ≡ true → zones_meet (zone_bit k) (bit_or a b) ≡ true
more_zones a b k h = elim (cases_Bool (bit_and (zone_bit k) (bit_or a b) == 0)) [
  | inl z ↦
      absurd (has_bit a k h (none_of_max (bit_at a k) (bit_at b k) (sym (bit_at_or a b k) ∙ no_bit (bit_or a b) k z)))
  | inr nz ↦ ap not nz
]

pub zones_before : (a b k : ℕ) → zones_meet (zone_bit k) b ≡ true → zones_meet (zone_bit k) (bit_or a b) ≡ true
zones_before a b k h = ap (λ z. zones_meet (zone_bit k) z) (or_comm a b) ∙ more_zones b a k h

some_of_min : (m n : ℕ) → min m n ≡ 0 → (m ≡ 0 → ⊥) → n ≡ 0
some_of_min zero n e some = absurd (some refl)
some_of_min (suc m) zero e some = refl
some_of_min (suc m) (suc n) e some = absurd (omega (arith, e))

-- two sets that have a zone in common meet
pub in_both : (a b k : ℕ) → zones_meet (zone_bit k) a ≡ true → zones_meet (zone_bit k) b ≡ true → zones_meet a b ≡ true
in_both a b k in_a in_b = elim (cases_Bool (bit_and a b == 0)) [
  | inl z ↦
      let none : min (bit_at a k) (bit_at b k) ≡ 0 =
      sym (bit_at_and a b k) ∙ ap (λ n. bit_at n k) (eqb-true (bit_and a b) 0 z) ∙ bit_at-zero k
      in
      absurd (has_bit b k in_b (some_of_min (bit_at a k) (bit_at b k) none (has_bit a k in_a)))
  | inr nz ↦ ap not nz
]

-- each zone of a set is one of another
abbrev pub AreZonesOf : (zones all : ℕ) → Type 0
AreZonesOf zones all = (k : ℕ) → zones_meet (zone_bit k) zones ≡ true → zones_meet (zone_bit k) all ≡ true

-- so it is where nothing is new in them
pub nothing_new : (zones all : ℕ) → bit_or zones all ≡ all → AreZonesOf zones all
nothing_new zones all has k h =
    let P : ℕ → Type 0 = λ z. zones_meet (zone_bit k) z ≡ true in subst P has (more_zones zones all k h)
