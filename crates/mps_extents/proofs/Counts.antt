-- How many bits of a table are set, where some are cleared.
use Rattle.std.proofs.Common.{ℕ, zero, suc, ◌+◌, ◌-◌, ◌<◌, ◌≤◌, ◌≡◌, Bool, true, false, cond, List, ◌++◌, length, take, drop, replicate, set, refl, sym, ap, ◌∙◌, inl, inr, arith}
use Rattle.std.specs.List.{count_by}
use Rattle.std.proofs.lemmas.Bool.{cases_lt}
use Rattle.std.proofs.lemmas.List.Sums.{sum_by-cons, sum_by-set, sum_by-append}
use Rattle.mps_bits.specs.Table.{bit, with_range}
use Rattle.mps_bits.proofs.Ranges.{length-with_range}
use Rattle.mps_extents.proofs.WrittenBits.{bit_is, same_bits, bit-with_range_inside, bit-with_range_outside}

abbrev pub set_bits : List Bool → ℕ
set_bits bits = count_by (λ b. b) bits

pub one_cleared : (bits : List Bool) (at : ℕ) → at < length bits → bit bits at ≡ true → set_bits (set bits at false) + 1 ≡ set_bits bits
one_cleared bits at within is =
    let one : cond (bit bits at) 1 0 ≡ 1 = ap {B = ℕ} (λ (b : Bool). cond b 1 0) is in
    let was = ap {B = ℕ} (λ (b : Bool). cond b 1 0) (bit_is bits at) in
    omega (arith, sum_by-set (λ (b : Bool). cond b 1 0) bits at false false within, one, was)

all_set : (n : ℕ) → set_bits (replicate n true) ≡ n
all_set zero = refl
all_set (suc n) =
    let step : set_bits (replicate (suc n) true) ≡ 1 + set_bits (replicate n true) =
    sum_by-cons (λ (b : Bool). cond b 1 0) true (replicate n true)
    in
    omega (arith, step, all_set n)

none_set : (n : ℕ) → set_bits (replicate n false) ≡ 0
none_set zero = refl
none_set (suc n) = none_set n

in_parts : (bits : List Bool) (from to : ℕ) (value : Bool)
    → set_bits (with_range bits from to value) ≡ set_bits (take from bits) +
    (set_bits (replicate (to - from) value) + set_bits (drop to bits))
unfolding with_range
in_parts bits from to value =
    let front = take from bits in
    let middle : List Bool = replicate (to - from) value in
    let rest = drop to bits in
    omega (
      arith,
      sum_by-append (λ (b : Bool). cond b 1 0) (front ++ middle) rest,
      sum_by-append (λ (b : Bool). cond b 1 0) front middle,
    )

-- all bits of a range are cleared that were set
pub range_cleared : (bits : List Bool) (from to : ℕ) → from ≤ to → to ≤ length bits
    → ((i : ℕ) → from ≤ i → i < to → bit bits i ≡ true)
    → set_bits (with_range bits from to false) + (to - from) ≡ set_bits bits
range_cleared bits from to ordered within all =
    let size = length-with_range bits from to true ordered within in
    let same : with_range bits from to true ≡ bits =
    same_bits (with_range bits from to true) bits size (λ i h.
    elim (cases_lt i from) [
      | inl below ↦ bit-with_range_outside bits from to i true ordered within (inl below)
      | inr above ↦ elim (cases_lt i to) [
        | inl under ↦ bit-with_range_inside bits from to i true ordered within above under ∙ sym (all i above under)
        | inr past ↦ bit-with_range_outside bits from to i true ordered within (inr past)
      ]
    ])
    in
    omega (
      arith,
      in_parts bits from to true,
      in_parts bits from to false,
      all_set (to - from),
      none_set (to - from),
      ap set_bits same,
    )
