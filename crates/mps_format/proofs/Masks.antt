-- The bits of a mask of 32 bits from an index on.
use Rattle.std.proofs.Common.{◌≡◌, ℕ, ◌+◌, ◌-◌, ◌/◌, ◌%◌, ◌^◌, ◌<◌, ◌≤◌, ap, ◌∙◌, sym, arith, w32}
use Rattle.std.specs.Int.{bit_at, trailing_zeros}
use Rattle.std.proofs.lemmas.Nat.{shr-shr}
use Rattle.std.proofs.lemmas.Nat.Bits.{bit_at_above, bit_at-zero, bit_at-trailing_zeros}

-- the bits from an index on, shifted down
pub bit_at-shifted : (mask from j : ℕ) → bit_at (mask / 2 ^ from) j ≡ bit_at mask (from + j)
bit_at-shifted mask from j = ap (λ n. n % 2) (shr-shr mask from j)

-- an index that isn't below another is their difference above it
above : (from j : ℕ) → from ≤ j → from + (j - from) ≡ j
above from j le = omega arith

pub bit_at_from : (mask from j : ℕ) → from ≤ j → bit_at mask j ≡ bit_at (mask / 2 ^ from) (j - from)
bit_at_from mask from j le = sym (bit_at-shifted mask from (j - from) ∙ ap (λ i. bit_at mask i) (above from j le))

pub clear_past_32 : (mask from j : ℕ) → mask < 2 ^ 32 → 32 ≤ from → from ≤ j → bit_at mask j ≡ 0
clear_past_32 mask from j fits high le = bit_at_above mask 32 j fits (omega arith)

pub clear_from : (mask from j : ℕ) → mask / 2 ^ from ≡ 0 → from ≤ j → bit_at mask j ≡ 0
clear_from mask from j none le = bit_at_from mask from j le ∙ ap (λ n. bit_at n (j - from)) none ∙ bit_at-zero (j - from)

-- the lowest 1 from an index on
pub record IsFirstBit (mask from k : ℕ) : Type 0 where
  pub not_before : from ≤ k
  pub is_set : bit_at mask k ≡ 1
  pub clear_between : (j : ℕ) → from ≤ j → j < k → bit_at mask j ≡ 0

pub first_from : (mask from : ℕ) → 0 < mask / 2 ^ from → mask / 2 ^ from < 2 ^ 32
    → IsFirstBit mask from (from + trailing_zeros w32 (mask / 2 ^ from))
first_from mask from some fits =
    let t = bit_at-trailing_zeros w32 (mask / 2 ^ from) some fits in
    record {
      not_before = omega arith;
      is_set = sym (bit_at-shifted mask from (trailing_zeros w32 (mask / 2 ^ from))) ∙ t.1;
      clear_between = λ j le lt. bit_at_from mask from j le ∙ t.2 (j - from) (omega arith);
    }
