-- Bits that are all set.
use Rattle.std.proofs.Common.{ℕ, zero, suc, eqb, ◌+◌, ◌-◌, ◌*◌, ◌^◌, ◌<◌, ◌≤◌, ◌≡◌, Bool, true, false, not, Option, Some, None, is_some, MatchOption, List, get_or, refl, sym, ap, ◌∙◌, inl, inr, arith}
use Rattle.std.specs.Int.{bit_at}
use Rattle.std.proofs.lemmas.Bool.{cases_eq, true≢false, false≢true}
use Rattle.std.proofs.lemmas.Nat.Bits.{bit_at-lt, bit_at_ones, same_from_bits_below}
use Rattle.mps_bits.specs.OpenRuns.{is_one}
use Rattle.mps_bits.specs.Row.{bit_in, IsClear, IsSet, IsLowestRun}
use Rattle.mps_bits.proofs.Row.{bit_in-lt}
use Rattle.mps_bits.proofs.Clearing.{bit_in_row}

-- ---- one word

pub set_in_full : (words : List ℕ) (at i : ℕ) → get_or words at 0 ≡ 2 ^ 64 - 1 → 64 * at ≤ i → i < 64 * (at + 1) → bit_in words i ≡ 1
set_in_full words at i full above below =
    let same : 64 * at + (i - 64 * at) ≡ i = omega arith in
    ap (bit_in words) (sym same) ∙ bit_in_row words at (i - 64 * at) (omega arith)
    ∙ ap (λ (w : ℕ). bit_at w (i - 64 * at)) full
    ∙ bit_at_ones 64 (i - 64 * at) (omega arith)

pub full_of_set : (words : List ℕ) (at : ℕ) → get_or words at 0 < 2 ^ 64 → IsSet words (64 * at) (64 * (at + 1))
    → get_or words at 0 ≡ 2 ^ 64 - 1
full_of_set words at fits set =
    same_from_bits_below 64 (get_or words at 0) (2 ^ 64 - 1) fits (omega arith) (λ i h.
    sym (bit_in_row words at i h) ∙ set (64 * at + i) (omega arith) (omega arith) ∙ sym (bit_at_ones 64 i h))

-- two words with the same bits are the same
pub same_by_bits : (a b : ℕ) → a < 2 ^ 64 → b < 2 ^ 64 → ((k : ℕ) → k < 64 → is_one a k ≡ is_one b k) → a ≡ b
same_by_bits a b fits fits' same =
    same_from_bits_below 64 a b fits fits' (λ k within.
    same_bit (bit_at a k) (bit_at b k) (bit_at-lt a k) (bit_at-lt b k) (same k within))
  where
    same_bit : (x y : ℕ) → x < 2 → y < 2 → eqb x 1 ≡ eqb y 1 → x ≡ y
    same_bit zero zero few few' same = refl
    same_bit zero (suc zero) few few' same = absurd (false≢true same)
    same_bit (suc zero) zero few few' same = absurd (true≢false same)
    same_bit (suc zero) (suc zero) few few' same = refl
    same_bit zero (suc (suc y)) few few' same = absurd (omega (arith, few'))
    same_bit (suc zero) (suc (suc y)) few few' same = absurd (omega (arith, few'))
    same_bit (suc (suc x)) y few few' same = absurd (omega (arith, few))

-- ---- where no bit is clear, as a search for one finds

set_unless_clear : (words : List ℕ) (i : ℕ) → ¬ IsClear words i (i + 1) → bit_in words i ≡ 1
set_unless_clear words i none =
    elim (cases_eq (bit_in words i) 1) [
      | inl is ↦ is
      | inr other ↦
          let clear : bit_in words i ≡ 0 = omega (arith, bit_in-lt words i) in
          absurd (none (λ j from to. let same : j ≡ i = omega arith in ap (bit_in words) same ∙ clear))
    ]

module _
    (words : List ℕ) (from to : ℕ)
  where
    -- what a search for one clear bit says
    abbrev Found : Option ℕ → Type 0
    Found found = MatchOption found ((p : ℕ) → from ≤ p → p + 1 ≤ to → ¬ IsClear words p (p + 1)) (λ p. IsLowestRun words from to 1 p)

    pub set_if_none : (found : Option ℕ) (none : Bool) → Found found → is_some found ≡ not none → none ≡ true → IsSet words from to
    set_if_none None none search is known = λ i above below. set_unless_clear words i (search i above (omega arith))
    set_if_none (Some p) none search is known = absurd (true≢false (is ∙ ap not known))

    pub none_if_set : (found : Option ℕ) (none : Bool) → Found found → is_some found ≡ not none → IsSet words from to → none ≡ true
    none_if_set None true search is set = refl
    none_if_set None false search is set = absurd (false≢true is)
    none_if_set (Some p) none search is set =
        absurd (omega (arith, set p search.above (omega (arith, search.below)), search.clear p (omega arith) (omega arith)))
