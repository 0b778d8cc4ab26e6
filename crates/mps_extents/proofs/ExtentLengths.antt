-- How long an extent is: up to the next bit of the table of last words.
use Rattle.std.proofs.Common.{ℕ, ◌+◌, ◌-◌, ◌<◌, ◌≤◌, ◌≡◌, Bool, List, Option, Some, length, ap, ◌∙◌, subst, arith}
use Rattle.mps_bits.specs.Table.{bit, next_set, lowest_from}
use Rattle.mps_bits.proofs.Searches.{IsLowest, found, missing, lowest_cases, lowest_from_is}
use Rattle.mps_extents.specs.Inside.{length_at, words_upto}

-- the next last word at or above a word
abbrev pub IsLastWord : List Bool → ℕ → ℕ → Type 0
IsLastWord ends from last = IsLowest (bit ends) from (length ends - from) last

pub next_last : (ends : List Bool) (from last : ℕ) → IsLastWord ends from last → next_set ends from ≡ Some last
unfolding next_set
next_last ends from last is = lowest_from_is (bit ends) from (length ends - from) last is

pub length_at_is : (ends : List Bool) (from last : ℕ) → IsLastWord ends from last → length_at ends from ≡ last - from + 1
unfolding length_at
length_at_is ends from last is = ap (λ (o : Option ℕ). words_upto from o) (next_last ends from last is)

pub last_of : (ends : List Bool) (from : ℕ) → 0 < length_at ends from → IsLastWord ends from (from + length_at ends from - 1)
unfolding length_at next_set
last_of ends from some =
    elim (lowest_cases (bit ends) from (length ends - from)) [
      | found last is_some is ↦
          let count = ap (λ (o : Option ℕ). words_upto from o) is_some in
          let same : last ≡ from + words_upto from (lowest_from (bit ends) from (length ends - from)) - 1 =
          omega (arith, count, is.above)
          in
          let P : ℕ → Type 0 = λ p. IsLastWord ends from p in
          subst P same is
      | missing is_none none ↦ absurd (omega (arith, ap (λ (o : Option ℕ). words_upto from o) is_none, some))
    ]

-- an extent keeps its length where its words keep their bits
pub length_kept : (ends ends' : List Bool) (from : ℕ) → length ends' ≡ length ends → 0 < length_at ends from
    → ((i : ℕ) → from ≤ i → i < from + length_at ends from → bit ends' i ≡ bit ends i) → length_at ends' from ≡ length_at ends from
length_kept ends ends' from size some same =
    let is = last_of ends from some in
    let last = from + length_at ends from - 1 in
    let is' : IsLastWord ends' from last = record {
      above = is.above;
      below = omega (arith, is.below, size);
      passes = same last is.above (omega (arith, some)) ∙ is.passes;
      lower = λ i above below. same i above (omega (arith, some)) ∙ is.lower i above below;
    } in
    length_at_is ends' from last is' ∙ (omega (arith, some, is.above))
