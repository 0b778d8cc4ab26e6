-- To each number of a list another is added, one after another.
use Rattle.std.proofs.Common.{ℕ, ◌+◌, ◌<◌, ◌≤◌, ◌≡◌, List, length, get_or, slice_set, inl, inr, ap, sym, ◌∙◌, arith}
use Rattle.std.proofs.lemmas.Bool.{cases_eq}
use Rattle.std.proofs.lemmas.List.{get_or-set_same, get_or-set_other}

-- the first n numbers have had something added, and the rest are as they were
pub record AreAdded (before : List ℕ) (more : ℕ → ℕ) (n : ℕ) (now : List ℕ) : Type 0 where
  pub added : (i : ℕ) → i < n → get_or now i 0 ≡ get_or before i 0 + more i
  pub others : (i : ℕ) → n ≤ i → get_or now i 0 ≡ get_or before i 0

pub one_more_added : (before : List ℕ) (more : ℕ → ℕ) (n : ℕ) (now : List ℕ) → n < length now → AreAdded before more n now
    → AreAdded before more (n + 1) (slice_set now n (get_or now n 0 + more n))
one_more_added before more n now within are = record {
  added = λ i below.
      elim (cases_eq i n) [
        | inl here ↦
            ap (λ (j : ℕ). get_or (slice_set now n value) j 0) here ∙ get_or-set_same now n value 0 within
            ∙ ap (λ (v : ℕ). v + more n) (are.others n (omega arith))
            ∙ sym (ap (λ (j : ℕ). get_or before j 0 + more j) here)
        | inr other ↦ get_or-set_other now n i value 0 other ∙ are.added i (omega (arith, below, other))
      ];
  others = λ i past. get_or-set_other now n i value 0 (λ same. absurd (omega (arith, past, same))) ∙ are.others i (omega (arith, past));
}
  where
    value : ℕ
    value = get_or now n 0 + more n
