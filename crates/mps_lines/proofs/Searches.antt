-- The first line feed that a search finds.
use Rattle.std.proofs.Common.{◌≡◌, ℕ, Bool, true, false, not, Option, Some, None, List, length, get_or, refl, sym, ap, arith}
use Rattle.std.specs.List.{position_or_len}
use Rattle.std.specs.Option.{unwrap_or}
use Rattle.std.proofs.lemmas.List.Sums.{prefix_len_is}
use Rattle.memchr.specs.Find.{IsFirstByte}

module _ (test : ℕ → Bool) (bytes : List ℕ) where
  not_true : (b : Bool) → (b ≡ true → ⊥) → not b ≡ true
  not_true true no_more = absurd (no_more refl)
  not_true false no_more = refl

  -- what stands before it is all before the first byte that passes
  pub before_first : (r : Option ℕ) → IsFirstByte test bytes r → unwrap_or r (length bytes) ≡ position_or_len test bytes
  before_first None nowhere =
      sym (prefix_len_is (λ b. not (test b)) bytes (length bytes) 0 (omega arith)
      (λ k lt. not_true (test (get_or bytes k 0)) (nowhere k (omega arith) lt)) (λ lt. absurd (omega (arith, lt))))
  before_first (Some k) found =
      sym (prefix_len_is (λ b. not (test b)) bytes k 0 (omega (arith, found.0.high))
      (λ i lt. not_true (test (get_or bytes i 0)) (found.0.before i (omega arith) lt)) (λ lt. ap not found.1))
