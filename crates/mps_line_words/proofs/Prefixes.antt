-- A text that begins with bytes none of which passes a test is read past them.
use Rattle.std.proofs.Common.{◌≡◌, ℕ, ◌+◌, Bool, not, List, ◌++◌, length, take, drop, arith}
use Rattle.std.specs.List.{position_or_len}
use Rattle.std.proofs.Math.Seq.{take-append-add, drop-append-add}
use Rattle.std.proofs.lemmas.Bool.Decides.{nat_tests}
use Rattle.std.proofs.lemmas.List.Folds.{prefix_len-append}

module _ (p : ℕ → Bool) (prefix rest : List ℕ) (none : position_or_len p prefix ≡ length prefix) where
  -- the first byte that passes is after them
  pub past_prefix : position_or_len p (prefix ++ rest) ≡ length prefix + position_or_len p rest
  past_prefix = grind (arith, nat_tests, none, prefix_len-append (λ b. not (p b)) prefix rest)

  pub before_past : take (position_or_len p (prefix ++ rest)) (prefix ++ rest) ≡ prefix ++ take (position_or_len p rest) rest
  before_past = rw past_prefix (take-append-add prefix rest (position_or_len p rest))

  pub after_past : drop (position_or_len p (prefix ++ rest)) (prefix ++ rest) ≡ drop (position_or_len p rest) rest
  after_past = rw past_prefix (drop-append-add prefix rest (position_or_len p rest))
