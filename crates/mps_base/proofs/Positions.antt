-- The index of the first element that passes a test, and the length where none does.
use Rattle.std.proofs.Common.{◌≡◌, ℕ, ◌≤◌, Bool, cond, nat_lt, Some, None, List, length, arith}
use Rattle.std.specs.List.{position, position_or_len}
use Rattle.std.specs.Option.{unwrap_or}
use Rattle.std.proofs.lemmas.Grind.{common_steps}
use Rattle.std.proofs.lemmas.List.Sums.{prefix_len-le-length}
use Rattle.std.specs.Prelude.{not}

-- the index where there is one, and else the length
pub position_or_length : (p : ℕ → Bool) (xs : List ℕ) → unwrap_or (position p xs) (length xs) ≡ position_or_len p xs
position_or_length p xs = by_case (position_or_len p xs) (length xs) (prefix_len-le-length (λ x. not (p x)) xs)
  where
    by_case : (at n : ℕ) → at ≤ n → unwrap_or (cond (nat_lt at n) (Some at) None) n ≡ at
    by_case at n le = grind (arith, common_steps)
