-- A desk over one borrowed text.
use Rattle.std.specs.Prelude.{ℕ, List}

pub record BorrowedText : Type 0 where
  -- what every name opens as
  pub text : List ℕ
  -- the input that is left to read
  pub left : List ℕ
