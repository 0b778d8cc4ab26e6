-- What the program does over a desk to which it hands its output on in large pieces, and what of that the inner desk has.
use Rattle.std.specs.Prelude.{ℕ, ◌≡◌, Option}
use Rattle.mps_desk.specs.Desk.{Outside}
use Rattle.mps_args.specs.Meaning.{Meaning}
use Rattle.mps_gathering.specs.Gathering.{Gathered, HasAll, outside_with}
use Rattle.mps_program.specs.Asked.{DoesAsAsked}

-- what the words ask for was done, and the inner desk has all of it: the log, the files and what was printed
pub record HandsOnAll (meant : Option Meaning) (status : ℕ) (old inner : Outside) : Type 0 where
  pub known : Outside
  pub does : DoesAsAsked meant status old known
  pub all : HasAll inner known

-- what the words ask for was done, and the inner desk has all of it but for what waits: of the log, of its file and of what was
-- printed it has a prefix
pub record HandsOnSome (meant : Option Meaning) (status : ℕ) (old inner : Outside) : Type 0 where
  pub known : Outside
  pub does : DoesAsAsked meant status old known
  pub waits : Gathered
  pub rest : known ≡ outside_with inner waits
