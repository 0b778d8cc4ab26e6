use Rattle.std.proofs.Common.{ℕ, List, ◌≡◌, take}
use Rattle.std.specs.Prelude.{None}
use Rattle.mps_final.specs.State.{position_of}
use Rattle.mps_final.specs.Inside.{live, StandBefore}
use Rattle.mps_final.proofs.entries.position_in.Given as goal

pub record Passed (entries : List ℕ) (at position index : ℕ) : Type 0 where
  pub before : StandBefore entries position index
  pub none : position_of (live (take index entries)) at ≡ None

abbrev pub invariant-loop-entry : goal.invariant-loop-entry
invariant-loop-entry l = Passed l.entries l.at l.position l.entry-index
