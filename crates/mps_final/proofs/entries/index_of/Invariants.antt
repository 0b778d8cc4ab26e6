use Rattle.std.proofs.Common.{ℕ, List, ◌≤◌, ◌-◌, length}
use Rattle.mps_final.specs.Inside.{StandBefore}
use Rattle.mps_final.proofs.entries.index_of.Given as goal

pub record Searched (entries : List ℕ) (position index wanted : ℕ) : Type 0 where
  pub before : StandBefore entries position index
  pub within : index ≤ length entries
  pub ahead : position ≤ wanted

abbrev pub invariant-loop-index : goal.invariant-loop-index
invariant-loop-index l = Searched l.entries l.position l.index l.wanted

abbrev pub decreases-loop-index : goal.decreases-loop-index
decreases-loop-index l = length l.entries - l.index
