use Rattle.std.proofs.Common.{◌-◌, ◌≤◌, ◌*◌}
use Rattle.mps_bits.specs.Row.{IsClear}
use Rattle.mps_bits.proofs.words.lowest_in_words.Given as goal

abbrev pub invariant-loop-at : goal.invariant-loop-at
invariant-loop-at l = record { first_on : l.first ≤ l.at; clear : IsClear l.words (64 * l.first) (64 * l.at) }

abbrev pub decreases-loop-at : goal.decreases-loop-at
decreases-loop-at l = l.end - l.at
