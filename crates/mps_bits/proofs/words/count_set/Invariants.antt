use Rattle.std.proofs.Common.{◌≡◌, ◌-◌, ◌≤◌, ◌⊎◌}
use Rattle.mps_bits.specs.Row.{bit_in, sum_over}
use Rattle.mps_bits.proofs.words.count_set.Given as goal

abbrev pub invariant-loop-at : goal.invariant-loop-at
invariant-loop-at l = record {
  from_on : l.from ≤ l.at;
  within : (l.at ≤ l.to) ⊎ (l.at ≡ l.from);
  counted : l.count ≡ sum_over (bit_in l.words) l.from (l.at - l.from);
}

abbrev pub decreases-loop-at : goal.decreases-loop-at
decreases-loop-at l = l.to - l.at
