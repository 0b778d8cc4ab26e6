use Rattle.std.proofs.Common.{ℕ, ◌≡◌, ◌+◌, ◌-◌, ◌*◌, ◌<◌, ◌≤◌, ◌⊎◌, min}
use Rattle.mps_bits.specs.Row.{bit_in, sum_over}
use Rattle.mps_bits.proofs.words.clear_unless.Given as goal

abbrev pub invariant-loop-at : goal.invariant-loop-at
invariant-loop-at l = record {
  from_on : l.from ≤ l.at;
  within : (l.at ≤ l.to) ⊎ (l.at ≡ l.from);
  inside : (i : ℕ) → 64 * l.from ≤ i → i < 64 * l.at → bit_in l.words i ≡ min (bit_in l.initial.words i) (bit_in l.others i);
  outside : (i : ℕ) → (i < 64 * l.from) ⊎ (64 * l.at ≤ i) → bit_in l.words i ≡ bit_in l.initial.words i;
  counted : (n : ℕ) → 64 * l.to ≤ n → sum_over (bit_in l.words) 0 n + l.count ≡ sum_over (bit_in l.initial.words) 0 n;
  few : l.count ≤ 64 * (l.at - l.from);
}

abbrev pub decreases-loop-at : goal.decreases-loop-at
decreases-loop-at l = l.to - l.at
