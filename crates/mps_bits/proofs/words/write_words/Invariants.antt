use Rattle.std.proofs.Common.{ℕ, ◌≡◌, ◌-◌, ◌<◌, ◌≤◌, ◌⊎◌, if◌then◌else◌}
use Rattle.mps_bits.specs.Row.{bit_in}
use Rattle.mps_bits.proofs.words.write_words.Given as goal

abbrev pub invariant-loop-at : goal.invariant-loop-at
invariant-loop-at l = record {
  from_on : l.from ≤ l.at;
  within : (l.at ≤ l.to) ⊎ (l.at ≡ l.from);
  inside : (i : ℕ) → l.from ≤ i → i < l.at → i < l.to → bit_in l.words i ≡ (if l.value then 1 else 0);
  outside : (i : ℕ) → (i < l.from) ⊎ (l.at ≤ i) → bit_in l.words i ≡ bit_in l.initial.words i;
}

abbrev pub decreases-loop-at : goal.decreases-loop-at
decreases-loop-at l = l.to - l.at
