use Rattle.std.proofs.Common.{ℕ, ◌≡◌, ◌+◌, ◌-◌, ◌*◌, ◌<◌, ◌≤◌, ◌⊎◌, false, if◌then◌else◌}
use Rattle.mps_bits.specs.OpenRuns.{is_one_in, is_one_unless, in_run, goes_on}
use Rattle.mps_bits.specs.Row.{bit_in, sum_over}
use Rattle.mps_bits.proofs.words.clear_runs.Given as goal

abbrev pub invariant-loop-at : goal.invariant-loop-at
invariant-loop-at l = record {
  from_on : l.from ≤ l.at;
  upto : l.at ≤ l.to;
  inside : (n : ℕ) → n < 64 * (l.at - l.from) → bit_in l.words (64 * l.from + n)
      ≡ (if in_run false (is_one_unless l.begins l.others (64 * l.from)) (is_one_in l.ends (64 * l.from)) n then 0
      else bit_in l.initial.words (64 * l.from + n));
  outside : (i : ℕ) → (i < 64 * l.from) ⊎ (64 * l.at ≤ i) → bit_in l.words i ≡ bit_in l.initial.words i;
  counted : (n : ℕ) → 64 * l.to ≤ n → sum_over (bit_in l.words) 0 n + l.count ≡ sum_over (bit_in l.initial.words) 0 n;
  few : l.count ≤ 64 * (l.at - l.from);
  going : l.go_on ≡ goes_on false (is_one_unless l.begins l.others (64 * l.from)) (is_one_in l.ends (64 * l.from)) (64 * (l.at - l.from));
}

abbrev pub decreases-loop-at : goal.decreases-loop-at
decreases-loop-at l = l.to - l.at
