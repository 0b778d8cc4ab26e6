use Rattle.std.proofs.Common.{◌≡◌, ◌≤◌, ◌+◌, ◌++◌, length, take, drop}
use Rattle.mps_numerals.specs.Hexadecimal.{hexadecimal}
use Rattle.mps_numerals.proofs.hexadecimal.write_digits.Given as goal

abbrev pub invariant-loop-left : goal.invariant-loop-left
invariant-loop-left l = record {
  room : length (hexadecimal l.left) ≤ l.at;
  within : l.at ≤ l.end;
  count : l.at + length (hexadecimal l.number) ≡ l.end + length (hexadecimal l.left);
  written : hexadecimal l.left ++ drop l.at l.out ≡ hexadecimal l.number ++ drop l.end l.fn.out;
  before : take l.at l.out ≡ take l.at l.fn.out;
}

abbrev pub decreases-loop-left : goal.decreases-loop-left
decreases-loop-left l = l.left
