use Rattle.std.proofs.Common.{◌≡◌, ◌<◌, ◌^◌, take, drop, true}
use Rattle.mps_numerals.specs.Reading.{value_after, digits_value, are_digits}
use Rattle.mps_numerals.proofs.reading.value_of_few.Given as goal

abbrev pub invariant-loop-b : goal.invariant-loop-b
invariant-loop-b l = record {
  so_far : digits_value l.base l.digits ≡ value_after l.base l.n (drop l.b-index l.digits);
  fits : l.n < 16 ^ l.b-index;
  seen : are_digits l.base (take l.b-index l.digits) ≡ true;
}
