use Rattle.std.proofs.Common.{arith}
use Rattle.std.proofs.lemmas.Fmt.{length-decimal-le}
use Rattle.itoa.proofs.Decimal.{length_four}
use Rattle.mps_numerals.proofs.decimal.digit_count.Goals as goal

pub overflow_add-count : goal.overflow_add-count
overflow_add-count c =
    omega (arith, length-decimal-le 20 c.args.number (omega arith) (omega arith) (omega arith), c.loop-left.invariant.count)

pub loop-left-preserved : goal.loop-left-preserved
loop-left-preserved c = record {
  count = omega (arith, length_four c.loop-left.left c.loop-left-test.true (omega arith), c.loop-left.invariant.count);
}

pub overflow_add-result : goal.overflow_add-result
overflow_add-result c =
    let most = length-decimal-le 20 c.args.number (omega arith) (omega arith) (omega arith) in
    omega (arith, most, c.loop-left.invariant.count, c.short_digit_count.ensures.value)

pub returns-clause-at_most : goal.returns-clause-at_most
returns-clause-at_most c =
    let most = length-decimal-le 20 c.args.number (omega arith) (omega arith) (omega arith) in
    omega (arith, most, c.loop-left.invariant.count, c.short_digit_count.ensures.value)
