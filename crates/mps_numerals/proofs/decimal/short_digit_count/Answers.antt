use Rattle.std.proofs.Common.{◌/◌, arith}
use Rattle.itoa.proofs.Decimal.{length_one, length_two, length_pair}
use Rattle.mps_numerals.proofs.decimal.short_digit_count.Goals as goal

pub returns-then-number-lt10-clause-value : goal.returns-then-number-lt10-clause-value
returns-then-number-lt10-clause-value c = omega (arith, length_one c.args.number (omega arith))

pub returns-then-number-lt100-clause-value : goal.returns-then-number-lt100-clause-value
returns-then-number-lt100-clause-value c = omega (arith, length_two c.args.number (omega arith) (omega arith))

pub returns-then-number-lt1000-clause-value : goal.returns-then-number-lt1000-clause-value
returns-then-number-lt1000-clause-value c =
    omega (arith, length_pair c.args.number (omega arith) (omega arith), length_one (c.args.number / 100) (omega arith))

pub returns-else-number-lt1000-clause-value : goal.returns-else-number-lt1000-clause-value
returns-else-number-lt1000-clause-value c =
    omega (arith, length_pair c.args.number (omega arith) (omega arith), length_two (c.args.number / 100) (omega arith) (omega arith))
