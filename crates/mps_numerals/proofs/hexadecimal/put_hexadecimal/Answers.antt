-- The bytes after the number are unchanged.
use Rattle.std.proofs.Common.{◌+◌, arith}
use Rattle.mps_numerals.specs.Hexadecimal.{hexadecimal}
use Rattle.mps_numerals.proofs.Written.{written_between}
use Rattle.mps_numerals.proofs.hexadecimal.put_hexadecimal.Goals as goal

pub returns-clause-unchanged : goal.returns-clause-unchanged
returns-clause-unchanged c =
    let w = c.write_digits in
    (written_between w.result (c.args.at + c.digit_count.result) c.args.out.now w.new.out (hexadecimal c.args.number)
    w.ensures.start (omega (arith, c.requires, c.digit_count.ensures.at_most)) w.ensures.written w.ensures.before).1
