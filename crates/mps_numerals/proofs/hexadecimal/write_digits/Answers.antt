use Rattle.std.proofs.Common.{◌≡◌, ◌+◌, ◌-◌, ◌∙◌, arith, append_assoc}
use Rattle.mps_numerals.proofs.Hexadecimals.{one_digit, last_digit}
use Rattle.mps_numerals.proofs.Digits.{one_long, one_longer, less_of_it}
use Rattle.mps_numerals.proofs.hexadecimal.write_digits.Goals as goal

pub overflow_sub-at : goal.overflow_sub-at
overflow_sub-at c = omega (arith, one_longer c.loop-left.left c.loop-left-test.true (omega arith), c.loop-left.invariant.room)

pub write_digit-requires : goal.write_digit-requires
write_digit-requires c =
    let long = one_longer c.loop-left.left c.loop-left-test.true (omega arith) in
    (omega arith, omega (arith, long, c.loop-left.invariant.room, c.loop-left.invariant.within, c.requires))

pub overflow_sub-at-in-loop-left : goal.overflow_sub-at-in-loop-left
overflow_sub-at-in-loop-left c = omega (arith, one_longer c.loop-left.left c.loop-left-test.true (omega arith), c.loop-left.invariant.room)

pub loop-left-preserved : goal.loop-left-preserved
loop-left-preserved c =
    let l = c.loop-left in
    let i = l.invariant in
    let long = one_longer l.left c.loop-left-test.true (omega arith) in
    let up : l.at - 1 + 1 ≡ l.at = omega (arith, long, i.room) in
    record {
      room = omega (arith, long, i.room);
      within = omega (arith, i.within);
      count = omega (arith, long, i.room, i.count);
      written = rw (c.write_digit.ensures.written, up)
          (rw (last_digit l.left c.loop-left-test.true (omega arith), append_assoc) at i.written);
      before = c.write_digit.ensures.before ∙ less_of_it (l.at - 1) l.at l.out c.args.out.now (omega arith) i.before;
    }

pub overflow_sub-at-2 : goal.overflow_sub-at-2
overflow_sub-at-2 c = omega (arith, one_long c.loop-left.left (omega arith), c.loop-left.invariant.room)

pub write_digit-requires-2 : goal.write_digit-requires-2
write_digit-requires-2 c =
    let long = one_long c.loop-left.left (omega arith) in
    (omega arith, omega (arith, long, c.loop-left.invariant.room, c.loop-left.invariant.within, c.requires))

pub overflow_sub-result : goal.overflow_sub-result
overflow_sub-result c = omega (arith, one_long c.loop-left.left (omega arith), c.loop-left.invariant.room)

pub returns-clause-start : goal.returns-clause-start
returns-clause-start c =
    omega (arith, one_long c.loop-left.left (omega arith), c.loop-left.invariant.room, c.loop-left.invariant.count)

pub returns-clause-written : goal.returns-clause-written
returns-clause-written c =
    let l = c.loop-left in
    let up : l.at - 1 + 1 ≡ l.at = omega (arith, one_long l.left (omega arith), l.invariant.room) in
    rw (c.write_digit-2.ensures.written, up) (rw (one_digit l.left (omega arith)) at l.invariant.written)

pub returns-clause-before : goal.returns-clause-before
returns-clause-before c =
    c.write_digit-2.ensures.before
    ∙ less_of_it (c.loop-left.at - 1) c.loop-left.at c.loop-left.out c.args.out.now (omega arith) c.loop-left.invariant.before
