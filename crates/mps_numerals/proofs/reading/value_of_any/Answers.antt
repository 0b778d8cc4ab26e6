use Rattle.std.proofs.Common.{◌≡◌, ◌≤◌, ◌+◌, ◌*◌, ◌^◌, ◌∙◌, ap, get_or, drop, arith}
use Rattle.mps_numerals.specs.Reading.{digit_of, value_after}
use Rattle.mps_numerals.proofs.Values.{overflows, value_step, all_read, at_least, digits_more, no_digit, too_large, all_digits}
use Rattle.mps_numerals.proofs.reading.value_of_any.Goals as goal

pub returns-in_err-checked_mul : goal.returns-in_err-checked_mul
returns-in_err-checked_mul c =
    let large : 2 ^ 64 ≤ c.loop-b.n * c.args.base = at_least _ _ c.in_err-checked_mul.ensures in
    c.from_residual.ensures
    ∙ too_large c.args.base c.args.digits.now (overflows c.args.base c.loop-b.n c.loop-b.b-index c.args.digits.now c.requires
    (omega arith) c.loop-b.invariant.so_far (omega arith))

pub returns-in_err-n : goal.returns-in_err-n
returns-in_err-n c =
    let large : 2 ^ 64 ≤ c.in_ok-checked_mul.field-0 + c.digit_of-next.result = at_least _ _ c.in_err-n.ensures in
    let value : c.digit_of-next.result ≡ digit_of (get_or c.args.digits.now c.loop-b.b-index 0) = c.digit_of-next.ensures.value in
    c.from_residual-in_err-n.ensures
    ∙ too_large c.args.base c.args.digits.now (overflows c.args.base c.loop-b.n c.loop-b.b-index c.args.digits.now c.requires
    (omega arith) c.loop-b.invariant.so_far (omega arith))

pub returns-then-next-base : goal.returns-then-next-base
returns-then-next-base c =
    let value : c.digit_of-next.result ≡ digit_of (get_or c.args.digits.now c.loop-b.b-index 0) = c.digit_of-next.ensures.value in
    no_digit c.args.base c.loop-b.b-index c.args.digits.now (omega arith) (omega arith)

pub loop-b-preserved : goal.loop-b-preserved
loop-b-preserved c =
    let value : c.digit_of-next.result ≡ digit_of (get_or c.args.digits.now c.loop-b.b-index 0) = c.digit_of-next.ensures.value in
    let product : c.in_ok-checked_mul.field-0 ≡ c.loop-b.n * c.args.base = c.in_ok-checked_mul.ensures.1 in
    let next : c.loop-b.n * c.args.base + digit_of (get_or c.args.digits.now c.loop-b.b-index 0) ≡ c.in_ok-n.n =
    omega (arith, c.in_ok-n.ensures.1) in
    record {
      so_far = c.loop-b.invariant.so_far
          ∙ (value_step c.args.base c.loop-b.n c.loop-b.b-index c.args.digits.now (omega arith)
          ∙ ap (λ m. value_after c.args.base m (drop (c.loop-b.b-index + 1) c.args.digits.now)) next);
      fits = omega (arith, c.in_ok-n.ensures);
      seen = digits_more c.args.base c.loop-b.b-index c.args.digits.now (omega arith) c.loop-b.invariant.seen (omega (arith, value));
    }

pub returns : goal.returns
returns c =
    all_digits c.args.base c.loop-b.b-index c.args.digits.now _ (omega arith) c.loop-b.invariant.seen
    (all_read c.args.base c.loop-b.n c.loop-b.b-index c.args.digits.now (omega arith) c.loop-b.invariant.fits c.loop-b.invariant.so_far)
