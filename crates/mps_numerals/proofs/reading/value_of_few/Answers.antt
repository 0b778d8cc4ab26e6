use Rattle.std.proofs.Common.{◌+◌, arith}
use Rattle.mps_numerals.proofs.Values.{fits_more, few_fit}
use Rattle.mps_numerals.proofs.reading.value_of_few.Goals as goal

pub overflow_mul-n : goal.overflow_mul-n
overflow_mul-n c =
    let l = c.loop-b in
    let next = fits_more c.args.base l.n c.digit_of-next.result l.b-index c.requires.base.1 (omega arith) l.invariant.fits in
    omega (arith, next, few_fit (c.loop-b.b-index + 1) (omega (arith, c.requires.few)))

pub overflow_add-n : goal.overflow_add-n
overflow_add-n c =
    let l = c.loop-b in
    let next = fits_more c.args.base l.n c.digit_of-next.result l.b-index c.requires.base.1 (omega arith) l.invariant.fits in
    omega (arith, next, few_fit (c.loop-b.b-index + 1) (omega (arith, c.requires.few)))
