use Rattle.std.proofs.Common.{arith, ◌^◌, ◌*◌}
use Rattle.std.proofs.lemmas.Nat.{mod_below}
use Rattle.mps_bits.proofs.OneWord.{mask_inside, mask_outside, with_set, with_set_other, with_clear, with_clear_other}
use Rattle.mps_bits.proofs.word.with_bits.Goals as goal

pub returns-then-value-clause-inside : goal.returns-then-value-clause-inside
returns-then-value-clause-inside c =
    λ i from to. rw c.if-value.true
    (with_set c.args.word _ i (mask_inside c.low_ones.result c.args.width c.args.low i c.low_ones.ensures c.requires.fits from to))

pub returns-then-value-clause-unchanged : goal.returns-then-value-clause-unchanged
returns-then-value-clause-unchanged c =
    λ i within out. with_set_other c.args.word _ i
    (mask_outside c.low_ones.result c.args.width c.args.low i c.low_ones.ensures c.requires.fits out)

pub returns-else-value-clause-inside : goal.returns-else-value-clause-inside
returns-else-value-clause-inside c =
    λ i from to. rw c.if-value.false
    (with_clear c.args.word _ i (mod_below (c.low_ones.result * 2 ^ c.args.low) (2 ^ 64) (omega arith)) (omega (arith, c.requires.fits))
    (mask_inside c.low_ones.result c.args.width c.args.low i c.low_ones.ensures c.requires.fits from to))

pub returns-else-value-clause-unchanged : goal.returns-else-value-clause-unchanged
returns-else-value-clause-unchanged c =
    λ i within out. with_clear_other c.args.word _ i (mod_below (c.low_ones.result * 2 ^ c.args.low) (2 ^ 64) (omega arith)) within
    (mask_outside c.low_ones.result c.args.width c.args.low i c.low_ones.ensures c.requires.fits out)
