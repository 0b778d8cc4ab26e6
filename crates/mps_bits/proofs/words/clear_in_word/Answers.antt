use Rattle.std.proofs.Common.{arith, get_or}
use Rattle.std.proofs.lemmas.Nat.{and_le_r}
use Rattle.mps_bits.proofs.Clearing.{cleared_inside, cleared_outside, cleared_count}
use Rattle.mps_bits.proofs.words.clear_in_word.Goals as goal

pub returns-clause-inside : goal.returns-clause-inside
returns-clause-inside c = λ k h. cleared_inside c.args.words.now c.args.at c.args.mask c.requires c.ranges.mask.fits k h

pub returns-clause-outside : goal.returns-clause-outside
returns-clause-outside c = λ i other. cleared_outside c.args.words.now c.args.at c.args.mask c.requires c.ranges.mask.fits i other

pub returns-clause-counted : goal.returns-clause-counted
returns-clause-counted c = λ n room.
    cleared_count c.args.words.now c.args.at c.args.mask c.requires c.ranges.mask.fits n room
    (omega (arith, and_le_r (get_or c.args.words.now c.args.at 0) c.args.mask, c.ranges.mask.fits))
