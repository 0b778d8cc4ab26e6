use Rattle.mps_bits.proofs.OneWord.{low_bits_inside, low_bits_above}
use Rattle.mps_bits.proofs.word.bits_from.Goals as goal

pub returns-clause-inside : goal.returns-clause-inside
returns-clause-inside c = λ i within. low_bits_inside c.args.word c.args.low c.args.width c.low_ones.result i c.low_ones.ensures within

pub returns-clause-above : goal.returns-clause-above
returns-clause-above c = λ i past. low_bits_above c.args.word c.args.low c.args.width c.low_ones.result i c.low_ones.ensures past
