use Rattle.mps_bits.proofs.OneWord.{highest_set, highest_above}
use Rattle.mps_bits.proofs.word.highest_one.Goals as goal

pub returns-clause-set : goal.returns-clause-set
returns-clause-set c = highest_set c.args.word c.requires c.ranges.word.fits

pub returns-clause-above : goal.returns-clause-above
returns-clause-above c = highest_above c.args.word c.requires c.ranges.word.fits
