use Rattle.mps_bits.proofs.Runs.{clear_run_none, clear_run_some}
use Rattle.mps_bits.proofs.word.clear_run.Goals as goal

pub returns-then-starts-eq0 : goal.returns-then-starts-eq0
returns-then-starts-eq0 c =
    clear_run_none c.args.word c.low_ones.result c.args.width c.args.count c.run_starts-starts.result c.ranges.word.fits
    c.low_ones.ensures c.requires.fits
    c.run_starts-starts.ensures c.if-starts-eq0.true

pub returns-else-starts-eq0 : goal.returns-else-starts-eq0
returns-else-starts-eq0 c =
    clear_run_some c.args.word c.low_ones.result c.args.width c.args.count c.run_starts-starts.result c.lowest_one.result
    c.requires.nonzero c.ranges.word.fits c.low_ones.ensures
    c.requires.fits c.run_starts-starts.ensures c.lowest_one.ensures.set c.lowest_one.ensures.below
