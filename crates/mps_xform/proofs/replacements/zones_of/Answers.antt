use Rattle.std.proofs.Common.{get_or, refl, arith}
use Rattle.mps_xform.proofs.Sorted.{no_pair}
use Rattle.mps_xform.proofs.Zoned.{one_more_zoned}
use Rattle.mps_xform.proofs.replacements.zones_of.Goals as goal

pub loop-index-init : goal.loop-index-init
loop-index-init c = λ k d below. absurd (omega (arith, below))

pub loop-index-preserved : goal.loop-index-preserved
loop-index-preserved c =
    let pairs = c.args.pairs.now in
    let index = c.loop-index.index in
    one_more_zoned pairs index c.loop-index.zones c.with_zone-zones.result (get_or pairs index no_pair).pair.old.0 c.loop-index-test.true
    c.loop-index.invariant refl c.with_zone-zones.ensures

pub returns : goal.returns
returns c = λ k d within. c.loop-index.invariant k d (omega (arith, within, c.loop-index-test.false))
