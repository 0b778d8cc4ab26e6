use Rattle.std.proofs.Common.{ap, arith}
use Rattle.mps_seg.specs.declared.segment_info.SegmentInfo.{SegmentInfo}
use Rattle.mps_seg.proofs.EmptySegments.{end_fits}
use Rattle.mps_seg.proofs.segs.Segs.is_empty.Goals as goal

pub first_covered-requires : goal.first_covered-requires
first_covered-requires c =
    let s = c.requires.0 in
    let fits = end_fits c.self.inside c.args.self.now c.args.base.0 s c.self.invariant c.self.view_is c.requires.1 c.requires.2 in
    let grains = ap (λ (i : SegmentInfo). i.grains) (c.segment-grains.ensures s c.requires.1 c.requires.2) in
    omega (arith, fits, grains, c.word-low.ensures, c.requires.2)
