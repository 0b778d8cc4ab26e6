use Rattle.mps_seg.proofs.SegmentOver.{segment_found}
use Rattle.mps_segment_tests.proofs.tests.calls.grains_over.Goals as goal

pub segment-requires : goal.segment-requires
segment-requires c = segment_found c.args.segs.now.segments c.args.at.0 c.in-Some.base c.in-Some.ensures
