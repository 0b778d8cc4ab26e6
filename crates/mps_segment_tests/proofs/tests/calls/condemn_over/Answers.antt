use Rattle.mps_seg.proofs.SegmentOver.{segment_found}
use Rattle.mps_segment_tests.proofs.tests.calls.condemn_over.Goals as goal

pub condemn-requires : goal.condemn-requires
condemn-requires c = segment_found c.args.segs.now.segments c.args.at.0 c.in-Some.base c.in-Some.ensures
