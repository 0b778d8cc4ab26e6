use Rattle.mps_seg.proofs.SegmentOver.{segment_found}
use Rattle.mps_segment_tests.proofs.tests.calls.grey_over.Goals as goal

pub grey_in-requires : goal.grey_in-requires
grey_in-requires c = segment_found c.args.segs.now.segments c.args.at.0 c.in_ok-base.base c.in_ok-base.ensures
