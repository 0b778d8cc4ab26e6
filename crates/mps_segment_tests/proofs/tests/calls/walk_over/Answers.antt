use Rattle.mps_seg.proofs.SegmentOver.{segment_found}
use Rattle.mps_segment_tests.proofs.tests.calls.walk_over.Goals as goal

pub walk-requires : goal.walk-requires
walk-requires c = segment_found c.args.segs.now.segments c.args.at.0 c.in_ok-base.base c.in_ok-base.ensures
