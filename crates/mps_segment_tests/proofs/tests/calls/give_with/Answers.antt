use Rattle.mps_seg.proofs.SegmentOver.{segment_found}
use Rattle.mps_segment_tests.proofs.tests.calls.give_with.Goals as goal

pub is_empty-requires : goal.is_empty-requires
is_empty-requires c = segment_found c.args.segs.now.segments c.args.at.0 c.in-Some.base c.in-Some.ensures

pub give-requires-clause-empty : goal.give-requires-clause-empty
give-requires-clause-empty c =
    let found = segment_found c.args.segs.now.segments c.args.at.0 c.in-Some.base c.in-Some.ensures in
    (found.0, found.1, c.is_empty.ensures.sound found.0 found.1 found.2 c.if-not-is_empty.false)
