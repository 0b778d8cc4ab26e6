use Rattle.mps_base.specs.Segment.{segment_over}
use Rattle.mps_seg.proofs.HeldWords.{segment_there}
use Rattle.mps_segment_tests.proofs.tests.calls.begins_with.Goals as goal

pub words_from-found-requires : goal.words_from-found-requires
words_from-found-requires c = record { held = segment_there (segment_over c.args.segs.now.segments c.args.at.0) _ c.in-Some.ensures }
