use Rattle.mps_seg.proofs.HeldWords.{segment_is_held, segment_is_whole}
use Rattle.mps_seg.proofs.segs.Segs.segments_are_held.Goals as goal

pub returns-clause-held : goal.returns-clause-held
returns-clause-held c = segment_is_held c.self.inside c.args.self.now c.self.invariant c.self.view_is

pub returns-clause-whole : goal.returns-clause-whole
returns-clause-whole c = segment_is_whole c.self.inside c.args.self.now c.self.invariant c.self.view_is
