use Rattle.mps_seg.proofs.HeldWords.{segment_in_arena}
use Rattle.mps_seg.proofs.segs.Segs.blocks_are_in_order.Goals as goal

pub returns-clause-inside : goal.returns-clause-inside
returns-clause-inside c = segment_in_arena c.self.inside c.args.self.now c.self.invariant c.self.view_is
