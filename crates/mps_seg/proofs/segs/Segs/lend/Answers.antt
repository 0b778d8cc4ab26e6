use Rattle.mps_seg.proofs.HeldWords.{block_is_held}
use Rattle.mps_seg.proofs.segs.Segs.lend.Goals as goal

pub lend-requires-clause-held : goal.lend-requires-clause-held
lend-requires-clause-held c =
    block_is_held c.self.inside c.args.self.now c.self.invariant c.self.view_is c.args.at.0 c.args.words c.blocks_are_covered.ensures
    c.requires.block
