use Rattle.mps_marks.proofs.Tally.{all_blocks_cleared}
use Rattle.mps_marks.proofs.grey_blocks.GreyBlocks.clear_blocks.Goals as goal

pub invariant_of-self : goal.invariant_of-self
invariant_of-self c =
    let s = c.self.inside in
    rw c.clear_all.ensures (all_blocks_cleared s.blocks s.grains s.count c.self.invariant.0, c.self.invariant.1)
