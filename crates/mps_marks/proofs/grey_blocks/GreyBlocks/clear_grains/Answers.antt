use Rattle.std.proofs.Common.{ℕ, ◌∙◌, ap, List, Bool}
use Rattle.std.specs.List.{count_by}
use Rattle.mps_marks.proofs.Tally.{all_grains_cleared}
use Rattle.mps_marks.proofs.grey_blocks.GreyBlocks.clear_grains.Goals as goal

pub invariant_of-self : goal.invariant_of-self
invariant_of-self c =
    let s = c.self.inside in
    rw c.clear_all.ensures (
      all_grains_cleared s.blocks s.grains s.count c.self.invariant.0
          (ap {B = ℕ} (λ (bits : List Bool). count_by (λ b. b) bits) c.self.view_is ∙ c.requires),
      c.self.invariant.1,
    )
