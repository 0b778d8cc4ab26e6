use Rattle.std.proofs.Common.{arith, sym, ◌∙◌}
use Rattle.mps_marks.proofs.Tally.{one_more}
use Rattle.mps_marks.proofs.grey_blocks.GreyBlocks.mark.Goals as goal

pub invariant_of-self : goal.invariant_of-self
invariant_of-self c =
    let s = c.self.inside in
    rw (c.set.ensures.state, c.set-2.ensures.state) (
      one_more s.blocks s.grains s.count c.args.word c.self.invariant.0 (search (arith, c.self.view_is, c.requires))
          (sym c.test.ensures ∙ c.if-test.false),
      c.self.invariant.1,
    )
