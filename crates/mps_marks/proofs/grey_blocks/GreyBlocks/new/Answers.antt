use Rattle.mps_marks.proofs.Tally.{no_tally}
use Rattle.mps_marks.proofs.grey_blocks.GreyBlocks.new.Goals as goal

pub invariant_of-result : goal.invariant_of-result
invariant_of-result c =
    rw (c.in_ok-new.ensures, c.in_ok-new-2.ensures) (no_tally c.args.grains c.requires, c.in_ok-with_capacity.ensures.capacity)
