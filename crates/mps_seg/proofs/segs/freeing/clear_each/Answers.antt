use Rattle.std.proofs.Common.{Bool, List, length, ap, arith}
use Rattle.mps_seg.proofs.Unmarked.{unmarked_next}
use Rattle.mps_seg.proofs.segs.freeing.clear_each.Goals as goal

pub clear_unless_kept-requires : goal.clear_unless_kept-requires
clear_unless_kept-requires c =
    omega (arith, c.in-Some.ensures.first.below, c.requires.in_kept, ap (λ (ks : List Bool). length ks) c.loop-at.invariant.same_kept)

pub loop-at-preserved : goal.loop-at-preserved
loop-at-preserved c =
    unmarked_next c.args.low c.args.high c.loop-at.from c.in-Some.at c.args.extents.now.blocks c.args.marks.now c.loop-at.marks
    c.clear_unless_kept.new.marks c.loop-at.invariant c.in-Some.ensures.first
    (omega (arith, c.in-Some.ensures.first.below, c.requires.in_kept, ap (λ (ks : List Bool). length ks) c.loop-at.invariant.same_kept))
    c.clear_unless_kept.ensures.kept
    c.clear_unless_kept.ensures.lost
