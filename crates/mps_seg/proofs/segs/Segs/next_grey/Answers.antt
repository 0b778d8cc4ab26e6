use Rattle.std.proofs.Common.{arith}
use Rattle.mps_seg.proofs.Marked.{grey_within}
use Rattle.mps_seg.proofs.segs.Segs.next_grey.Goals as goal

pub overflow_mul-result : goal.overflow_mul-result
overflow_mul-result c =
    let s = c.self.inside in
    let within =
    grey_within s.arena.grains s.marks s.condemned s.summaries.items c.self.invariant.2 c.args.rank c.in_ok-word.word
    c.in_ok-word.ensures.sound
    in
    omega (arith, within, c.self.invariant.0.at_most)
