use Rattle.std.proofs.Common.{Option, sym, ap, ◌∙◌}
use Rattle.mps_base.specs.Segment.{Segment}
use Rattle.mps_seg.specs.Collecting.{rank_of}
use Rattle.mps_seg.specs.declared.entry.CondemnedSegment.{CondemnedSegment}
use Rattle.mps_seg.proofs.CondemnedOver.{some_asked}
use Rattle.mps_seg.proofs.segs.Segs.rank_of_white.Goals as goal

pub returns : goal.returns
returns c =
    let found = some_asked c.args.self.now c.args.at.0 c.in-Some.asked c.in-Some.ensures in
    ap (λ (x : CondemnedSegment). x.rank) found.is ∙ ap (λ (o : Option Segment). rank_of o) (sym found.over)
