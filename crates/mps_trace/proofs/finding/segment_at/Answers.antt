use Rattle.std.proofs.Common.{Some, sym, ap, ◌∙◌}
use Rattle.mps_base.specs.Segment.{segment_over}
use Rattle.mps_seg.proofs.SegmentOver.{segment_found}
use Rattle.mps_seg.specs.declared.segment_info.SegmentInfo.{SegmentInfo}
use Rattle.mps_amc.proofs.Found.{over_is_there}
use Rattle.mps_trace.proofs.Known.{some_over, base_is, condemned_is}
use Rattle.mps_trace.proofs.finding.segment_at.Goals as goal

pub segment-requires : goal.segment-requires
segment-requires c =
    segment_found c.args.segs.now.segments c.args.at.0 c.in_ok-base.base (sym c.in_ok-base.was ∙ c.segment_of.ensures)

pub returns-clause-found : goal.returns-clause-found
returns-clause-found c = λ t over.
    let s = c.args.segs.now in
    let is = sym c.in_ok-base.was ∙ c.segment_of.ensures in
    ap (λ (i : SegmentInfo). Some i)
    (c.segment.ensures t (over_is_there s.segments c.args.at.0 t over)
    (base_is (segment_over s.segments c.args.at.0) c.in_ok-base.base t is over))

pub returns-clause-condemned : goal.returns-clause-condemned
returns-clause-condemned c =
    let s = c.args.segs.now in
    let is = sym c.in_ok-base.was ∙ c.segment_of.ensures in
    let t = some_over (segment_over s.segments c.args.at.0) c.in_ok-base.base is in
    ap (λ (i : SegmentInfo). i.is_condemned)
    (c.segment.ensures t.0 (over_is_there s.segments c.args.at.0 t.0 t.1)
    (base_is (segment_over s.segments c.args.at.0) c.in_ok-base.base t.0 is t.1))
    ∙ condemned_is s c.args.at t.0 t.1
