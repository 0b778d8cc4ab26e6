use Rattle.std.proofs.Common.{Some, Option, option_map, sym, ap, ◌∙◌}
use Rattle.mps_base.specs.Segment.{Segment}
use Rattle.mps_seg.specs.declared.segment_info.SegmentInfo.{SegmentInfo}
use Rattle.mps_manual.proofs.GivenBack.{found_over}
use Rattle.mps_heap_spec.proofs.blocks.pool_of_segment.Goals as goal

pub segment-requires : goal.segment-requires
segment-requires c =
    let o = found_over c.args.segs.now.segments c.args.at c.in_ok-base.base c.in_ok-base.ensures in (o.segment, o.listed, o.begins)

pub returns : goal.returns
returns c =
    let o = found_over c.args.segs.now.segments c.args.at c.in_ok-base.base c.in_ok-base.ensures in
    ap (λ (i : SegmentInfo). Some i.pool) (c.segment.ensures o.segment o.listed o.begins)
    ∙ sym (ap (λ (t : Option Segment). option_map (λ (s : Segment). s.pool) t) o.over)
