use Rattle.std.proofs.Common.{◌∙◌, ap, sym}
use Rattle.mps_manual.proofs.GivenBack.{found_over}
use Rattle.mps_seg.specs.Collecting.{rank_of}
use Rattle.mps_seg.specs.declared.segment_info.SegmentInfo.{SegmentInfo}
use Rattle.mps_heap_depending.proofs.pairing.rank_over.Goals as goal

pub segment-requires : goal.segment-requires
segment-requires c =
    let o = found_over c.args.segs.now.segments c.args.at c.in-Some.base c.in-Some.ensures in (o.segment, o.listed, o.begins)

pub returns-in-Some : goal.returns-in-Some
returns-in-Some c =
    let o = found_over c.args.segs.now.segments c.args.at c.in-Some.base c.in-Some.ensures in
    ap (λ (i : SegmentInfo). i.rank) (c.segment.ensures o.segment o.listed o.begins) ∙ sym (ap rank_of o.over)
