use Rattle.std.proofs.Common.{◌≡◌, Some, Option, sym, ap, ◌∙◌}
use Rattle.std.specs.Prelude.{option_map}
use Rattle.mps_base.specs.declared.address.Addr.{Addr}
use Rattle.mps_base.specs.Segment.{Segment}
use Rattle.mps_seg.specs.Segs.{base_address}
use Rattle.mps_seg.proofs.SegmentOver.{segment_found}
use Rattle.mps_seg.specs.declared.segment_info.SegmentInfo.{SegmentInfo}
use Rattle.mps_seg.proofs.Found.{over_is_there}
use Rattle.mps_amc.proofs.amc.pool_at.Goals as goal

pub segment-requires : goal.segment-requires
segment-requires c = segment_found c.args.segs.now.segments c.args.at.0 c.in-Some.base c.in-Some.ensures

pub returns : goal.returns
returns c = λ t over.
    let both : Some c.in-Some.base ≡ Some (base_address t) =
    c.in-Some.ensures ∙ ap (λ (o : Option Segment). option_map base_address o) over
    in
    let same : c.in-Some.base ≡ base_address t = cc in
    ap (λ (i : SegmentInfo). i.pool)
    (c.segment.ensures t (over_is_there c.args.segs.now.segments c.args.at.0 t over) (sym (ap (λ (a : Addr). a.0) same)))
