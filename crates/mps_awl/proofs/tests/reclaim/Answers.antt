use Rattle.std.proofs.Common.{◌≡◌, Some, Option, sym, ap, ◌∙◌, arith}
use Rattle.std.specs.Prelude.{option_map}
use Rattle.mps_base.specs.Segment.{Segment}
use Rattle.mps_base.specs.Trail.{Moves}
use Rattle.mps_base.specs.declared.address.Addr.{Addr}
use Rattle.mps_seg.specs.Segs.{base_address}
use Rattle.mps_seg.proofs.HeldWords.{segment_there}
use Rattle.mps_seg.proofs.Found.{over_is_there}
use Rattle.mps_seg.proofs.Reclaimed.{with_room_for_all}
use Rattle.mps_awl.proofs.tests.reclaim.Goals as goal

pub reclaim_seg-requires : goal.reclaim_seg-requires
reclaim_seg-requires c =
    let s = c.args.segs.now in
    let found = segment_there _ c.in-Some.found c.in-Some.ensures in
    let same : Some c.in-Some.found ≡ Some (base_address found.0) =
    c.in-Some.ensures ∙ ap (λ (o : Option Segment). option_map base_address o) found.1
    in
    let one : c.in-Some.found ≡ base_address found.0 = cc in
    let begins = sym (ap (λ (a : Addr). a.0) one) ∙ c.if-found-base.false in
    with_room_for_all s c.args.base.0 _ found.0 found.1 begins
    (c.blocks_are_in_order.ensures.inside found.0 (over_is_there s.segments c.args.base.0 found.0 found.1))
    c.blocks_are_in_order.ensures.ordered
    (omega (arith, ap (λ (m : Moves). m.spare) c.in_ok-trail.ensures, c.live_blocks-blocks.ensures))
