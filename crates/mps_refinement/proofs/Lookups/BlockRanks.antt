-- The rank of the segment in which a live object lies: weak exactly if the object is.
use Rattle.std.proofs.Common.{◌≡◌, ◌∙◌, ◌+◌, ◌<◌, ◌%◌, Bool, true, false, refl, sym, ap, subst, List, Option, Some, arith}
use Rattle.std.specs.Option.{option_map_or}
use Rattle.mps_base.specs.Address.{Address, Id, address_of_word, word_of}
use Rattle.mps_base.specs.Run.{Run}
use Rattle.mps_base.specs.Segment.{Segment, same_rank, segment_over}
use Rattle.mps_base.specs.declared.names.Rank.TheVariants as rank
use Rattle.mps_laws.proofs.Positions.LegalMoves.{HasLayout, live_at}
use Rattle.mps_laws.proofs.Positions.Occupancy.{OfBlock, occupancy_of, rank_of_occupant, rank_where, run_of, run_of_block, shape_of}
use Rattle.mps_laws.proofs.Positions.Segments.{found_segment}
use Rattle.mps_model.specs.Graph.{entry_at, is_weak_object, size_of}
use Rattle.mps_model.specs.World.{World, extent, object_is}
use Rattle.mps_seg.specs.Collecting.{rank_at, rank_of}
use Rattle.mps_seg.specs.Segs.{SegsState}

weak_rank : (b : Bool) → same_rank (rank_where b) rank.Weak ≡ b
weak_rank true = refl
weak_rank false = refl

pub weak_there : (s : SegsState) (w : World) → s.segments ≡ w.segments → HasLayout (w.grains + 1) w → (id : Id) (at : Address)
    → entry_at w.addresses id ≡ Some at → at % 8 ≡ 0 → same_rank (rank_at s at) rank.Weak ≡ object_is is_weak_object w id
weak_there s w same laid id at there aligned =
    let x = live_at (w.grains + 1) w at id laid there in
    let run : run_of (occupancy_of w) (OfBlock id) ≡ extent at (size_of x.object) =
    ap (λ o. run_of_block o (entry_at w.addresses id)) x.shape ∙ ap (run_of_block (Some (shape_of x.object))) there in
    let some : 0 < (run_of (occupancy_of w) (OfBlock id)).count =
    subst (λ (r : Run). 0 < r.count) (sym (ap (λ o. run_of_block o (entry_at w.addresses id)) x.shape
    ∙ ap (run_of_block (Some (shape_of x.object))) there))
    (laid.shapes id (shape_of x.object) x.shape).some in
    let home = laid.placed.homes (OfBlock id) some in
    let ranked : rank_of_occupant (occupancy_of w) (OfBlock id) ≡ rank_where (object_is is_weak_object w id) =
    ap (λ o. option_map_or (λ s. rank_where s.is_weak) o rank.Exact) x.shape
    ∙ sym (ap (λ o. rank_where (option_map_or is_weak_object o false)) x.there) in
    let below = home.below in
    let above = home.above in
    let from : (run_of (occupancy_of w) (OfBlock id)).from ≡ word_of at = ap (λ (r : Run). r.from) run in
    let found : segment_over w.segments (address_of_word (word_of at)) ≡ Some home.segment =
    found_segment 1 (w.grains + 1) w.segments home.segment laid.ascending laid.aligned home.held (word_of at)
    (omega (arith, above, from), omega (arith, some, below, from)) in
    let here : address_of_word (word_of at) ≡ at = omega (arith, aligned) in
    ap (λ (ss : List Segment). same_rank (rank_of (segment_over ss at)) rank.Weak) same
    ∙ ap (λ (a : Address). same_rank (rank_of (segment_over w.segments a)) rank.Weak) (sym here)
    ∙ ap (λ (o : Option Segment). same_rank (rank_of o) rank.Weak) found
    ∙ ap (λ r. same_rank r rank.Weak) (home.of_rank ∙ ranked) ∙ weak_rank (object_is is_weak_object w id)
