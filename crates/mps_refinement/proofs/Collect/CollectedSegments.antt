-- The segments once a collection is over: which they are, that none is condemned, and that no block is kept.
use Rattle.std.proofs.Common.{◌≡◌, ◌∙◌, ℕ, zero, suc, true, false, refl, sym, ap, subst, List, [], ◌∷◌, length, Option}
use Rattle.std.specs.Prelude.{replicate}
use Rattle.mps_base.specs.Address.{Grain, Word}
use Rattle.mps_base.specs.Segment.{Segment}
use Rattle.mps_extents.specs.Table.{bit}
use Rattle.mps_buffer.specs.Points.{PointsState, after_all_end}
use Rattle.mps_model.specs.Effect.{condemned_by, world_flipped, world_after_moves}
use Rattle.mps_model.specs.Flip.{flip_act, is_nothing}
use Rattle.mps_model.specs.World.{World}
use Rattle.mps_abstract.specs.FlipLaws.{IsAtRest, IsNumbered}
use Rattle.mps_abstract.proofs.FlipActs.FlipBegins.{flip_ended}
use Rattle.mps_seg.specs.Collecting.{condemning}
use Rattle.mps_seg.specs.Segs.{SegsState}
use Rattle.mps_trace.specs.Flip.{at_flip, condemned_of, condemning_all}
use Rattle.mps_trace.specs.Trace.{Traced}
use Rattle.mps_trace.specs.Unit.{traced_after_end}
use Rattle.mps_trace.proofs.Ending.{segments_stay}
use Rattle.mps_trace.specs.GenState.{ChainsState}
use Rattle.mps_trace_laws.proofs.Flip.Reservations.{flip_moves_nothing}
use Rattle.mps_trace.specs.declared.condemn.Condemn.{Condemn}
use Rattle.mps_trace_laws.specs.Flip.Condemned.{condemnation}
use Rattle.mps_trace_laws.specs.Units.Laws.{HasSegmentsOf}
use Rattle.mps_abstract.specs.Leaving.{IsButCollected}
use Rattle.mps_format.specs.declared.pool.Policy.{Policy}

-- ---- condemned and kept

no_bit : (n : ℕ) (grain : Grain) → bit (replicate n false) grain ≡ false
unfolding bit
no_bit zero grain = refl
no_bit (suc n) zero = refl
no_bit (suc n) (suc grain) = no_bit n grain

-- once it is over no segment is condemned
pub none_condemned : (x z : Traced) → z ≡ traced_after_end x → (grain : Grain) → bit z.segs.condemned grain ≡ false
none_condemned x z over grain =
    ap (λ (v : Traced). bit v.segs.condemned grain) over ∙ no_bit (length x.segs.condemned) grain

-- and no block is kept
pub none_kept : (x z : Traced) → z ≡ traced_after_end x → (n : Word) → bit z.segs.marks.kept n ≡ false
none_kept x z over n = ap (λ (v : Traced). bit v.segs.marks.kept n) over ∙ no_bit (length x.segs.marks.kept) n

-- ---- a collection that is over at once

condemning_stays : (ts : List Segment) (s : SegsState) → (condemning_all ts s).segments ≡ s.segments
condemning_stays [] s = refl
condemning_stays (t ∷ ts) s = condemning_stays ts (condemning s t.base)

pub segments_at_once : {F : Type 0} (formats : List (Option (Policy F))) (chains : ChainsState) (points : PointsState) (x z : Traced)
    (w : World) (what : Condemn)
    → HasSegmentsOf x.segs w → IsAtRest w → IsNumbered (condemnation what) → is_nothing (condemned_by w (condemnation what)) ≡ true
    → z ≡ traced_after_end (at_flip formats chains what points x)
    → HasSegmentsOf z.segs (world_after_moves w (flip_act w (condemnation what)))
segments_at_once formats chains points x z w what has rest numbered nothing over =
    let same = flip_moves_nothing formats chains what points x in
    let e : SegsState = after_all_end points.flips points.points x.segs in
    let segments : (at_flip formats chains what points x).segs.segments ≡ x.segs.segments =
    condemning_stays (condemned_of formats chains what e.segments) e ∙ segments_stay points.flips points.points x.segs
    in
    subst (λ ms. HasSegmentsOf z.segs (world_after_moves w ms)) (sym (flip_ended w (condemnation what) rest numbered nothing).act) (record {
      same_grains = ap (λ (v : Traced). v.segs.grains) over ∙ (same.grains ∙ has.same_grains);
      same_limit = ap (λ (v : Traced). v.segs.limit) over ∙ (same.limit ∙ has.same_limit);
      same_segments = ap (λ (v : Traced). v.segs.segments) over ∙ (segments ∙ has.same_segments);
    })

-- ---- sizes

-- a world after a flip and a collection has the size and the limit that it had
pub same_size : (w u : World) (zones : ℕ) → IsButCollected (world_flipped w zones) u → (u.grains ≡ w.grains) × (u.limit ≡ w.limit)
same_size w u zones moved = (ap (λ (v : World). v.grains) moved.world, ap (λ (v : World). v.limit) moved.world)
