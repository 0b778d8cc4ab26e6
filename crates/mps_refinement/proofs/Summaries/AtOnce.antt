-- A collection that ends at once, since it condemns nothing, ends reservations and clears marks: words stay summed.
use Rattle.std.proofs.Common.{true, false, refl, sym, subst, List, [], ◌∷◌, ℕ, Option, Some, None}
use Rattle.std.specs.Prelude.{◌==◌, if◌then◌else◌}
use Rattle.mps_base.specs.Address.{word_of}
use Rattle.mps_base.specs.Segment.{Segment}
use Rattle.mps_buffer.specs.Points.{PointsState, after_all_end, after_end, after_end_at, without_reservation}
use Rattle.mps_buffer.specs.declared.point.Held.{Held}
use Rattle.mps_buffer.specs.declared.point.Point.{Point}
use Rattle.mps_extents.proofs.ContainedRuns.{contains_without}
use Rattle.mps_format.specs.Layout.{Layout}
use Rattle.mps_format.specs.declared.pool.Policy.{Policy}
use Rattle.mps_root.specs.State.{RootsState}
use Rattle.mps_seg.specs.Collecting.{condemning}
use Rattle.mps_seg.specs.Segs.{SegsState}
use Rattle.mps_trace.specs.Begin.{EndsAtOnce}
use Rattle.mps_trace.specs.Flip.{condemned_of, condemning_all}
use Rattle.mps_trace.specs.GenState.{ChainsState}
use Rattle.mps_trace.specs.State.{FinalsState}
use Rattle.mps_trace.specs.Trace.{Traced}
use Rattle.mps_trace.specs.declared.condemn.Condemn.{Condemn}
use Rattle.mps_trace_laws.specs.Summaries.Summed.{AreWordsSummed}
use Rattle.mps_refinement.proofs.Summaries.Kept.{fewer_summed}

module _ {F : Type 0} (layout : F → Layout) (formats : List (Option (Policy F))) where
  abbrev IsSummed : SegsState → Type 0
  IsSummed s = AreWordsSummed layout formats s

  -- reservations are ended
  one_ended : (flips : ℕ) (o : Option Held) (s : SegsState) → IsSummed s → IsSummed (after_end flips o s)
  one_ended flips None s summed = summed
  one_ended flips (Some h) s summed =
      elim (h.flips == flips) as (λ b. IsSummed (if b then without_reservation s h else s)) [
        | true ↦
            fewer_summed layout formats s (without_reservation s h) summed refl refl refl (λ r t over. over)
            (λ r there. contains_without (word_of h.at.0) r s.covered there)
        | false ↦ summed
      ]

  ended_at : (flips : ℕ) (o : Option Point) (s : SegsState) → IsSummed s → IsSummed (after_end_at flips o s)
  ended_at flips None s summed = summed
  ended_at flips (Some p) s summed = one_ended flips p.reservation s summed

  all_ended : (flips : ℕ) (ps : List (Option Point)) (s : SegsState) → IsSummed s → IsSummed (after_all_end flips ps s)
  all_ended flips [] s summed = summed
  all_ended flips (p ∷ ps) s summed = all_ended flips ps (after_end_at flips p s) (ended_at flips p s summed)

  -- segments are condemned
  condemned_summed : (ts : List Segment) (s : SegsState) → IsSummed s → IsSummed (condemning_all ts s)
  condemned_summed [] s summed = summed
  condemned_summed (t ∷ ts) s summed =
      condemned_summed ts (condemning s t.base) (record { sized = summed.sized; each = summed.each })

  module _ (chains : ChainsState) (what : Condemn) (points : PointsState) (roots roots' : RootsState) (finals finals' : FinalsState)
      (x z : Traced) where
    pub at_once_summed : EndsAtOnce formats chains what points roots finals x roots' finals' z → IsSummed x.segs → IsSummed z.segs
    at_once_summed ends summed =
        let ended = all_ended points.flips points.points x.segs summed in
        let s = after_all_end points.flips points.points x.segs in
        let flipped = condemned_summed (condemned_of formats chains what s.segments) s ended in
        subst (λ (y : Traced). IsSummed y.segs) (sym ends.over) (record { sized = flipped.sized; each = flipped.each })
