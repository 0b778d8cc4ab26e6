-- A `start` leaves at most as many units as its flip may.
use Rattle.std.proofs.Common.{◌≡◌, ◌≤◌, ap, None}
use Rattle.mps_base.specs.Trail.{Moves}
use Rattle.mps_buffer.specs.Points.{WereMadeBefore}
use Rattle.mps_format.specs.Layout.{Layout}
use Rattle.mps_model.specs.declared.call.Call.{Call}
use Rattle.mps_model.specs.Checked.{Checked}
use Rattle.mps_model.specs.World.{World}
use Rattle.mps_refinement.proofs.Collect.LiveIsFew.{most_now}
use Rattle.mps_trace.specs.declared.condemn.Condemn.{Condemn}
use Rattle.mps_abstract.specs.FlipLaws.{IsNumbered}
use Rattle.mps_trace_laws.specs.Flip.Condemned.{condemnation}
use Rattle.mps_heap_spec.specs.Collecting.{IsStarted, Starts}
use Rattle.mps_heap_spec.specs.State.{HeapState}
use Rattle.mps_heap_spec.specs.Units.{IsWhole}
use Rattle.mps_refinement.specs.Following.{unpaired}
use Rattle.mps_refinement.specs.StandsFor.{StandsFor}
use Rattle.mps_refinement.specs.UnitsLeft.{BeginsWithin, most_units_after, units_left}
use Rattle.mps_refinement.proofs.Following.WithoutPairs.{alone, parts_alone, started_without}
use Rattle.mps_refinement.proofs.Left.AfterFlips.{few_after_a_flip}
use Rattle.mps_refinement.proofs.Units.Starts.{AreChecked, accepted, may, not_accepted}
use Rattle.mps_refinement.proofs.Worlds.LikeReached.{bare_of, like_reached}
use Rattle.mps_refinement.proofs.Worlds.RunningNow.{known_bare, rests_bare}

module _ {F : Type 0} (layout : F → Layout) (h : HeapState F) (whole : IsWhole h) (m : Moves) (room : most_now h.segs ≤ m.spare)
    (w : World) (st : StandsFor layout h w) (made : WereMadeBefore h.points.flips h.points) (h' : HeapState F) (m' : Moves) where
  pub few_after_start : h.running ≡ None → (what : Condemn) → IsNumbered (condemnation what) → IsStarted layout what h m h' m'
      → units_left h' ≤ most_units_after what h
  few_after_start none what numbered =
      λ started. few_after_a_flip layout st.past (alone h) (unpaired w) (parts_alone st.parts) (known_bare layout h w st)
      (rests_bare layout h w st none) (bare_of w (like_reached w st.reached)) made whole.tails
      whole.marked m room what (may layout h whole m room w st none what numbered) (alone h') m' (started_without started)

  pub begins_within : (c : Call) (checked : Checked Condemn) (result : Checked (Unit {0})) → AreChecked h w c checked
      → Starts layout checked h m result h' m' → BeginsWithin checked h h'
  begins_within c _ result (accepted {what} none numbered is) starts = few_after_start none what numbered starts.1
  begins_within c _ result (not_accepted is) starts = ap (λ (g : HeapState F). units_left g) starts.1
