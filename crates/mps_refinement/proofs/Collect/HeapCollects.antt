-- The call `collect` of a heap that stands for a world: it can be done, it is right, and its trail keeps its room.
use Rattle.mps_refinement.proofs.Parts.Resting.{registered_at_rest}
use Rattle.std.proofs.Common.{◌∙◌, ◌+◌, ◌<◌, ◌≤◌, ap, length}
use Rattle.std.proofs.lemmas.List.{length-map}
use Rattle.mps_base.specs.Trail.{Moves}
use Rattle.mps_format.specs.Layout.{Layout}
use Rattle.mps_model.specs.World.{World, live_ids}
use Rattle.mps_trace.specs.Collect.{most_units}
use Rattle.mps_trace_laws.proofs.Units.Scanning.{scans_are_done}
use Rattle.mps_trace_laws.proofs.Begin.Acted.{a_collection_begins}
use Rattle.mps_trace_laws.proofs.Begin.FlipStands.{flip_stands}
use Rattle.mps_trace_laws.proofs.Begin.OverAtOnce.{a_collection_of_nothing_ends}
use Rattle.mps_trace_laws.proofs.Begin.UnitsFew.{units_are_few}
use Rattle.mps_heap_spec.specs.State.{HeapState}
use Rattle.mps_refinement.specs.StandsFor.{address_of_id}
use Rattle.mps_refinement.proofs.Collect.BeforeAFlip.{is_before}
use Rattle.mps_refinement.proofs.Collect.CanCollect.{can_collect_all}
use Rattle.mps_refinement.proofs.Collect.LiveIsFew.{most_now, units_are_below}
use Rattle.mps_refinement.proofs.Parts.LaidSegments.{blocks_in_order}
use Rattle.mps_refinement.proofs.Worlds.Ready.{all_reserved}
use Rattle.mps_refinement.proofs.Collect.CollectRight.{IsBefore, IsWholeMade, right_there}
use Rattle.mps_refinement.proofs.Collect.Finished.{HasFinished}
use Rattle.mps_heap_spec.specs.Collecting.{CanCollectAll, IsCollected}
use Rattle.mps_buffer.specs.Points.{WereMadeBefore}
use Rattle.mps_seg.specs.Table.{IsMarked}

-- ---- once what ran before is finished

module _ {F : Type 0} (layout : F → Layout) (h : HeapState F) (m : Moves) (w : World) (st : HasFinished layout h w)
    (marked : IsMarked h.segs.grains h.segs.marks h.segs.condemned h.segs.summaries) (room : most_now h.segs ≤ m.spare) where
  -- all that has to be known of it before
  before : IsBefore layout h m w
  before = is_before layout st.past h w st.parts st.known st.bare.none st.rest marked m room

  -- it has fewer units than it does at most
  units_few : length (live_ids w) + length w.graph.registered + length w.segments
      < most_units h.segs.grains (length h.finals.registered)
  units_few =
      let registered = registered_at_rest layout st.past h w st.parts st.rest.time in
      units_are_below layout st.past h w st.parts st.known.formed st.known.laid
      (blocks_in_order layout st.past h w st.parts st.known.laid) (length h.finals.registered)
      (ap length registered ∙ length-map w.graph.registered (address_of_id w.addresses))

  -- it can collect, whatever the tails of its pools are
  pub a_finished_heap_can_collect : CanCollectAll layout h m
  a_finished_heap_can_collect =
      can_collect_all layout h m w (all_reserved layout st.past h w st.parts) before
      (a_collection_begins flip_stands) units_are_few (scans_are_done layout) units_few

  -- and then that is one of everything
  pub a_finished_heap_collects : (h' : HeapState F) (m' : Moves) → WereMadeBefore h.points.flips h.points → IsCollected layout h m h' m'
      → IsWholeMade layout w m h' m'
  a_finished_heap_collects h' m' made collected =
      right_there layout (a_collection_begins flip_stands) a_collection_of_nothing_ends (scans_are_done layout) h m h' m'
      collected made w st before
