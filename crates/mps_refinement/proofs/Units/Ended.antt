-- A running collection that ends within n units: the heap stands for the world at rest.
use Rattle.std.proofs.Common.{ℕ, suc, ◌≤◌, refl, List, Option, None}
use Rattle.mps_base.specs.Address.{Address}
use Rattle.mps_base.specs.Trail.{Moves}
use Rattle.mps_format.specs.Layout.{Layout}
use Rattle.mps_model.specs.Effect.{world_after_moves}
use Rattle.mps_model.specs.History.{HeldAreLive}
use Rattle.mps_model.specs.World.{World}
use Rattle.mps_seg.specs.Table.{IsMarked}
use Rattle.mps_refinement.proofs.Collect.LiveIsFew.{most_now}
use Rattle.mps_pools.specs.Pools.{trace_of}
use Rattle.mps_pools.specs.Collecting.{IsTraceOf}
use Rattle.mps_trace.specs.State.{FinalsState}
use Rattle.mps_trace.specs.Trace.{TraceState, Traced, traced}
use Rattle.mps_trace.specs.Unit.{EndsWithin}
use Rattle.mps_abstract.specs.Collecting.{Collecting}
use Rattle.mps_abstract.specs.Laws.{AreLastUnitsDone}
use Rattle.mps_abstract.specs.Leaving.{EndsCollected}
use Rattle.mps_abstract.proofs.KeptPlaces.{ends_stay}
use Rattle.mps_abstract.proofs.Leavings.{ends_move}
use Rattle.mps_abstract.proofs.Rows.{last_units_done}
use Rattle.mps_trace_laws.specs.Units.Laws.{AreLastTracedUnitsDone}
use Rattle.mps_trace_laws.proofs.Units.Rows.{the_end_is_done}
use Rattle.mps_trace_laws.proofs.Units.Scanning.{scans_are_done}
use Rattle.mps_heap_spec.specs.State.{HeapState}
use Rattle.mps_refinement.specs.StandsFor.{AreParts, CollectorState, Past, Rests, Runs, collector_of, rests, time_at_rest}
use Rattle.mps_refinement.specs.RightMoving.{KeepsRoom}
use Rattle.mps_refinement.proofs.Collect.CollectedSegments.{none_condemned, none_kept}
use Rattle.mps_refinement.proofs.Collect.PushedMoves.{none_pushed}
use Rattle.mps_refinement.proofs.Collect.RoomKept.{units_keep_room}
use Rattle.mps_refinement.proofs.Parts.Registered.{registered_at_the_end}
use Rattle.mps_refinement.proofs.Units.MovedParts.{collected_heap, parts_moved}
use Rattle.mps_refinement.proofs.Units.ToUnits.{stands_for_units}
use Rattle.mps_refinement.proofs.Worlds.InSteps.{known_after_last_units, live_after_last_units}
use Rattle.mps_refinement.proofs.Worlds.Known.{IsKnown}
use Rattle.mps_trace_laws.specs.Summaries.Summed.{AreWordsSummed}
use Rattle.mps_trace_laws.proofs.Summaries.UnitRows.{the_end_keeps}
use Rattle.mps_refinement.proofs.Worlds.LikeReached.{IsBare}

-- what the collector has once its collection has ended
abbrev pub collector_at_rest : Traced → CollectorState
collector_at_rest z = record { segs = z.segs; tails = z.amc; running = None }

module _ {F : Type 0} (layout : F → Layout) (past : Past) (h : HeapState F) (x : Collecting) (parts : AreParts layout past h x.world)
    (bare : IsBare x.world) (r : Runs past.time (collector_of h) x.world x)
    (of : IsTraceOf h.pools h.chains (trace_of h.pools h.chains h.tails))
    (marked : IsMarked h.segs.grains h.segs.marks h.segs.condemned h.segs.summaries)
    (m : Moves) (room : most_now h.segs ≤ m.spare) (most : ℕ) (z : Traced) (f : FinalsState)
    (ends : EndsWithin layout (trace_of h.pools h.chains h.tails).formats (trace_of h.pools h.chains h.tails).chains
    (traced (trace_of h.pools h.chains h.tails) h.segs m) h.finals r.run most z f) where
  abbrev w : World
  w = x.world

  abbrev t : TraceState F
  t = trace_of h.pools h.chains h.tails

  abbrev at_flip : List (Option Address)
  at_flip = past.time.at_flip

  abbrev here : Traced
  here = traced t h.segs m

  pub done : AreLastTracedUnitsDone here x (suc ends.count) z f
  done =
      the_end_is_done layout t.formats t.chains at_flip here z h.finals f r.run x most (scans_are_done layout t.formats t.chains at_flip)
      (stands_for_units layout past h x parts bare r of marked m room) ends

  pub last : AreLastUnitsDone x (suc ends.count) done.moves
  last = last_units_done x (suc ends.count) done.moves r.invariant done.units

  -- the world at rest
  abbrev pub v : World
  v = world_after_moves w done.moves

  pub left : EndsCollected w v
  left = ends_move r.invariant done.units

  pub live : HeldAreLive v
  live = live_after_last_units x (suc ends.count) done.moves bare.like r.invariant done.units

  abbrev pub heap_after : HeapState F
  heap_after = collected_heap h (collector_at_rest z) f

  pub rests_after : Rests time_at_rest (collector_at_rest z) v
  rests_after = record {
    none = done.ended;
    time = refl;
    not_running = refl;
    not_condemned = none_condemned ends.last.before z ends.last.over;
    not_kept = none_kept ends.last.before z ends.last.over;
  }

  pub knows_after : IsKnown time_at_rest v
  knows_after =
      known_after_last_units time_at_rest (collector_at_rest z) x (suc ends.count) done.moves bare.like r.invariant done.units
      (rests rests_after)

  -- words stay summed
  pub summed_after : AreWordsSummed layout t.formats z.segs
  summed_after =
      the_end_keeps layout t.formats t.chains at_flip here z h.finals f r.run x most
      (stands_for_units layout past h x parts bare r of marked m room) parts.summed ends

  pub parts_after : AreParts layout (record past { time = time_at_rest }) heap_after v
  parts_after =
      parts_moved layout past h x parts bare.like.formed bare.none r.invariant v left.but_collected (ends_stay r.invariant done.units)
      time_at_rest (collector_at_rest z) f done.segments done.stands
      (registered_at_the_end v f done.finals knows_after.formed.registered) done.finals.waiting summed_after

  -- and the trail keeps its room
  pub keeps_room : KeepsRoom m z.moves
  keeps_room =
      units_keep_room layout t at_flip m here z h.finals f r.run x most (scans_are_done layout t.formats t.chains at_flip)
      (stands_for_units layout past h x parts bare r of marked m room) (none_pushed m) ends
