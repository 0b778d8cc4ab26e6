-- N units of a running collection, after which it goes on: what they are to the abstract collector, and that the heap stands for the world
-- after them, also once a call has asked for them.
use Rattle.std.proofs.Common.{ℕ, ◌<◌, ◌≤◌, refl, List, Option, arith}
use Rattle.mps_base.specs.Address.{Address}
use Rattle.mps_base.specs.Trail.{Moves}
use Rattle.mps_format.specs.Layout.{Layout}
use Rattle.mps_model.specs.World.{World}
use Rattle.mps_seg.specs.Table.{IsMarked}
use Rattle.mps_refinement.proofs.Collect.LiveIsFew.{most_now}
use Rattle.mps_pools.specs.Pools.{trace_of}
use Rattle.mps_pools.specs.Collecting.{IsTraceOf}
use Rattle.mps_trace.specs.State.{FinalsState}
use Rattle.mps_trace.specs.Trace.{TraceState, Traced, traced}
use Rattle.mps_trace.specs.Unit.{UnitsTo}
use Rattle.mps_trace.specs.declared.running.Running.{Running as RunningState}
use Rattle.mps_abstract.specs.Collecting.{Collecting}
use Rattle.mps_abstract.specs.Laws.{AreUnitsDone}
use Rattle.mps_abstract.specs.Leaving.{IsButCollected}
use Rattle.mps_abstract.specs.Staying.{StaysInPlace}
use Rattle.mps_abstract.specs.Units.{asked}
use Rattle.mps_abstract.proofs.KeptPlaces.{units_stay}
use Rattle.mps_abstract.proofs.Leavings.{units_move}
use Rattle.mps_abstract.proofs.Rows.{units_done}
use Rattle.mps_trace_laws.specs.Units.Laws.{AreTracedUnitsDone}
use Rattle.mps_trace_laws.proofs.Units.Rows.{units_are_done}
use Rattle.mps_trace_laws.proofs.Units.Scanning.{scans_are_done}
use Rattle.mps_heap_spec.specs.State.{HeapState}
use Rattle.mps_refinement.specs.RightMoving.{KeepsRoom}
use Rattle.mps_refinement.specs.StandsFor.{AreParts, Past, Runs, Time, collector_of}
use Rattle.mps_refinement.proofs.Collect.PushedMoves.{pushed_keeps, told_below, units_push}
use Rattle.mps_refinement.proofs.Collect.RoomKept.{has_room}
use Rattle.mps_refinement.proofs.Parts.PartsByKind.{parts_of_kinds, arena_of, finals_of, image_of, points_of, pools_of, roots_of, states_of}
use Rattle.mps_refinement.proofs.Units.FromUnits.{collector_after, parts_then, runs_then, time_then}
use Rattle.mps_refinement.proofs.Units.MovedParts.{collected_heap}
use Rattle.mps_refinement.proofs.Units.ToUnits.{stands_for_units}
use Rattle.mps_trace_laws.specs.Summaries.Summed.{AreWordsSummed}
use Rattle.mps_trace_laws.proofs.Summaries.UnitRows.{units_keep}
use Rattle.mps_refinement.proofs.Worlds.LikeReached.{IsBare}

module _ {F : Type 0} (layout : F → Layout) (past : Past) (h : HeapState F) (x : Collecting) (parts : AreParts layout past h x.world)
    (bare : IsBare x.world) (r : Runs past.time (collector_of h) x.world x)
    (of : IsTraceOf h.pools h.chains (trace_of h.pools h.chains h.tails))
    (marked : IsMarked h.segs.grains h.segs.marks h.segs.condemned h.segs.summaries)
    (m : Moves) (room : most_now h.segs ≤ m.spare) (n : ℕ) (z : Traced) (f : FinalsState) (run : RunningState)
    (units : UnitsTo layout (trace_of h.pools h.chains h.tails).formats (trace_of h.pools h.chains h.tails).chains
    (traced (trace_of h.pools h.chains h.tails) h.segs m) h.finals r.run n z f run) where
  abbrev w : World
  w = x.world

  abbrev t : TraceState F
  t = trace_of h.pools h.chains h.tails

  abbrev at_flip : List (Option Address)
  at_flip = past.time.at_flip

  abbrev here : Traced
  here = traced t h.segs m

  pub done : AreTracedUnitsDone layout t.formats t.chains at_flip here x n z f run
  done =
      units_are_done layout t.formats t.chains at_flip here z h.finals f r.run run x n (scans_are_done layout t.formats t.chains at_flip)
      (stands_for_units layout past h x parts bare r of marked m room) units

  pub shown : AreUnitsDone x n done.moves done.after
  shown = units_done x done.after n done.moves r.invariant done.units

  pub left : IsButCollected w done.after.world
  left = units_move r.invariant done.units

  pub stays : StaysInPlace x done.after
  stays = units_stay r.invariant done.units

  abbrev pub time_after : Time
  time_after =
      time_then layout past h x parts bare.like.formed bare.none r.invariant r.flip t.formats t.chains done.after done.moves shown.leads
      left stays z f run done.stands

  abbrev pub heap_after : HeapState F
  heap_after = collected_heap h (collector_after z run) f

  -- words stay summed
  pub summed_after : AreWordsSummed layout t.formats z.segs
  summed_after =
      units_keep layout t.formats t.chains at_flip here z h.finals f r.run run x n
      (stands_for_units layout past h x parts bare r of marked m room) parts.summed units

  pub parts_after : AreParts layout (record past { time = time_after }) heap_after done.after.world
  parts_after =
      parts_then layout past h x parts bare.like.formed bare.none r.invariant r.flip t.formats t.chains done.after done.moves shown.leads
      left stays z f run done.stands summed_after

  pub runs_after : Runs time_after (collector_after z run) done.after.world done.after
  runs_after =
      runs_then layout past h x parts bare.like.formed bare.none r.invariant r.flip t.formats t.chains done.after done.moves shown.leads
      left stays z f run done.stands

  -- a move is still left in the trail
  pub room_left : 0 < z.moves.spare
  room_left = has_room layout t at_flip z f run done.after done.stands

  -- the trail keeps its room, since there is some left
  pub keeps_room : KeepsRoom m z.moves
  keeps_room =
      let pushed = units_push layout t.formats t.chains here h.finals r.run n z f run units in
      let below = told_below pushed room_left in
      pushed_keeps pushed (omega (arith, below))

  -- ---- once a call has asked for them

  abbrev pub later : Collecting
  later = asked done.after n

  pub parts_later : AreParts layout (record past { time = time_after }) heap_after later.world
  parts_later =
      let p = parts_after in
      parts_of_kinds (arena_of p) (image_of p) (roots_of p) (points_of p) (finals_of p) p.dependencies (pools_of p) p.names (states_of p)

  pub runs_later : Runs time_after (collector_after z run) later.world later
  runs_later =
      let q = runs_after in
      record {
        world = refl;
        invariant = shown.asked_running;
        run = q.run;
        running = q.running;
        as_far = record {
          band = q.as_far.band;
          cursor = q.as_far.cursor;
          next = q.as_far.next;
          registered_before = q.as_far.registered_before;
        };
        condemned_ids = q.condemned_ids;
        colours = q.colours;
        next = q.next;
        registered_before = q.registered_before;
        tracing = λ e. let traces = q.tracing e in record {
          read = traces.read;
          band = traces.band;
          tails = traces.tails;
          ranked = traces.ranked;
        };
        reclaiming = λ e. let freed = q.reclaiming e in record {
          none_at_flip = freed.none_at_flip;
          read = freed.read;
          band = freed.band;
          scanned = freed.scanned;
          examined = freed.examined;
        };
        condemned = q.condemned;
        flip = record { made = q.flip.made; still = q.flip.still };
      }
