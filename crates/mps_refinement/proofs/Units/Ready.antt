-- A heap in which a collection runs can do any number of units, and ends the collection within as many as a caller counts on.
use Rattle.std.proofs.Common.{ℕ, ◌<◌, ◌≤◌, length, arith}
use Rattle.mps_base.specs.Trail.{Moves}
use Rattle.mps_format.specs.Layout.{Layout}
use Rattle.mps_seg.specs.Table.{IsMarked}
use Rattle.mps_model.specs.World.{World}
use Rattle.mps_trace.specs.Collect.{most_units}
use Rattle.mps_pools.specs.Pools.{trace_of}
use Rattle.mps_pools.specs.Collecting.{IsTraceOf}
use Rattle.mps_trace.specs.State.{FinalsState}
use Rattle.mps_trace.specs.Trace.{TraceState, Traced, traced}
use Rattle.mps_trace.specs.Unit.{AreUnitsReady, UnitsTo}
use Rattle.mps_trace.specs.declared.running.Running.{Running as RunningState}
use Rattle.mps_abstract.specs.Collecting.{Collecting, units_left}
use Rattle.mps_trace_laws.specs.Units.Standing.{UnitStands}
use Rattle.mps_trace_laws.proofs.Units.MovesBound.{units_are_bounded}
use Rattle.mps_trace_laws.proofs.Units.Ready.{units_are_ready}
use Rattle.mps_trace_laws.proofs.Units.Rows.{units_run_out}
use Rattle.mps_trace_laws.proofs.Units.Scanning.{scans_are_done}
use Rattle.mps_heap_spec.specs.State.{HeapState}
use Rattle.mps_refinement.specs.StandsFor.{AreParts, Past, Runs, collector_of}
use Rattle.mps_refinement.proofs.Collect.LiveIsFew.{most_now, units_are_below}
use Rattle.mps_refinement.proofs.Parts.LaidSegments.{blocks_in_order}
use Rattle.mps_refinement.proofs.Parts.Registered.{as_many}
use Rattle.mps_refinement.proofs.Units.ToUnits.{stands_for_units}
use Rattle.mps_refinement.proofs.Worlds.LikeReached.{IsBare}

module _ {F : Type 0} (layout : F → Layout) (past : Past) (h : HeapState F) (x : Collecting) (parts : AreParts layout past h x.world)
    (bare : IsBare x.world) (r : Runs past.time (collector_of h) x.world x) where
  abbrev w : World
  w = x.world

  -- fewer units are left than `park` and `collect` count on
  pub units_are_few : units_left x < most_units h.segs.grains (length h.finals.registered)
  units_are_few =
      let bounded = units_are_bounded x r.invariant in
      let many =
      as_many w.addresses past.time.at_flip past.time.next past.time.registered_before h.finals.registered w.graph.registered
      parts.registered
      in
      let below =
      units_are_below layout past h w parts bare.like.formed bare.like.kept.layout
      (blocks_in_order layout past h w parts bare.like.kept.layout) (length h.finals.registered)
      many
      in
      omega (arith, bounded, below)

  module _ (of : IsTraceOf h.pools h.chains (trace_of h.pools h.chains h.tails))
      (marked : IsMarked h.segs.grains h.segs.marks h.segs.condemned h.segs.summaries)
      (m : Moves) (room : most_now h.segs ≤ m.spare) where
    abbrev t : TraceState F
    t = trace_of h.pools h.chains h.tails

    stands : UnitStands layout t.formats t.chains past.time.at_flip (traced t h.segs m) h.finals r.run x
    stands = stands_for_units layout past h x parts bare r of marked m room

    -- any number of units can be done
    pub units_can_be_done : (most : ℕ) → AreUnitsReady layout t h.segs m h.finals r.run most
    units_can_be_done most =
        units_are_ready layout t h.segs m past.time.at_flip h.finals r.run x most
        (scans_are_done layout t.formats t.chains past.time.at_flip)
        stands

    -- and it doesn't go on after as many as that
    pub ends_in_time : (z : Traced) (f : FinalsState) (run : RunningState)
        → UnitsTo layout t.formats t.chains (traced t h.segs m) h.finals r.run (most_units h.segs.grains (length h.finals.registered)) z f
        run
        → ⊥
    ends_in_time z f run units =
        let few = units_are_few in
        let more =
        units_run_out layout t.formats t.chains past.time.at_flip (traced t h.segs m) z h.finals f r.run run x
        (most_units h.segs.grains (length h.finals.registered)) (scans_are_done layout t.formats t.chains past.time.at_flip) stands units
        in
        omega (arith, few, more)
