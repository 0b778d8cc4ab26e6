-- A heap that can be collected stands, with what its owner knows of its pools, as a flip of everything needs it.
use Rattle.std.proofs.Common.{◌≡◌, ◌≤◌, [], arith}
use Rattle.mps_base.specs.Trail.{Moves}
use Rattle.mps_format.specs.Layout.{Layout}
use Rattle.mps_model.specs.World.{World}
use Rattle.mps_root.specs.State.{kept}
use Rattle.mps_seg.specs.Table.{IsMarked}
use Rattle.mps_trace.specs.Trace.{TraceState}
use Rattle.mps_trace_laws.specs.Begin.Before.{StandsBefore}
use Rattle.mps_pools.specs.Collecting.{IsTraceOf}
use Rattle.mps_heap_spec.specs.State.{HeapState}
use Rattle.mps_refinement.specs.StandsFor.{AreParts, AreSlots, Past, Rests, collector_of}
use Rattle.mps_refinement.proofs.Collect.CollectRight.{IsBefore}
use Rattle.mps_refinement.proofs.Collect.KeysInOrder.{keys_in_order}
use Rattle.mps_refinement.proofs.Collect.LiveIsFew.{most_now, moves_are_few}
use Rattle.mps_refinement.proofs.Collect.OpenReservations.{reservations_are_open}
use Rattle.mps_refinement.proofs.Collect.ObjectsAtRest.{objects_at_rest}
use Rattle.mps_refinement.proofs.Collect.PoolsKnown.{pools_known}
use Rattle.mps_refinement.proofs.Collect.RootsHeld.{roots_held, rows, words_shown}
use Rattle.mps_refinement.proofs.Collect.SegmentsAtRest.{segments_at_rest}
use Rattle.mps_refinement.proofs.Parts.LaidSegments.{blocks_in_order}
use Rattle.mps_refinement.proofs.Worlds.Known.{IsKnown}

module _ {F : Type 0} (layout : F → Layout) (past : Past) (h : HeapState F) (w : World) (parts : AreParts layout past h w)
    (known : IsKnown past.time w) (none : w.graph.dependents ≡ []) (rest : Rests past.time (collector_of h) w)
    (marked : IsMarked h.segs.grains h.segs.marks h.segs.condemned h.segs.summaries)
    (m : Moves) (room : most_now h.segs ≤ m.spare) where
  -- whatever words are at hand for its pools
  pub stands_before : (t : TraceState F) → IsTraceOf h.pools h.chains t → StandsBefore layout t h.segs m h.points w
  stands_before t of =
      let few =
      moves_are_few layout past h w parts known.formed known.laid (blocks_in_order layout past h w parts known.laid) known.graph
      in
      record {
        objects = objects_at_rest layout past h w parts past.time known rest.none none;
        segments = segments_at_rest layout past h w parts known.laid rest marked;
        pools = pools_known layout h.pools h.chains t w parts.pools parts.chains of;
        reservations = reservations_are_open layout past h w parts;
        room = omega (arith, few, room);
      }

  -- and all that is asked for of a heap that collects
  pub is_before : IsBefore layout h m w
  is_before = record {
    stands = stands_before;
    rows = rows layout past h w parts known.graph known.held;
    roots = roots_held layout past h w parts known.graph known.held rest.time;
    areas = words_shown layout past h w parts known.graph known.held;
    ordered =
        keys_in_order (AreSlots w.addresses) past.table_number h.roots (kept h.roots.tables) w.graph.tables parts.tables parts.ordered;
  }
