-- What the segments of an arena at rest represent before a full flip, and what a collector has to know of pools then.
use Rattle.std.specs.Prelude.{◌≡◌, ℕ, ◌+◌, ◌≤◌, false, IsTrue, [], length}
use Rattle.mps_base.specs.Address.{Grain}
use Rattle.mps_base.specs.Generation.{target_generation}
use Rattle.mps_base.specs.Run.{in_order}
use Rattle.mps_base.specs.Trail.{Moves}
use Rattle.mps_extents.specs.Table.{bit}
use Rattle.mps_format.specs.Layout.{Layout}
use Rattle.mps_seg.specs.Segs.{SegsState}
use Rattle.mps_buffer.specs.Points.{PointsState}
use Rattle.mps_amc.specs.Amc.{HasTail}
use Rattle.mps_trace.specs.GenState as chains
use Rattle.mps_model.specs.World.{World, is_automatic_kind, is_copying_pool, generations_of, pool_is}
use Rattle.mps_abstract.specs.FlipLaws.{IsAtRest}
use Rattle.mps_trace_laws.specs.Image.AtRest.{StandsAtRest, AreTargetsLive}
use Rattle.mps_trace_laws.specs.Image.Image.{AreShaped}
use Rattle.mps_trace_laws.specs.Image.Memory.{pool_layout}
use Rattle.mps_trace.specs.Trace.{TraceState}
use Rattle.mps_trace_laws.specs.Fix.Housed.{AreHoused, AreStrongMoving}
use Rattle.mps_trace_laws.specs.Fix.Tracing.{AreSegmentsOf, AreHeld, HasTables, AreCoveredInOrder, AreReservationsHeld, AreKnownPools}
use Rattle.mps_trace_laws.specs.Nails.Nailed.{AreTablesWhole, AreMarkedAt}
use Rattle.mps_trace_laws.specs.Begin.MovesOfObjects.{moves_of}
use Rattle.mps_trace_laws.specs.Flip.Condemned.{AreFormatsOf, AreMovesOf}
use Rattle.mps_trace_laws.specs.Flip.Ended.{open_runs}
use Rattle.mps_trace_laws.specs.Units.Finals.{AreDue}

-- the segments of an arena at rest, as a world has them: nothing is marked or condemned, and each block and each live reservation lies
-- in a held segment
pub record AreSegmentsAtRest (s : SegsState) (w : World) : Type 0 where
  pub segments : AreSegmentsOf s w.grains w.limit w.segments
  pub held : AreHeld s
  pub tables : HasTables s
  pub whole : AreTablesWhole s
  pub covered : AreCoveredInOrder s
  pub image : StandsAtRest s w
  pub not_condemned : (grain : Grain) → bit s.condemned grain ≡ false
  pub unmarked : AreMarkedAt s (λ n. false)
  pub housed : AreHoused w.graph.objects s.segments w.addresses
  pub reserved : AreReservationsHeld s w.graph.points w.point_memories

-- the pools of a world as a collector knows them: it has the format of each automatic pool, and moves the blocks of exactly those that
-- copy, each of which has words at hand for each generation
pub record ArePoolsKnown {F : Type 0} (layout : F → Layout) (t : TraceState F) (w : World) : Type 0 where
  pub formats : AreFormatsOf t.formats (pool_is is_automatic_kind w)
  pub moves : AreMovesOf t.formats (is_copying_pool w)
  pub pools : AreKnownPools layout t.formats t.chains (pool_is is_automatic_kind w) (is_copying_pool w) (pool_layout w) (generations_of w)
  pub tails : (pool generation : ℕ) → IsTrue (is_copying_pool w pool)
      → HasTail t.amc pool (target_generation (chains.generations_of t.chains pool) generation)

-- a world at rest, and its objects. Those that are registered are live and automatic, those that move aren't weak, and none has a dependent
pub record AreObjectsAtRest (w : World) : Type 0 where
  pub rest : IsAtRest w
  pub due : AreDue w.addresses w.graph.objects w.graph.registered 0 (length w.graph.registered)
  pub strong_moving : AreStrongMoving w
  pub none_dependent : w.graph.dependents ≡ []
  pub shaped : AreShaped w.graph.objects (pool_layout w)
  pub targets_live : AreTargetsLive w.graph.objects w.addresses

-- all that a full flip needs: the reservations of the segments are those of points that no flip ended, and there is room for all
-- moves of a collection
pub record StandsBefore {F : Type 0} (layout : F → Layout) (t : TraceState F) (s : SegsState) (m : Moves) (points : PointsState) (w : World)
    : Type 0 where
  pub objects : AreObjectsAtRest w
  pub segments : AreSegmentsAtRest s w
  pub pools : ArePoolsKnown layout t w
  pub reservations : s.reservations ≡ in_order (open_runs points.flips points.points)
  pub room : moves_of (is_copying_pool w) w.graph.objects w.addresses + length w.segments + 4 ≤ m.spare
