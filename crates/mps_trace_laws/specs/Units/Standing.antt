-- When the segments and the moves of a collector represent the abstract collector between two units of a collection.
use Rattle.std.specs.Prelude.{◌≡◌, ℕ, ◌+◌, ◌*◌, ◌≤◌, Bool, true, false, IsTrue, Option, List, [], Contains}
use Rattle.mps_base.specs.Address.{Address, word_of, words_of_grain, grain_of}
use Rattle.mps_base.specs.Segment.{Segment, end_of_segment}
use Rattle.mps_extents.specs.Table.{bit}
use Rattle.mps_format.specs.Layout.{Layout}
use Rattle.mps_seg.specs.Segs.{SegsState}
use Rattle.mps_trace.specs.GenState.{ChainsState}
use Rattle.mps_model.specs.Graph.{Point}
use Rattle.mps_model.specs.World.{World, PointMemory, is_automatic_kind, is_copying_pool, generations_of, pool_is}
use Rattle.mps_abstract.specs.Colours.{AreAllScanned}
use Rattle.mps_abstract.specs.Collecting.{Band, Exact, Final, Weak, Reclaim, Collecting, Running, AreAllExamined, is_reclaiming_band}
use Rattle.mps_trace_laws.specs.Image.Memory.{pool_layout}
use Rattle.mps_trace_laws.specs.Image.Image.{AreShaped, black_cells}
use Rattle.mps_trace.specs.Trace.{Traced}
use Rattle.mps_trace.specs.declared.running.Band.{Band as RunningBand}
use Rattle.mps_trace.specs.declared.running.Band.TheVariants as working
use Rattle.mps_trace.specs.declared.running.Running.{Running as RunningState}
use Rattle.mps_trace_laws.specs.Fix.Housed.{AreHoused, AreStrongMoving}
use Rattle.mps_trace_laws.specs.Fix.Ranks.{AreMarksRanked}
use Rattle.mps_trace_laws.specs.Fix.Tracing.{AreKnownPools, AreSegmentsOf, TracingStands}
use Rattle.mps_trace_laws.specs.Fix.Room.{moves_left}
use Rattle.mps_trace_laws.specs.Reclaim.Left.{IsUnreserved}
use Rattle.mps_trace_laws.specs.Reclaim.Units.{FreesFor}
use Rattle.mps_trace_laws.specs.Units.Finals.{AreFinals, AreDue}
use Rattle.mps_trace.specs.State.{FinalsState}
use Rattle.mps_format.specs.declared.pool.Policy.{Policy}

-- what units leave as it is of a world: its objects are blocks of their formats, what moves isn't weak, and no object has a dependent. The
-- collector knows its pools
pub record AreObjectsKnown {F : Type 0} (layout : F → Layout) (formats : List (Option (Policy F))) (of : ChainsState)
    (w : World) : Type 0 where
  pub shaped : AreShaped w.graph.objects (pool_layout w)
  pub pools : AreKnownPools layout formats of (pool_is is_automatic_kind w) (is_copying_pool w) (pool_layout w) (generations_of w)
  pub strong_moving : AreStrongMoving w
  pub none_dependent : w.graph.dependents ≡ []

-- no live reservation lies in a condemned segment of a pool that moves its blocks
abbrev pub AreCondemnedUnreserved : SegsState → (is_copying : ℕ → Bool) → List (Option Point) → List PointMemory → Type 0
AreCondemnedUnreserved s is_copying points memories =
    (t : Segment) → Contains s.segments t → bit s.condemned (grain_of t.base) ≡ true → IsTrue (is_copying t.pool)
    → IsUnreserved points memories t

-- the segments lie in the arena
abbrev pub AreInArena : SegsState → Type 0
AreInArena s = (t : Segment) → Contains s.segments t → word_of (end_of_segment t) ≤ words_of_grain * (s.grains + 1)

-- objects are traced, or weak ones are scanned: the cells of black objects are fixed, each object lies in one segment of its rank, and
-- each grey block has the mark of its segment's rank
pub record StandsTracing {F : Type 0} (layout : F → Layout) (formats : List (Option (Policy F))) (of : ChainsState)
    (at_flip : List (Option Address)) (x : Traced) (y : Collecting) : Type 0 where
  pub traces : TracingStands layout formats of at_flip (black_cells y.running.condemned y.colours) x y
  pub band : is_reclaiming_band y.band ≡ false
  pub housed : AreHoused y.world.graph.objects x.segs.segments y.world.addresses
  pub ranked : AreMarksRanked x.segs

-- the last band: nothing is grey, all registrations are examined, and there is room for the moves that are left
pub record StandsReclaiming (x : Traced) (y : Collecting) : Type 0 where
  pub segments : AreSegmentsOf x.segs y.world.grains y.world.limit y.world.segments
  pub frees : FreesFor x.segs y.world y.running y.colours (pool_layout y.world)
  pub scanned : AreAllScanned y.colours
  pub examined : AreAllExamined y
  pub inside : AreInArena x.segs
  pub room : moves_left y + 2 ≤ x.moves.spare

-- the one or the other
pub data StandsInBand {F : Type 0} (layout : F → Layout) (formats : List (Option (Policy F))) (of : ChainsState)
    (at_flip : List (Option Address)) (x : Traced) (y : Collecting) : Type 0
  where
    tracing : StandsTracing layout formats of at_flip x y → StandsInBand layout formats of at_flip x y
    reclaiming : StandsReclaiming x y → IsTrue (is_reclaiming_band y.band) → StandsInBand layout formats of at_flip x y

-- the band of the abstract collector that a collection works in
abbrev pub band_of : RunningBand → Band
band_of working.Exact = Exact
band_of working.Final = Final
band_of working.Weak = Weak
band_of working.Reclaim = Reclaim

-- registrations and messages by what collects
abbrev pub AreFinalsOf : (at_flip : List (Option Address)) → Collecting → FinalsState → Type 0
AreFinalsOf at_flip y f =
    AreFinals at_flip y.world.addresses y.world.graph.registered y.world.graph.messages y.next y.running.registered_before f

-- between two units: the abstract collector runs, works in the same band, and has examined and reclaimed as much
pub record UnitStands {F : Type 0} (layout : F → Layout) (formats : List (Option (Policy F))) (of : ChainsState)
    (at_flip : List (Option Address)) (x : Traced) (f : FinalsState) (run : RunningState) (y : Collecting) : Type 0 where
  pub running : Running y
  pub same_band : band_of run.band ≡ y.band
  pub next : run.next ≡ y.next
  pub before : run.registered_before ≡ y.running.registered_before
  pub finals : AreFinalsOf at_flip y f
  -- those that are still to be examined are of objects that were live then
  pub due : AreDue at_flip y.world.graph.objects y.world.graph.registered y.next y.running.registered_before
  pub cursor : run.cursor.0 ≡ y.cursor
  pub moving : AreObjectsKnown layout formats of y.world
  pub unreserved : AreCondemnedUnreserved x.segs (is_copying_pool y.world) y.world.graph.points y.world.point_memories
  pub band : StandsInBand layout formats of at_flip x y
