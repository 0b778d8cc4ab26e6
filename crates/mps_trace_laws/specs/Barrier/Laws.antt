-- What the read barrier of the tracing collector is to the abstract collector.
use Rattle.std.specs.Prelude.{◌≡◌, ◌<◌, false, IsTrue, Option, List, [], ◌++◌, Contains}
use Rattle.mps_base.specs.Address.{Address}
use Rattle.mps_base.specs.Segment.{Segment}
use Rattle.mps_base.specs.Trail.{Moves}
use Rattle.mps_base.specs.declared.moves.Move.{Move}
use Rattle.mps_format.specs.Layout.{Layout}
use Rattle.mps_format.specs.declared.pool.Policy.{Policy}
use Rattle.mps_seg.specs.Segs.{SegsState}
use Rattle.mps_trace.specs.GenState.{ChainsState}
use Rattle.mps_trace.specs.Access.{AccessesTo, CanAccess, too_many_scans}
use Rattle.mps_trace.specs.Trace.{TraceState, Traced, traced}
use Rattle.mps_trace.specs.declared.running.Band.{Band}
use Rattle.mps_abstract.specs.Collecting.{Collecting, Running, is_reclaiming_band, is_tracing_band, units_left}
use Rattle.mps_abstract.specs.Units.{BarrierDone}
use Rattle.mps_trace_laws.specs.Image.Memory.{pool_layout}
use Rattle.mps_trace_laws.specs.Image.Image.{AreShaped, black_cells}
use Rattle.mps_trace_laws.specs.Fix.Ranks.{AreMarksRanked}
use Rattle.mps_trace_laws.specs.Fix.Tracing.{TracingStands}
use Rattle.mps_trace_laws.specs.Units.Standing.{band_of}

-- a collection runs that doesn't reclaim yet, and the state represents it. Grey marks have the rank of their segments, and once weak
-- objects are scanned as such no object has a dependent
pub record StandsForBarrier {F : Type 0} (layout : F → Layout) (formats : List (Option (Policy F))) (of : ChainsState)
    (at_flip : List (Option Address)) (x : Traced) (y : Collecting) : Type 0 where
  pub running : Running y
  pub band : is_reclaiming_band y.band ≡ false
  pub shaped : AreShaped y.world.graph.objects (pool_layout y.world)
  pub traces : TracingStands layout formats of at_flip (black_cells y.running.condemned y.colours) x y
  pub ranked : AreMarksRanked x.segs
  pub none_dependent : is_tracing_band y.band ≡ false → y.world.graph.dependents ≡ []

-- a collector is as far as it was: its band, its cursor, and the registrations that it has examined and still has to
pub record IsNoFurther (x y : Collecting) : Type 0 where
  pub band : y.band ≡ x.band
  pub cursor : y.cursor ≡ x.cursor
  pub next : y.next ≡ x.next
  pub registered_before : y.running.registered_before ≡ x.running.registered_before
  pub registered : y.world.graph.registered ≡ x.world.graph.registered
  pub messages : y.world.graph.messages ≡ x.world.graph.messages

-- a read barrier of the abstract collector, by the moves of the trail, after which the state represents it, and which gets it no further
pub record IsBarrierOf {F : Type 0} (layout : F → Layout) (formats : List (Option (Policy F))) (of : ChainsState)
    (at_flip : List (Option Address)) (t : Segment) (x z : Traced) (y : Collecting) : Type 0 where
  pub moves : List Move
  pub after : Collecting
  pub barrier : BarrierDone t y moves after
  pub no_further : IsNoFurther y after
  pub stands : StandsForBarrier layout formats of at_flip z after
  pub trail : z.moves.moves ≡ x.moves.moves ++ moves

-- what `access` does with a held segment is a read barrier there: its grey blocks are scanned, as weak ones in the weak band
abbrev pub AnAccessIsABarrier : (F : Type 0) → Type 0
AnAccessIsABarrier F =
    (layout : F → Layout) (formats : List (Option (Policy F))) (of : ChainsState) (at_flip : List (Option Address))
    (band : Band) (t : Segment) (x z : Traced) (y : Collecting) → StandsForBarrier layout formats of at_flip x y
    → band_of band ≡ y.band → Contains x.segs.segments t → AccessesTo layout formats of band t x z
    → IsBarrierOf layout formats of at_flip t x z y

-- and each of them can be scanned when its turn comes
abbrev pub AnAccessCanBeDone : (F : Type 0) → Type 0
AnAccessCanBeDone F =
    (layout : F → Layout) (t : TraceState F) (s : SegsState) (m : Moves) (at_flip : List (Option Address)) (band : Band)
    (segment : Segment) (y : Collecting) → StandsForBarrier layout t.formats t.chains at_flip (traced t s m) y
    → band_of band ≡ y.band → Contains s.segments segment → units_left y < too_many_scans → CanAccess layout band t s m segment

-- once it reclaims a barrier has nothing to do
abbrev pub AReclaimNeedsNoBarrier : Type 0
AReclaimNeedsNoBarrier = (t : Segment) (y : Collecting) → Running y → IsTrue (is_reclaiming_band y.band) → BarrierDone t y [] y
