-- What keeps the summaries of segments, and what they tell at rest.
use Rattle.std.specs.Prelude.{◌≡◌, ℕ, List, [], Option, Contains}
use Rattle.mps_base.specs.Address.{Address, Id}
use Rattle.mps_base.specs.Segment.{Segment}
use Rattle.mps_base.specs.Trail.{Moves}
use Rattle.mps_base.specs.declared.address.Addr.{Addr}
use Rattle.mps_buffer.specs.Points.{PointsState}
use Rattle.mps_format.specs.Layout.{Layout}
use Rattle.mps_format.specs.declared.pool.Policy.{Policy}
use Rattle.mps_seg.specs.Segs.{SegsState}
use Rattle.mps_seg.specs.Collecting.{summary_at}
use Rattle.mps_trace.specs.GenState.{ChainsState}
use Rattle.mps_model.specs.Graph.{Object}
use Rattle.mps_model.specs.World.{World, area_words}
use Rattle.mps_root.specs.State.{RootsState}
use Rattle.mps_trace.specs.Begin.{Begins}
use Rattle.mps_trace.specs.declared.condemn.Condemn.{Condemn}
use Rattle.mps_trace_laws.specs.Nails.Nailed.{AreWordsShown, words_of_areas}
use Rattle.mps_trace_laws.specs.Begin.Begun.{AreRootsHeld}
use Rattle.mps_trace_laws.specs.Begin.Condemning.{MayCondemn}
use Rattle.mps_abstract.specs.Collecting.{Collecting}
use Rattle.mps_abstract.specs.Remembered.{AreSummed}
use Rattle.mps_trace_laws.specs.Image.Memory.{pool_layout}
use Rattle.mps_trace_laws.specs.Image.Image.{CellSet, AreShaped, black_cells}
use Rattle.mps_trace_laws.specs.Image.Fixing.{Target}
use Rattle.mps_trace.specs.Trace.{TraceState, Traced, traced, FixesTo}
use Rattle.mps_trace_laws.specs.Barrier.Laws.{StandsForBarrier}
use Rattle.mps_trace_laws.specs.Begin.Before.{StandsBefore}
use Rattle.mps_trace.specs.Access.{AccessesTo}
use Rattle.mps_trace.specs.Scan.{Scanned}
use Rattle.mps_trace.specs.declared.running.Band.{Band}
use Rattle.mps_trace.specs.Splat.{Splatted}
use Rattle.mps_trace.specs.State.{FinalsState}
use Rattle.mps_trace.specs.Unit.{UnitsTo, EndsWithin}
use Rattle.mps_trace.specs.declared.running.Running.{Running as RunningState}
use Rattle.mps_trace_laws.specs.Fix.Scanning.{IsToBeScanned}
use Rattle.mps_trace_laws.specs.Fix.Tracing.{setting_of, TracingStands}
use Rattle.mps_trace_laws.specs.Summaries.Summed.{AreWordsSummed}
use Rattle.mps_trace_laws.specs.Units.Standing.{UnitStands, band_of}

-- what the collector does with an address that means a live automatic object leaves each word summed
abbrev pub AFixKeepsSummaries : (F : Type 0) → Type 0
AFixKeepsSummaries F =
    (layout : F → Layout) (formats : List (Option (Policy F))) (of : ChainsState) (at_flip : List (Option Address)) (done : CellSet)
    (x z : Traced) (y : Collecting) (at answer : Addr) (t : Id) (now : Address) (o : Object)
    → AreShaped y.world.graph.objects (pool_layout y.world) → TracingStands layout formats of at_flip done x y
    → Target (setting_of x.segs at_flip y) y.world.addresses t at.0 now o → AreWordsSummed layout formats x.segs
    → FixesTo layout formats of x at z answer → AreWordsSummed layout formats z.segs

-- and so does a scan of a block
abbrev pub AScanKeepsSummaries : (F : Type 0) → Type 0
AScanKeepsSummaries F =
    (layout : F → Layout) (formats : List (Option (Policy F))) (of : ChainsState) (at_flip : List (Option Address)) (x z : Traced)
    (y : Collecting) (holder : Id) (at : Addr) (o : Object) → AreShaped y.world.graph.objects (pool_layout y.world)
    → TracingStands layout formats of at_flip (black_cells y.running.condemned y.colours) x y → IsToBeScanned y holder at.0 o
    → AreWordsSummed layout formats x.segs → Scanned layout formats of x at z → AreWordsSummed layout formats z.segs

-- and the scan of a weak block
abbrev pub ASplatScanKeepsSummaries : (F : Type 0) → Type 0
ASplatScanKeepsSummaries F =
    (layout : F → Layout) (formats : List (Option (Policy F))) (of : ChainsState) (at_flip : List (Option Address)) (x z : Traced)
    (y : Collecting) (holder : Id) (at : Addr) (o : Object) → y.world.graph.dependents ≡ []
    → AreShaped y.world.graph.objects (pool_layout y.world)
    → TracingStands layout formats of at_flip (black_cells y.running.condemned y.colours) x y → IsToBeScanned y holder at.0 o
    → AreWordsSummed layout formats x.segs → Splatted layout formats x at z → AreWordsSummed layout formats z.segs

-- and the begin of a collection, whatever it condemns
abbrev pub ABeginKeepsSummaries : (F : Type 0) → Type 0
ABeginKeepsSummaries F =
    (layout : F → Layout) (t : TraceState F) (s : SegsState) (m : Moves) (points : PointsState) (roots roots' : RootsState)
    (finals finals' : FinalsState) (w : World) (rows : List (List (Option Id))) (z : Traced) (run : RunningState) (what : Condemn)
    → StandsBefore layout t s m points w → MayCondemn t s w what → AreWordsShown (words_of_areas roots.areas) (area_words w)
    → AreRootsHeld w roots finals rows → AreWordsSummed layout t.formats s
    → Begins layout t.formats t.chains what points roots finals (traced t s m) roots' finals' z run → AreWordsSummed layout t.formats z.segs

-- and n units of a collection
abbrev pub UnitsKeepSummaries : (F : Type 0) → Type 0
UnitsKeepSummaries F =
    (layout : F → Layout) (formats : List (Option (Policy F))) (of : ChainsState) (at_flip : List (Option Address)) (x z : Traced)
    (f f' : FinalsState) (run run' : RunningState) (y : Collecting) (count : ℕ) → UnitStands layout formats of at_flip x f run y
    → AreWordsSummed layout formats x.segs → UnitsTo layout formats of x f run count z f' run' → AreWordsSummed layout formats z.segs

-- and those in the last of which it ends
abbrev pub TheEndKeepsSummaries : (F : Type 0) → Type 0
TheEndKeepsSummaries F =
    (layout : F → Layout) (formats : List (Option (Policy F))) (of : ChainsState) (at_flip : List (Option Address)) (x z : Traced)
    (f f' : FinalsState) (run : RunningState) (y : Collecting) (most : ℕ) → UnitStands layout formats of at_flip x f run y
    → AreWordsSummed layout formats x.segs → EndsWithin layout formats of x f run most z f' → AreWordsSummed layout formats z.segs

-- and the read barrier
abbrev pub AnAccessKeepsSummaries : (F : Type 0) → Type 0
AnAccessKeepsSummaries F =
    (layout : F → Layout) (formats : List (Option (Policy F))) (of : ChainsState) (at_flip : List (Option Address))
    (band : Band) (t : Segment) (x z : Traced) (y : Collecting) → StandsForBarrier layout formats of at_flip x y
    → band_of band ≡ y.band → Contains x.segs.segments t → AreWordsSummed layout formats x.segs
    → AccessesTo layout formats of band t x z → AreWordsSummed layout formats z.segs

-- at rest each word has been read, so summaries have the zones of what live objects refer to
abbrev pub WordsTellAtRest : (F : Type 0) → Type 0
WordsTellAtRest F =
    (layout : F → Layout) (t : TraceState F) (s : SegsState) (m : Moves) (points : PointsState) (w : World)
    → StandsBefore layout t s m points w → AreWordsSummed layout t.formats s → AreSummed w (summary_at s)
