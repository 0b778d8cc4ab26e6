-- What the scan of a weak block is to the abstract collector.
use Rattle.std.specs.Prelude.{◌≡◌, ℕ, ◌+◌, ◌-◌, ◌<◌, ◌≤◌, Bool, true, Option, Some, List, [], ◌++◌, length, slice_get}
use Rattle.mps_base.specs.Address.{Address, Id}
use Rattle.mps_base.specs.declared.address.Addr.{Addr}
use Rattle.mps_format.specs.Layout.{Layout}
use Rattle.mps_format.specs.References.{HasNoReference}
use Rattle.mps_format.specs.declared.pool.Policy.{Policy}
use Rattle.mps_trace.specs.GenState.{ChainsState}
use Rattle.mps_trace.specs.Splat.{SplatsTo, Splatted}
use Rattle.mps_trace.specs.Trace.{Traced}
use Rattle.mps_model.specs.Checked.{head_of_body}
use Rattle.mps_model.specs.Graph.{Object, Automatic, Cell, size_of}
use Rattle.mps_model.specs.Units.{splats_of}
use Rattle.mps_abstract.specs.Collecting.{Collecting}
use Rattle.mps_abstract.specs.Colours.{blackened}
use Rattle.mps_abstract.specs.Units.{Splats, collecting_after_scan}
use Rattle.mps_trace_laws.specs.Image.Memory.{pool_layout}
use Rattle.mps_trace_laws.specs.Image.Image.{CellSet, AreShaped, black_cells}
use Rattle.mps_trace_laws.specs.Fix.Tracing.{StateStands, TracingStands}
use Rattle.mps_trace_laws.specs.Fix.Scanning.{IsToBeScanned}

-- the run over all its references is a sequence of splats, by the moves of the trail, and the state stands after it, with all cells fixed
pub record AreSplatsDone {F : Type 0} (layout : F → Layout) (formats : List (Option (Policy F))) (of : ChainsState)
    (at_flip : List (Option Address)) (done : CellSet) (x z : Traced) (y : Collecting) (holder : Id) (at : Addr) (size : ℕ) : Type 0
  where
    pub after : Collecting
    pub cells : List ℕ
    pub splats : Splats holder y cells after
    pub trail : z.moves.moves ≡ x.moves.moves ++ splats_of at cells
    pub done_after : CellSet
    pub all : (l : ℕ) → l < size → done_after holder l ≡ true
    pub more : (j l : ℕ) → done j l ≡ true → done_after j l ≡ true
    pub state : StateStands layout formats of at_flip done_after z.amc z.segs after
    -- it moves nothing, and colours nothing
    pub same_addresses : after.world.addresses ≡ y.world.addresses
    pub same_colours : after.colours ≡ y.colours
    pub same_condemned : after.running.condemned ≡ y.running.condemned
    -- each cell but the head is splatted once at most, and takes room for a move
    pub few : length cells ≤ size - 1
    pub spare : x.moves.spare ≤ z.moves.spare + length cells
    pub shaped : AreShaped after.world.graph.objects (pool_layout after.world)
    pub object : (o : Object) × (slice_get after.world.graph.objects holder ≡ Some o) × (size_of o ≡ size)

-- the references of a weak block up to its last one are splatted or brought up to date, if no object has a dependent
abbrev pub ASplatRunIsSplats : (F : Type 0) → Type 0
ASplatRunIsSplats F =
    (layout : F → Layout) (formats : List (Option (Policy F))) (of : ChainsState) (at_flip : List (Option Address)) (done : CellSet)
    (x z : Traced) (y : Collecting) (holder : Id) (at : Addr) (o : Object) (cells : List Cell) (is_weak : Bool) (from : ℕ)
    → y.world.graph.dependents ≡ [] → AreShaped y.world.graph.objects (pool_layout y.world)
    → StateStands layout formats of at_flip done x.amc x.segs y
    → IsToBeScanned y holder at.0 o → o.body ≡ Automatic (head_of_body o.body) cells is_weak
    → SplatsTo layout (pool_layout y.world o.pool) formats (head_of_body o.body) at x from z
    → HasNoReference (pool_layout y.world o.pool) (head_of_body o.body) from
    → AreSplatsDone layout formats of at_flip done x z y holder at (size_of o)

-- the scan of a weak block is a sequence of splats, after which its object is black
pub record IsSplatScan {F : Type 0} (layout : F → Layout) (formats : List (Option (Policy F))) (of : ChainsState)
    (at_flip : List (Option Address)) (x z : Traced) (y : Collecting) (holder : Id) (at : Addr) (size : ℕ) : Type 0 where
  pub cells : List ℕ
  pub after : Collecting
  pub splats : Splats holder y cells after
  pub trail : z.moves.moves ≡ x.moves.moves ++ splats_of at cells
  pub few : length cells ≤ size - 1
  pub spare : x.moves.spare ≤ z.moves.spare + length cells
  pub shaped : AreShaped after.world.graph.objects (pool_layout after.world)
  pub state : StateStands layout formats of at_flip (black_cells after.running.condemned (blackened after.colours holder)) z.amc z.segs
      (collecting_after_scan after holder)

abbrev pub ASplatScanIsAScan : (F : Type 0) → Type 0
ASplatScanIsAScan F =
    (layout : F → Layout) (formats : List (Option (Policy F))) (of : ChainsState) (at_flip : List (Option Address)) (x z : Traced)
    (y : Collecting) (holder : Id) (at : Addr) (o : Object) → y.world.graph.dependents ≡ []
    → AreShaped y.world.graph.objects (pool_layout y.world)
    → TracingStands layout formats of at_flip (black_cells y.running.condemned y.colours) x y → IsToBeScanned y holder at.0 o
    → Splatted layout formats x at z → IsSplatScan layout formats of at_flip x z y holder at (size_of o)
