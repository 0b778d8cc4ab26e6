-- What the collector's run over the references of one object is to the abstract collector.
use Rattle.std.specs.Prelude.{◌≡◌, ℕ, false, ◌==◌, ◌&&◌, ◌||◌, nat_lt, IsTrue, Option, Some, List, ◌++◌, take, slice_get}
use Rattle.mps_base.specs.Address.{Address, Id}
use Rattle.mps_base.specs.declared.address.Addr.{Addr}
use Rattle.mps_base.specs.declared.moves.Move.{Move}
use Rattle.mps_format.specs.Layout.{Layout}
use Rattle.mps_trace.specs.GenState.{ChainsState}
use Rattle.mps_model.specs.Graph.{ReferenceCell, Object, targets, targets_of_cells, entry_at, is_automatic}
use Rattle.mps_abstract.specs.Collecting.{Collecting, is_white_in}
use Rattle.mps_abstract.specs.Fixing.{Fixes}
use Rattle.mps_trace_laws.specs.Image.Memory.{all_cells, pool_layout}
use Rattle.mps_trace_laws.specs.Image.Image.{CellSet, black_cells, AreShaped}
use Rattle.mps_abstract.specs.Colours.{blackened}
use Rattle.mps_abstract.specs.Units.{collecting_after_scan}
use Rattle.mps_trace_laws.specs.Image.Scanning.{LeavesOthers}
use Rattle.mps_trace.specs.Trace.{Traced}
use Rattle.mps_trace.specs.Scan.{Scanned}
use Rattle.mps_trace_laws.specs.Fix.Tracing.{TracingStands}
use Rattle.mps_trace_laws.specs.Fix.Steps.{IsSameGraph}
use Rattle.mps_format.specs.declared.pool.Policy.{Policy}

-- the cells of an object before one of them are fixed too
abbrev pub with_cells : CellSet → (id before : ℕ) → CellSet
with_cells done id before = λ j l. (j == id && nat_lt l before) || done j l

-- a live automatic object that isn't white, if all that it refers to is live
pub record IsToBeScanned (y : Collecting) (holder : Id) (at : Address) (o : Object) : Type 0 where
  pub there : entry_at y.world.addresses holder ≡ Some at
  pub object : slice_get y.world.graph.objects holder ≡ Some o
  pub automatic : IsTrue (is_automatic o)
  pub not_white : is_white_in y holder ≡ false
  pub live : (i t tag : ℕ) → slice_get (all_cells o.body) i ≡ Some (ReferenceCell (Some t) tag)
      → (now : Address) × (entry_at y.world.addresses t ≡ Some now)

-- the references before a cell were fixed, by steps of the abstract collector
pub record IsScannedTo {F : Type 0} (layout : F → Layout) (formats : List (Option (Policy F))) (of : ChainsState)
    (at_flip : List (Option Address)) (done : CellSet) (x z : Traced) (y : Collecting) (holder : Id) (o : Object) (before : ℕ)
    : Type 0 where
  pub moves : List Move
  pub after : Collecting
  pub fixes : (ids : List Id) (ms : List Move) (last : Collecting) → Fixes after ids ms last
      → Fixes y (targets_of_cells (take before (all_cells o.body)) ++ ids) (moves ++ ms) last
  pub stands : TracingStands layout formats of at_flip (with_cells done holder before) z after
  pub trail : z.moves.moves ≡ x.moves.moves ++ moves
  pub leaves : LeavesOthers y.running.condemned y.world.addresses after.world.addresses y.colours after.colours
  pub same : IsSameGraph y.world after.world
  pub same_condemned : after.running.condemned ≡ y.running.condemned

-- all references of an object were fixed, and it is grey no longer: what a unit of the abstract collector does that scans it
pub record IsScan {F : Type 0} (layout : F
    → Layout) (formats : List (Option (Policy F))) (of : ChainsState) (at_flip : List (Option Address))
    (x z : Traced) (y : Collecting) (holder : Id)
    : Type 0 where
  pub moves : List Move
  pub after : Collecting
  pub fixes : Fixes y (targets y.world.graph holder) moves after
  pub stands : TracingStands layout formats of at_flip (black_cells after.running.condemned (blackened after.colours holder)) z
      (collecting_after_scan after holder)
  pub trail : z.moves.moves ≡ x.moves.moves ++ moves

-- a scan of a block is one of its object
abbrev pub AScanIsAScan : (F : Type 0) → Type 0
AScanIsAScan F =
    (layout : F → Layout) (formats : List (Option (Policy F))) (of : ChainsState) (at_flip : List (Option Address)) (x z : Traced)
    (y : Collecting) (holder : Id) (at : Addr) (o : Object) → AreShaped y.world.graph.objects (pool_layout y.world)
    → TracingStands layout formats of at_flip (black_cells y.running.condemned y.colours) x y → IsToBeScanned y holder at.0 o
    → Scanned layout formats of x at z → IsScan layout formats of at_flip x z y holder
