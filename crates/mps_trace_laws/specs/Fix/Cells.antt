-- What the collector does with the reference of one cell is to the abstract collector.
use Rattle.std.specs.Prelude.{◌≡◌, ℕ, ◌<◌, false, Option, Some, List, [], ◌∷◌, ◌++◌, slice_get}
use Rattle.mps_base.specs.Address.{Address, Id}
use Rattle.mps_base.specs.declared.moves.Move.{Move}
use Rattle.mps_format.specs.Layout.{Layout}
use Rattle.mps_trace.specs.GenState.{ChainsState}
use Rattle.mps_model.specs.Graph.{ReferenceCell, Object, entries, entry_at, size_of}
use Rattle.mps_abstract.specs.Collecting.{Collecting, is_white_in}
use Rattle.mps_abstract.specs.Fixing.{Fixes}
use Rattle.mps_trace_laws.specs.Image.Memory.{all_cells}
use Rattle.mps_trace_laws.specs.Image.Image.{CellSet, with_cell}
use Rattle.mps_trace_laws.specs.Image.Fixing.{FixesOne}
use Rattle.mps_trace.specs.Trace.{Traced}
use Rattle.mps_trace_laws.specs.Fix.Tracing.{TracingStands}
use Rattle.mps_trace_laws.specs.Fix.Steps.{IsSameGraph}
use Rattle.mps_format.specs.declared.pool.Policy.{Policy}

-- a live object that isn't white has a reference in a cell, to null or to a live object
pub record HoldsReference (y : Collecting) (holder i : ℕ) (at : Address) (o : Object) (target : Option Id) (tag : ℕ) : Type 0 where
  pub there : entry_at y.world.addresses holder ≡ Some at
  pub object : slice_get y.world.graph.objects holder ≡ Some o
  pub within : i < size_of o
  pub not_white : is_white_in y holder ≡ false
  pub cell : slice_get (all_cells o.body) i ≡ Some (ReferenceCell target tag)
  pub live : (t : Id) → target ≡ Some t → (now : Address) × (entry_at y.world.addresses t ≡ Some now)

-- what was done with a cell is a step of the abstract collector, and the cell is fixed then
pub record IsCellStep {F : Type 0} (layout : F → Layout) (formats : List (Option (Policy F))) (of : ChainsState)
    (at_flip : List (Option Address)) (done : CellSet) (x z : Traced) (y : Collecting) (target : Option Id) (holder i : ℕ)
    : Type 0 where
  pub moves : List Move
  pub after : Collecting
  pub fixes : (ids : List Id) (ms : List Move) (last : Collecting) → Fixes after ids ms last
      → Fixes y (entries (target ∷ []) ++ ids) (moves ++ ms) last
  pub stands : TracingStands layout formats of at_flip (with_cell done holder i) z after
  pub trail : z.moves.moves ≡ x.moves.moves ++ moves
  pub step : FixesOne y.running.condemned y.world.addresses y.colours target after.world.addresses after.colours
  pub same : IsSameGraph y.world after.world
  pub same_condemned : after.running.condemned ≡ y.running.condemned
