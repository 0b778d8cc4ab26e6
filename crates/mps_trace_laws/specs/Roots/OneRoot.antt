-- What the collector does with one slot or message at a flip is to the abstract collector.
use Rattle.std.specs.Prelude.{◌≡◌, ◌<◌, false, IsTrue, Option, Some, None, List, [], ◌∷◌, ◌++◌, slice_get}
use Rattle.mps_base.specs.Address.{Address, Id}
use Rattle.mps_base.specs.declared.moves.Move.{Move}
use Rattle.mps_format.specs.Layout.{Layout}
use Rattle.mps_trace.specs.GenState.{ChainsState}
use Rattle.mps_model.specs.Graph.{Object, entries, entry_at, is_automatic}
use Rattle.mps_abstract.specs.Collecting.{Collecting, is_white_in}
use Rattle.mps_abstract.specs.Fixing.{Fixes}
use Rattle.mps_trace_laws.specs.Image.Image.{CellSet, MeansAt}
use Rattle.mps_trace_laws.specs.Image.Scanning.{LeavesOthers}
use Rattle.mps_trace.specs.Trace.{Traced}
use Rattle.mps_trace_laws.specs.Fix.Tracing.{TracingStands}
use Rattle.mps_trace_laws.specs.Fix.Steps.{IsSameGraph}
use Rattle.mps_format.specs.declared.pool.Policy.{Policy}

-- an address that isn't null means a live automatic object: the object is there now, or was there at the flip
pub record MeansLive (at_flip : List (Option Address)) (y : Collecting) (at : Address) (t : Id) : Type 0 where
  pub positive : 0 < at
  pub now : Address
  pub object : Object
  pub means : MeansAt y.world.addresses at_flip at t
  pub there : entry_at y.world.addresses t ≡ Some now
  pub has : slice_get y.world.graph.objects t ≡ Some object
  pub automatic : IsTrue (is_automatic object)

-- a slot with an address refers to null or to a live automatic object
abbrev pub RefersTo : (at_flip : List (Option Address)) → Collecting → (at : Address) → Option Id → Type 0
RefersTo at_flip y at None = at ≡ 0
RefersTo at_flip y at (Some t) = MeansLive at_flip y at t

-- a slot that refers to an object that isn't white has the address of where that is, and null is 0
abbrev pub IsWhere : Collecting → (at : Address) → Option Id → Type 0
IsWhere y at None = at ≡ 0
IsWhere y at (Some t) = (entry_at y.world.addresses t ≡ Some at) × (is_white_in y t ≡ false)

-- what these slots refer to was fixed, by steps of the abstract collector
pub record AreFixed {F : Type 0} (layout : F → Layout) (formats : List (Option (Policy F))) (of : ChainsState)
    (at_flip : List (Option Address)) (done : CellSet) (x z : Traced) (y : Collecting) (targets : List (Option Id))
    : Type 0 where
  pub moves : List Move
  pub after : Collecting
  pub fixes : (ids : List Id) (ms : List Move) (last : Collecting) → Fixes after ids ms last
      → Fixes y (entries targets ++ ids) (moves ++ ms) last
  pub stands : TracingStands layout formats of at_flip done z after
  pub trail : z.moves.moves ≡ x.moves.moves ++ moves
  pub leaves : LeavesOthers y.running.condemned y.world.addresses after.world.addresses y.colours after.colours
  pub same : IsSameGraph y.world after.world
  pub same_condemned : after.running.condemned ≡ y.running.condemned

-- one was fixed, and this is what it holds then
pub record IsRootStep {F : Type 0} (layout : F → Layout) (formats : List (Option (Policy F))) (of : ChainsState)
    (at_flip : List (Option Address)) (done : CellSet) (x z : Traced) (y : Collecting) (target : Option Id) (answer : Address)
    : Type 0 where
  pub fixed : AreFixed layout formats of at_flip done x z y (target ∷ [])
  pub answers : IsWhere fixed.after answer target
