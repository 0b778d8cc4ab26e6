-- What the examination of a registration is to the abstract collector, each law a statement.
use Rattle.std.specs.Prelude.{◌≡◌, suc, ◌<◌, Option, Some, None, List, [], ◌∷◌, ◌++◌}
use Rattle.mps_base.specs.Address.{Address}
use Rattle.mps_base.specs.Trail.{with_move}
use Rattle.mps_base.specs.declared.address.Addr.{Addr}
use Rattle.mps_base.specs.declared.moves.Move.{Move}
use Rattle.mps_base.specs.declared.moves.Move.TheVariants.{Post}
use Rattle.mps_format.specs.Layout.{Layout}
use Rattle.mps_format.specs.declared.pool.Policy.{Policy}
use Rattle.mps_trace.specs.GenState.{ChainsState}
use Rattle.mps_trace.specs.State.{FinalsState, with_registered_at, finals_after_post}
use Rattle.mps_trace.specs.Examine.{registration_of}
use Rattle.mps_trace.specs.Finding.{FindsTo}
use Rattle.mps_trace.specs.Trace.{Traced, KeepsTo}
use Rattle.mps_abstract.specs.Collecting.{Collecting, Final, Running, IsDrainedIn}
use Rattle.mps_abstract.specs.Units.{IsUnit}
use Rattle.mps_trace_laws.specs.Image.Memory.{pool_layout}
use Rattle.mps_trace_laws.specs.Image.Image.{CellSet, AreShaped}
use Rattle.mps_trace_laws.specs.Fix.Tracing.{TracingStands, StateStands}
use Rattle.mps_trace_laws.specs.Units.Finals.{AreDue}
use Rattle.mps_trace_laws.specs.Units.Standing.{AreFinalsOf}

-- a registration is left that was made before the flip and wasn't examined, and its examination is next
pub record IsOneDueIn (at_flip : List (Option Address)) (y : Collecting) (f : FinalsState) : Type 0 where
  pub running : Running y
  pub finals : AreFinalsOf at_flip y f
  pub due : AreDue at_flip y.world.graph.objects y.world.graph.registered y.next y.running.registered_before
  pub drained : IsDrainedIn y
  pub before : y.next < y.running.registered_before

-- if the block of the next registration is found, its examination is a unit of the abstract collector without moves
abbrev pub ExaminationsAreUnits : (F : Type 0) → Type 0
ExaminationsAreUnits F =
    (layout : F → Layout) (formats : List (Option (Policy F))) (of : ChainsState) (at_flip : List (Option Address)) (done : CellSet)
    (x : Traced) (y : Collecting) (f : FinalsState) (to : Addr) → AreShaped y.world.graph.objects (pool_layout y.world)
    → TracingStands layout formats of at_flip done x y → IsOneDueIn at_flip y f
    → FindsTo layout formats x.segs (registration_of f y.next) (Some to)
    → IsUnit y [] (record y { band = Final; next = suc y.next })
    × AreFinalsOf at_flip (record y { band = Final; next = suc y.next }) (with_registered_at f y.next to.0)

-- a unit that keeps an object and posts it, by the moves of the trail, after which the state stands
pub record IsPostDone {F : Type 0} (layout : F → Layout) (formats : List (Option (Policy F))) (of : ChainsState)
    (at_flip : List (Option Address)) (done : CellSet) (x z : Traced) (y : Collecting) (f : FinalsState) (to : Addr) : Type 0 where
  pub moves : List Move
  pub after : Collecting
  pub unit : IsUnit y (moves ++ Post to ∷ []) after
  pub state : StateStands layout formats of at_flip done z.amc z.segs after
  pub trail : (with_move z.moves (Post to)).moves ≡ x.moves.moves ++ (moves ++ Post to ∷ [])
  pub finals : AreFinalsOf at_flip after (finals_after_post (with_registered_at f y.next to.0) y.next)

-- if it is white it is kept, and the post is one
abbrev pub PostsAreUnits : (F : Type 0) → Type 0
PostsAreUnits F =
    (layout : F → Layout) (formats : List (Option (Policy F))) (of : ChainsState) (at_flip : List (Option Address)) (done : CellSet)
    (x z : Traced) (y : Collecting) (f : FinalsState) (to : Addr) → AreShaped y.world.graph.objects (pool_layout y.world)
    → TracingStands layout formats of at_flip done x y → IsOneDueIn at_flip y f
    → FindsTo layout formats x.segs (registration_of f y.next) None
    → KeepsTo layout formats of x (registration_of f y.next) z to
    → IsPostDone layout formats of at_flip done x z y f to
