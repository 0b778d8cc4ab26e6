-- What a fix of the tracing collector is to the abstract collector: a step of it, after which the state represents it as before.
use Rattle.std.specs.Prelude.{◌≡◌, ◌+◌, ◌≤◌, true, false, Option, Some, List, ◌∷◌, ◌++◌}
use Rattle.mps_base.specs.Address.{Address, Id}
use Rattle.mps_base.specs.declared.address.Addr.{Addr}
use Rattle.mps_base.specs.declared.moves.Move.{Move}
use Rattle.mps_format.specs.Layout.{Layout}
use Rattle.mps_trace.specs.GenState.{ChainsState}
use Rattle.mps_model.specs.Graph.{Object, entry_at}
use Rattle.mps_model.specs.World.{World}
use Rattle.mps_abstract.specs.Collecting.{Collecting, is_white_in}
use Rattle.mps_abstract.specs.Fixing.{Fixes}
use Rattle.mps_trace_laws.specs.Image.Memory.{pool_layout}
use Rattle.mps_trace_laws.specs.Image.Image.{CellSet, AreShaped}
use Rattle.mps_trace_laws.specs.Image.Fixing.{FixesOne, Target}
use Rattle.mps_trace.specs.Trace.{Traced, FixesTo}
use Rattle.mps_trace_laws.specs.Fix.Tracing.{setting_of, TracingStands}
use Rattle.mps_trace_laws.specs.Fix.Room.{moves_left}
use Rattle.mps_format.specs.declared.pool.Policy.{Policy}

-- what fixes leave of a world: all objects, and the pools
pub record IsSameGraph (w w' : World) : Type 0 where
  pub graph : w'.graph ≡ w.graph
  pub pools : w'.pools ≡ w.pools
  pub formats : w'.formats ≡ w.formats

-- a fix of an object is a step of the abstract collector
pub record IsFixStep {F : Type 0} (layout : F → Layout) (formats : List (Option (Policy F))) (of : ChainsState)
    (at_flip : List (Option Address)) (done : CellSet) (x z : Traced) (y : Collecting) (t : Id) (answer : Address)
    : Type 0 where
  pub moves : List Move
  pub after : Collecting
  pub fixes : (ids : List Id) (ms : List Move) (last : Collecting) → Fixes after ids ms last → Fixes y (t ∷ ids) (moves ++ ms) last
  pub stands : TracingStands layout formats of at_flip done z after
  pub trail : z.moves.moves ≡ x.moves.moves ++ moves
  -- if it was white there is room to post it too
  pub room_to_post : is_white_in y t ≡ true → moves_left after + 3 ≤ z.moves.spare
  -- the answer is where the object is then, and it isn't white
  pub there : entry_at after.world.addresses t ≡ Some answer
  pub not_white : is_white_in after t ≡ false
  -- what it was to addresses and colours, and what is the same
  pub step : FixesOne y.running.condemned y.world.addresses y.colours (Some t) after.world.addresses after.colours
  pub same : IsSameGraph y.world after.world
  pub same_condemned : after.running.condemned ≡ y.running.condemned

-- what the collector does with an address that means a live automatic object is a step of the abstract collector, which fixes that
-- object by the same moves
abbrev pub AFixIsAStep : (F : Type 0) → Type 0
AFixIsAStep F =
    (layout : F → Layout) (formats : List (Option (Policy F))) (of : ChainsState) (at_flip : List (Option Address)) (done : CellSet)
    (x z : Traced) (y : Collecting) (at answer : Addr) (t : Id) (now : Address) (o : Object)
    → AreShaped y.world.graph.objects (pool_layout y.world) → TracingStands layout formats of at_flip done x y
    → Target (setting_of x.segs at_flip y) y.world.addresses t at.0 now o
    → FixesTo layout formats of x at z answer → IsFixStep layout formats of at_flip done x z y t answer.0
