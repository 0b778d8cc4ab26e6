-- What units and a read barrier leave of the world, for every kind of pool.
use Rattle.std.specs.Prelude.{◌≡◌, ℕ, Option, None, List, []}
use Rattle.mps_base.specs.Address.{Id, Address}
use Rattle.mps_base.specs.Segment.{Segment}
use Rattle.mps_base.specs.declared.moves.Move.{Move}
use Rattle.mps_model.specs.Graph.{Object}
use Rattle.mps_model.specs.Collection.{Collection}
use Rattle.mps_model.specs.World.{World, Tail}
use Rattle.mps_model.specs.Effect.{world_after_moves}
use Rattle.mps_abstract.specs.Collecting.{Collecting, Running}
use Rattle.mps_abstract.specs.Units.{GoesOn, Ends, BarrierDone}

-- a world is another one, but for objects, registrations, messages and pairs of dependents, for where objects lie, in which segments,
-- for tails and for the collection
pub record IsButCollected (before after : World) : Type 0 where
  pub objects : List Object
  pub registered : List Id
  pub messages : List Id
  pub dependents : List (Id × Id)
  pub addresses : List (Option Address)
  pub segments : List Segment
  pub tails : List Tail
  pub collection : Option Collection
  -- where no object had a dependent none has one
  pub unpaired : before.graph.dependents ≡ [] → dependents ≡ []
  pub world : after ≡ record before {
    graph = record before.graph { objects = objects; registered = registered; messages = messages; dependents = dependents };
    addresses = addresses;
    segments = segments;
    tails = tails;
    collection = collection;
  }

-- and no collection runs any more
pub record EndsCollected (before after : World) : Type 0 where
  pub but_collected : IsButCollected before after
  pub ended : after.collection ≡ None

-- n units leave all else as it was, and so do those to the end of the collection
abbrev pub UnitsLeaveTheRest : Type 0
UnitsLeaveTheRest =
    ((x y : Collecting) (count : ℕ) (ms : List Move) → Running x → GoesOn x count ms y → IsButCollected x.world y.world)
    × ((x : Collecting) (count : ℕ) (ms : List Move) → Running x → Ends x count ms → EndsCollected x.world (world_after_moves x.world ms))

-- and so does a read barrier
abbrev pub ABarrierLeavesTheRest : Type 0
ABarrierLeavesTheRest =
    (s : Segment) (x y : Collecting) (ms : List Move) → Running x → BarrierDone s x ms y → IsButCollected x.world y.world
