-- What a whole collection leaves of the world.
use Rattle.std.specs.Prelude.{◌≡◌, false, IsTrue, None, ◌++◌}
use Rattle.mps_base.specs.Address.{Id}
use Rattle.mps_model.specs.Graph.{contains, ids_in_holds, ids_in_slots, is_automatic}
use Rattle.mps_model.specs.World.{World, address_of, is_live, object_is, ids_of_area_words}
use Rattle.mps_model.specs.Effect.{Everything, condemned_zones, world_flipped}
use Rattle.mps_abstract.specs.Collecting.{Collecting}
use Rattle.mps_abstract.specs.Leaving.{IsButCollected}

-- a world at rest after a full flip and all that follows: reservations are doomed, points have none, and there is one
-- flip more. All else is as it was, but for objects, registrations and messages, and for where objects lie
pub record IsCollected (w after : World) : Type 0 where
  pub but_collected : IsButCollected (world_flipped w (condemned_zones w Everything)) after
  pub ended : after.collection ≡ None

-- which objects lie where they lay, if the act of the flip left this state
pub record AreInPlace (w : World) (acted : Collecting) (after : World) : Type 0 where
  pub manual : (id : Id) → object_is is_automatic w id ≡ false → address_of after id ≡ address_of w id
  pub pinned : (id : Id) → IsTrue (contains (ids_of_area_words w) id) → address_of after id ≡ address_of w id
  -- what an area word holds
  pub holds : (id : Id) → IsTrue (contains (ids_in_holds w.graph) id) → address_of after id ≡ address_of w id
  -- what slots and messages hold lies where the act left it, and is live
  pub held : (id : Id) → IsTrue (contains (ids_in_slots w.graph ++ w.graph.messages) id) → address_of after id ≡ address_of acted.world id
  pub held_live : (id : Id) → IsTrue (contains (ids_in_slots w.graph ++ w.graph.messages) id) → IsTrue (is_live after id)
