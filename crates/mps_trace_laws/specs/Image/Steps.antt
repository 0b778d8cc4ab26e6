-- What a fix in words is to the abstract collector: a step of it.
use Rattle.std.specs.Prelude.{◌≡◌, ℕ, false, IsTrue, Option, Some, List, ◌∷◌, ◌++◌}
use Rattle.mps_base.specs.Address.{Address, Id, address_of_word, address_of_grain}
use Rattle.mps_base.specs.Placement.{Place, NewSegment}
use Rattle.mps_base.specs.declared.moves.Move.{Move}
use Rattle.mps_model.specs.World.{World, is_live, is_copying_object}
use Rattle.mps_model.specs.Placement.{ForMove, placement_of}
use Rattle.mps_model.specs.LegalMove.{has_no_room}
use Rattle.mps_abstract.specs.Colours.{Colours, IsUnoccupied, AreDifferent}
use Rattle.mps_abstract.specs.Collecting.{Collecting, is_white_in}
use Rattle.mps_abstract.specs.Fixing.{Fixes, new_segment, IsUnused}
use Rattle.mps_trace_laws.specs.Image.Fixing.{address_moved, FixesOne}

-- how a world lets an object be kept, after which these are the addresses: as the object's pool and the room in it have it
pub data MayKeep (w : World) (t : Id) (addresses : List (Option Address)) : Type 0 where
  may_mark : is_copying_object w t ≡ false → addresses ≡ w.addresses → MayKeep w t addresses
  may_stay : IsTrue (is_copying_object w t) → IsTrue (has_no_room (placement_of w (ForMove t))) → addresses ≡ w.addresses
      → MayKeep w t addresses
  may_move : (word : ℕ) → IsTrue (is_copying_object w t) → placement_of w (ForMove t) ≡ Place word
      → IsUnoccupied w.addresses (address_of_word word) → addresses ≡ address_moved w.addresses t (address_of_word word)
      → MayKeep w t addresses
  may_move_into : (grain grains : ℕ) → IsTrue (is_copying_object w t) → placement_of w (ForMove t) ≡ NewSegment grain grains
      → IsUnused w (new_segment w t grain grains) → addresses ≡ address_moved w.addresses t (address_of_grain grain)
      → MayKeep w t addresses

-- a step of the abstract collector that fixes an object, after which these are the addresses and colours
pub record IsStep (x : Collecting) (t : Id) (addresses : List (Option Address)) (k : Colours) : Type 0 where
  pub moves : List Move
  pub after : Collecting
  pub addresses_after : after.world.addresses ≡ addresses
  pub colours_after : after.colours ≡ k
  pub graph_same : after.world.graph ≡ x.world.graph
  pub fixes : (ids : List Id) (ms : List Move) (y : Collecting) → Fixes after ids ms y → Fixes x (t ∷ ids) (moves ++ ms) y

-- a fix of an object in words is a step of the abstract collector, with the same addresses and colours after it
abbrev pub AFixIsAStep : Type 0
AFixIsAStep =
    (x : Collecting) (t : Id) (addresses' : List (Option Address)) (k' : Colours) → AreDifferent x.world.addresses
    → IsTrue (is_live x.world t) → (IsTrue (is_white_in x t) → MayKeep x.world t addresses')
    → FixesOne x.running.condemned x.world.addresses x.colours (Some t) addresses' k' → IsStep x t addresses' k'
