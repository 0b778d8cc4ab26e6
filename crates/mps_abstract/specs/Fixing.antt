-- How a collection keeps objects: one, and one after the other.
use Rattle.std.specs.Prelude.{◌≡◌, ℕ, false, IsTrue, Some, None, List, [], ◌∷◌, ◌++◌}
use Rattle.mps_base.specs.Address.{Id, Address, address_of_word, address_of_grain}
use Rattle.mps_base.specs.Placement.{Place, NewSegment}
use Rattle.mps_base.specs.Segment.{Segment, is_in_segment}
use Rattle.mps_base.specs.declared.moves.Move.{Move}
use Rattle.mps_base.specs.declared.moves.Move.TheVariants as moves
use Rattle.mps_model.specs.Collection.{Collection}
use Rattle.mps_model.specs.World.{World, address_of, segment_at, is_copying_object, pool_of, target_generation_for}
use Rattle.mps_model.specs.Placement.{ForMove, placement_of}
use Rattle.mps_model.specs.LegalMove.{has_no_room}
use Rattle.mps_model.specs.Accessing.{address_or_null}
use Rattle.mps_model.specs.Effect.{placing, segment_of_move, world_after_moves}
use Rattle.mps_model.specs.Flip.{at_address, segment_for_move}
use Rattle.mps_abstract.specs.Colours.{keeping, IsUnoccupied}
use Rattle.mps_abstract.specs.Collecting.{Collecting, is_white_in}

-- ---- one object

-- an object moves to an address
abbrev pub moved_to : World → (id : Id) → (to : Address) → Move
moved_to w id to = moves.Moved (at_address (address_or_null w id)) (at_address to)

-- an object stays
abbrev pub stays_at : World → (id : Id) → Move
stays_at w id = moves.Stay (at_address (address_or_null w id))

-- the segment that is taken for an object that moves
abbrev pub new_segment : World → (id : Id) → (grain grains : ℕ) → Segment
new_segment w id grain grains = segment_of_move (address_of_grain grain) grains (pool_of w id) (target_generation_for w id)

-- a segment that isn't held, and in which no object lies
pub record IsUnused (w : World) (s : Segment) : Type 0 where
  pub not_held : segment_at w s.base ≡ None
  pub unoccupied : IsUnoccupied w.addresses s.base
  pub no_object : (id : Id) (at : Address) → address_of w id ≡ Some at → is_in_segment s at ≡ false

-- the moves by which an object is kept in a world, and the collection after them
pub data Keeps (w : World) (c : Collection) (id : Id) : List Move → Collection → Type 0 where
  -- in a pool that doesn't move it is marked
  marks : is_copying_object w id ≡ false → Keeps w c id [] c
  -- else it moves to a place in its tail
  moves_to_place : {word : ℕ} → IsTrue (is_copying_object w id) → placement_of w (ForMove id) ≡ Place word
      → IsUnoccupied w.addresses (address_of_word word) → Keeps w c id (moved_to w id (address_of_word word) ∷ []) (placing id c)
  -- or into a new segment
  moves_to_segment : {grain grains : ℕ} → IsTrue (is_copying_object w id) → placement_of w (ForMove id) ≡ NewSegment grain grains
      → IsUnused w (new_segment w id grain grains)
      → Keeps w c id (segment_for_move w id (address_of_grain grain) grains ∷ moved_to w id (address_of_grain grain) ∷ []) (placing id c)
  -- or stays, if there is no room
  stays : IsTrue (is_copying_object w id) → IsTrue (has_no_room (placement_of w (ForMove id)))
      → Keeps w c id (stays_at w id ∷ []) (placing id c)

-- ---- objects, one after the other

-- the state after an object was kept by these moves
abbrev pub kept_by : Collecting → (id : Id) → List Move → Collection → Collecting
kept_by x id ms c = record x { world = world_after_moves x.world ms; running = c; colours = keeping x.colours id }

-- objects are fixed: those that aren't white are passed, the others are kept
pub data Fixes : Collecting → List Id → List Move → Collecting → Type 0 where
  fixes_no_more : {x : Collecting} → Fixes x [] [] x
  passes : {x y : Collecting} {id : Id} {ids : List Id} {ms : List Move} → is_white_in x id ≡ false → Fixes x ids ms y
      → Fixes x (id ∷ ids) ms y
  keeps : {x y : Collecting} {id : Id} {ids : List Id} {these those : List Move} {c : Collection} → IsTrue (is_white_in x id)
      → Keeps x.world x.running id these c → Fixes (kept_by x id these c) ids those y → Fixes x (id ∷ ids) (these ++ those) y
