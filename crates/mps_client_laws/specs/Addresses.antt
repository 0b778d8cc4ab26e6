-- Where objects lie: an address changes only if a move moves this object, and goes only if a move frees it. No two live objects have
-- one address. A manual block lies where it lay until a call frees it.
use Rattle.std.specs.Prelude.{◌≡◌, ℕ, Bool, true, false, not, ◌&&◌, IsTrue, Some, None, List, [], ◌∷◌, ◌++◌, refl}
use Rattle.std.specs.List.{list_all}
use Rattle.mps_base.specs.Address.{Id, Address}
use Rattle.mps_base.specs.declared.moves.Move.{Move}
use Rattle.mps_base.specs.declared.moves.Move.TheVariants as moves
use Rattle.mps_model.specs.Layout.{Layout}
use Rattle.mps_model.specs.declared.call.Call.{Call}
use Rattle.mps_model.specs.declared.call.Call.TheVariants as call
use Rattle.mps_model.specs.Graph.{is_automatic}
use Rattle.mps_model.specs.Step.{Step, History}
use Rattle.mps_model.specs.World.{World, address_of, id_at, is_live, object_is}
use Rattle.mps_model.specs.Effect.{world_after_move}
use Rattle.mps_model.specs.History.{IsLegalHistoryOf, world_after, world_after_steps}
use Rattle.mps_laws.specs.Held.{letter}
use Rattle.mps_laws.specs.Replay.{reached}
use Rattle.mps_client_laws.specs.Objects.{is_this, two_objects, stepping}

-- whether a move moves this object
abbrev pub moves_object : World → Move → (id : Id) → Bool
moves_object w (moves.Moved from to) id = is_this id (id_at w from.0)
moves_object w _ id = false

-- whether a move frees this object
abbrev pub frees_object : World → Move → (id : Id) → Bool
frees_object w (moves.Free at) id = is_this id (id_at w at.0)
frees_object w _ id = false

-- whether no move passes a test of the world in which it is made
abbrev pub none_of_moves : (World → Move → Bool) → World → List Move → Bool
none_of_moves test w [] = true
none_of_moves test w (m ∷ ms) = not (test w m) && none_of_moves test (world_after_move w m) ms

-- whether no step has a move that passes a test
abbrev pub none_of_steps : (World → Move → Bool) → World → History → Bool
none_of_steps test w [] = true
none_of_steps test w (s ∷ ss) = none_of_moves test w s.moves && none_of_steps test (world_after w s) ss

-- An object that no move frees lives on: from any world, over any steps.
abbrev pub ObjectsLiveOn : Type 0
ObjectsLiveOn =
    (w : World) (steps : History) (id : Id) → IsTrue (none_of_steps (λ v m. frees_object v m id) w steps) → IsTrue (is_live w id)
    → IsTrue (is_live (world_after_steps w steps) id)

-- An object that no move moves or frees stays at its address.
abbrev pub AddressesStay : Type 0
AddressesStay =
    (w : World) (steps : History) (id : Id) (at : Address) → IsTrue (none_of_steps (λ v m. moves_object v m id) w steps)
    → IsTrue (none_of_steps (λ v m. frees_object v m id) w steps) → address_of w id ≡ Some at
    → address_of (world_after_steps w steps) id ≡ Some at

-- After a legal history no two live objects have one address.
abbrev pub NoTwoHaveOneAddress : Type 0
NoTwoHaveOneAddress =
    (formats : ℕ → Layout) (steps : History) (id other : Id) (at : Address) → IsLegalHistoryOf formats steps
    → address_of (reached formats steps) id ≡ Some at → address_of (reached formats steps) other ≡ Some at → id ≡ other

-- ---- manual blocks

abbrev pub is_manual_block : World → (id : Id) → Bool
is_manual_block w id = object_is (λ o. not (is_automatic o)) w id

-- whether a call is one of those that free manual blocks
abbrev pub frees_blocks : Call → Bool
frees_blocks (call.Free place) = true
frees_blocks (call.CacheFree cache place) = true
frees_blocks (call.CacheFlush cache) = true
frees_blocks (call.Pop pool frame) = true
frees_blocks _ = false

-- whether no call of some steps is
abbrev pub free_no_blocks : History → Bool
free_no_blocks steps = list_all (λ (s : Step). not (frees_blocks s.call)) steps

-- A live manual block lives on and stays at its address over legal steps whose calls free no blocks: whatever is collected meanwhile.
abbrev pub ManualBlocksStay : Type 0
ManualBlocksStay =
    (formats : ℕ → Layout) (steps between later : History) (id : Id) (at : Address) → IsLegalHistoryOf formats ((steps ++ between) ++ later)
    → IsTrue (is_manual_block (reached formats steps) id) → IsTrue (free_no_blocks between)
    → address_of (reached formats steps) id ≡ Some at → address_of (reached formats (steps ++ between)) id ≡ Some at

-- ---- vectors

abbrev moved_one : History
moved_one = stepping (call.Step 1) (moves.Moved (record { 0 = 0x2000 }) (record { 0 = 0x4000 }) ∷ []) ∷ []

abbrev freed_one : History
freed_one = stepping (call.Step 1) (moves.Free (record { 0 = 0x2000 }) ∷ []) ∷ []

pub the_moved_one : none_of_steps (λ v m. moves_object v m 1) two_objects moved_one ≡ false
the_moved_one = refl

pub another_isnt_moved : none_of_steps (λ v m. moves_object v m 0) two_objects moved_one ≡ true
another_isnt_moved = refl

pub the_moved_one_isnt_freed : none_of_steps (λ v m. frees_object v m 1) two_objects moved_one ≡ true
the_moved_one_isnt_freed = refl

pub the_freed_one : none_of_steps (λ v m. frees_object v m 1) two_objects freed_one ≡ false
the_freed_one = refl

pub a_freed_object_has_no_address : address_of (world_after_steps two_objects freed_one) 1 ≡ None
a_freed_object_has_no_address = refl

pub a_block_is_manual : is_manual_block two_objects 2 ≡ true
a_block_is_manual = refl

pub no_object_is : is_manual_block two_objects 1 ≡ false
no_object_is = refl

pub a_collect_frees_no_blocks : free_no_blocks (stepping call.Collect [] ∷ stepping call.Live [] ∷ []) ≡ true
a_collect_frees_no_blocks = refl

pub a_pop_frees_blocks : free_no_blocks (stepping call.Collect [] ∷ stepping (call.Pop (letter 112) 0) [] ∷ []) ≡ false
a_pop_frees_blocks = refl
