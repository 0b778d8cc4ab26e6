-- How many moves a collection takes at most for the live objects.
use Rattle.std.specs.Prelude.{◌≡◌, ℕ, ◌+◌, ◌*◌, ◌≤◌, ◌==◌, Bool, true, false, if◌then◌else◌, Option, Some, None, List, [], ◌∷◌, Contains, refl}
use Rattle.mps_base.specs.Address.{Address}
use Rattle.mps_base.specs.Run.{IsAscending, in_order}
use Rattle.mps_model.specs.Graph.{Object, Automatic, Manual, HeadCell, is_automatic, is_weak_object, size_of}
use Rattle.mps_model.specs.World.{extents_of}
use Rattle.mps_trace_laws.specs.Fix.Room.{weak_cells}

-- how many moves a collection takes at most for a live object: one to post or to free it, two more to keep it if its pool is one of those
-- that move their blocks, and one for each cell of a weak one but its head. What isn't automatic takes none
abbrev pub moves_of_object : (is_copying : ℕ → Bool) → Object → ℕ
moves_of_object is_copying o = if is_automatic o then (if is_copying o.pool then 3 else 1) + weak_cells o else 0

-- and for all of these that are live
abbrev pub moves_of : (is_copying : ℕ → Bool) → List Object → List (Option Address) → ℕ
moves_of is_copying [] addresses = 0
moves_of is_copying (o ∷ os) [] = 0
moves_of is_copying (o ∷ os) (None ∷ addresses) = moves_of is_copying os addresses
moves_of is_copying (o ∷ os) (Some at ∷ addresses) = moves_of_object is_copying o + moves_of is_copying os addresses

-- an object for which room is enough: an automatic one has two words or more, and isn't weak in a pool that moves its blocks
pub record IsRoomy (is_copying : ℕ → Bool) (o : Object) : Type 0 where
  pub large : is_automatic o ≡ true → 2 ≤ size_of o
  pub strong : is_copying o.pool ≡ true → is_weak_object o ≡ false

-- three for each two words are enough, if live objects lie apart between two words
abbrev pub RoomIsEnough : Type 0
RoomIsEnough =
    (is_copying : ℕ → Bool) (objects : List Object) (addresses : List (Option Address)) (first_word end_word : ℕ)
    → IsAscending first_word end_word (in_order (extents_of objects addresses))
    → ((o : Object) → Contains objects o → IsRoomy is_copying o) → 2 * moves_of is_copying objects addresses + 3 * first_word ≤ 3 * end_word

-- ---- vectors: an object of two words in a pool that moves its blocks, a weak one of three in one that doesn't, and a manual block of one

abbrev three_objects : List Object
three_objects =
    record { pool = 0; body = Automatic 0x201 (HeadCell ∷ HeadCell ∷ []) false }
    ∷ record { pool = 1; body = Automatic 0x301 (HeadCell ∷ HeadCell ∷ HeadCell ∷ []) true }
    ∷ record { pool = 2; body = Manual (0 ∷ []) } ∷ []

abbrev the_first_copies : ℕ → Bool
the_first_copies pool = pool == 0

pub three_to_move_and_one_and_two_splats : moves_of the_first_copies three_objects (Some 0x1000 ∷ Some 0x1010 ∷ Some 0x2000 ∷ []) ≡ 6
three_to_move_and_one_and_two_splats = refl

pub one_that_is_not_live : moves_of the_first_copies three_objects (None ∷ Some 0x1010 ∷ Some 0x2000 ∷ []) ≡ 3
one_that_is_not_live = refl

pub a_manual_block_takes_none : moves_of the_first_copies three_objects (None ∷ None ∷ Some 0x2000 ∷ []) ≡ 0
a_manual_block_takes_none = refl
