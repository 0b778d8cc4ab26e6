-- The act of a flip: its moves are a function of the world.
use Rattle.std.specs.Prelude.{ℕ, Bool, true, false, not, ◌&&◌, if◌then◌else◌, List, [], ◌∷◌, ◌++◌}
use Rattle.std.specs.Option.{option_map_or}
use Rattle.mps_base.specs.Address.{Id, Address, address_of_word, address_of_grain}
use Rattle.mps_base.specs.Placement.{Placement, Place, NewSegment, OverLimit, NoFreeRun}
use Rattle.mps_base.specs.declared.address.Addr.{Addr}
use Rattle.mps_base.specs.declared.moves.Move.{Move}
use Rattle.mps_base.specs.declared.moves.Move.TheVariants as moves
use Rattle.mps_model.specs.Graph.{ids_in_slots}
use Rattle.mps_model.specs.Collection.{is_surely_kept}
use Rattle.mps_model.specs.World.{World, pool_of, is_copying_object, target_generation_for}
use Rattle.mps_model.specs.Placement.{ForMove, placement_of}
use Rattle.mps_model.specs.Accessing.{address_or_null}
use Rattle.mps_model.specs.Effect.{Condemnation, chain_of, oldest_of, condemned_by, condemned_zones, world_after_move, world_after_moves}

-- an address of the log
abbrev pub at_address : ℕ → Addr
at_address address = record { 0 = address }

-- whether an object has to be moved before the client may hold it: condemned, of a copying pool, and not settled
abbrev pub must_be_fixed : World → (id : Id) → Bool
must_be_fixed w id = option_map_or (λ c. not (is_surely_kept c id)) w.collection false && is_copying_object w id

-- the segment that is taken for an object that moves
abbrev pub segment_for_move : World → (id : Id) → (base grains : ℕ) → Move
segment_for_move w id base grains = moves.Seg (at_address base) grains (pool_of w id) (target_generation_for w id)

-- how an object at an address is kept, by its placement: it moves, if needed into a new segment, or it stays
abbrev pub moves_to : World → (id : Id) → (from : Address) → Placement → List Move
moves_to w id from (Place word) = moves.Moved (at_address from) (at_address (address_of_word word)) ∷ []
moves_to w id from (NewSegment grain grains) =
    segment_for_move w id (address_of_grain grain) grains ∷ moves.Moved (at_address from) (at_address (address_of_grain grain)) ∷ []
moves_to w id from (OverLimit committed need limit) = moves.Stay (at_address from) ∷ []
moves_to w id from (NoFreeRun need longest) = moves.Stay (at_address from) ∷ []

-- the moves by which an object is fixed: none if it needn't be
abbrev pub fix : World → (id : Id) → List Move
fix w id = if must_be_fixed w id then moves_to w id (address_or_null w id) (placement_of w (ForMove id)) else []

-- the moves by which objects are fixed, one after the other
abbrev pub fix_all : World → List ℕ → List Move
fix_all w [] = []
fix_all w (id ∷ ids) = fix w id ++ fix_all (world_after_moves w (fix w id)) ids

-- the record of a flip
abbrev pub flip_of : World → Condemnation → Move
flip_of w what = moves.Flip (record { 0 = condemned_zones w what }) (chain_of what) (oldest_of what)

abbrev pub end_where : Bool → List Move
end_where true = moves.End ∷ []
end_where false = []

abbrev pub is_nothing : {A : Type 0} → List A → Bool
is_nothing [] = true
is_nothing (x ∷ xs) = false

-- the world right after the record of a flip
abbrev pub world_at_flip : World → Condemnation → World
world_at_flip w what = world_after_move w (flip_of w what)

-- the act of a flip: it condemns, fixes what slots and then messages hold, and ends if nothing was condemned
abbrev pub flip_act : World → Condemnation → List Move
flip_act w what =
    flip_of w what
    ∷ fix_all (world_at_flip w what) (ids_in_slots w.graph ++ w.graph.messages)
    ++ end_where (is_nothing (condemned_by w what))
