-- Which moves of the collector are legal in a world: a fact for each condition. The client's moves are a function of the world
-- and its call; they stand in History.
use Rattle.std.specs.Prelude.{◌≡◌, ℕ, Bool, true, false, not, ◌&&◌, ◌||◌, ◌⊎◌, ◌==◌, nat_lt, nat_le, IsTrue, Option, Some, None, option_and_then, List, [], ◌∷◌, slice_get, filter}
use Rattle.std.specs.List.{list_all, AllByRecursion}
use Rattle.std.specs.Option.{option_map_or}
use Rattle.mps_base.specs.Address.{Address, Id, address_of_word, address_of_grain}
use Rattle.mps_base.specs.Placement.{Placement, Place, NewSegment, OverLimit, NoFreeRun}
use Rattle.mps_base.specs.Segment.{Segment}
use Rattle.mps_base.specs.declared.moves.Move.{Move}
use Rattle.mps_base.specs.declared.moves.Move.TheVariants as moves
use Rattle.mps_model.specs.Graph.{contains, position_of_first, object_at, is_weak_object, target_of_cell}
use Rattle.mps_model.specs.Reachable.{IsReachableWith}
use Rattle.mps_model.specs.Collection.{Collection, Phase, Tracing, Splatting, Reclaiming, is_condemned, is_kept_in_place, is_settled, is_surely_kept, MaySurvive}
use Rattle.mps_model.specs.World.{World, is_running, is_live, id_at, segment_at, object_is, live_automatic_ids, is_copying_object, is_empty_segment, pool_of, target_generation_for}
use Rattle.mps_model.specs.Placement.{ForMove, placement_of}
use Rattle.mps_model.specs.Checked.{cells_of_body}
use Rattle.mps_model.specs.Effect.{condemnation_of, condemned_zones, world_after_move}

-- a fact for the value, if there is one; if there is none it is false
abbrev pub ForOne : {A : Type 0} → Option A → (A → Type 0) → Type 0
ForOne None P = ⊥
ForOne (Some x) P = P x

abbrev pub is_tracing : Phase → Bool
is_tracing Tracing = true
is_tracing Splatting = false
is_tracing Reclaiming = false

abbrev pub may_splat : Phase → Bool
may_splat Tracing = true
may_splat Splatting = true
may_splat Reclaiming = false

-- ---- what a placement is

-- there is an address, and it is this one
abbrev pub IsPlaceAt : Placement → (address : Address) → Type 0
IsPlaceAt (Place word) address = address_of_word word ≡ address
IsPlaceAt (NewSegment grain grains) address = ⊥
IsPlaceAt (OverLimit committed need limit) address = ⊥
IsPlaceAt (NoFreeRun need longest) address = ⊥

-- it needs a new segment, and it is this one
abbrev pub IsNewSegmentAt : Placement → (base grains : ℕ) → Type 0
IsNewSegmentAt (NewSegment grain count) base grains = (address_of_grain grain ≡ base) × (count ≡ grains)
IsNewSegmentAt (Place word) base grains = ⊥
IsNewSegmentAt (OverLimit committed need limit) base grains = ⊥
IsNewSegmentAt (NoFreeRun need longest) base grains = ⊥

-- there is neither a place nor room for a new segment
abbrev pub has_no_room : Placement → Bool
has_no_room (Place word) = false
has_no_room (NewSegment grain grains) = false
has_no_room (OverLimit committed need limit) = true
has_no_room (NoFreeRun need longest) = true

-- ---- moving and staying

-- a collection moves a condemned object of a copying pool, once, and while it traces
pub record IsLegalMoved (w : World) (c : Collection) (id to : ℕ) : Type 0 where
  pub tracing : IsTrue (is_tracing c.phase)
  pub condemned : IsTrue (is_condemned c id)
  pub not_settled : IsTrue (not (is_settled c id))
  pub copying : IsTrue (is_copying_object w id)
  pub at_placement : IsPlaceAt (placement_of w (ForMove id)) to

-- it stays only if there is no room for it
pub record IsLegalStay (w : World) (c : Collection) (id : Id) : Type 0 where
  pub tracing : IsTrue (is_tracing c.phase)
  pub condemned : IsTrue (is_condemned c id)
  pub not_settled : IsTrue (not (is_settled c id))
  pub copying : IsTrue (is_copying_object w id)
  pub no_room : IsTrue (has_no_room (placement_of w (ForMove id)))

-- a new segment for an object that moves to its base
pub record IsSegmentForMove (w : World) (base grains pool generation to id : ℕ) : Type 0 where
  pub first : to ≡ base
  pub placement : IsNewSegmentAt (placement_of w (ForMove id)) base grains
  pub of_pool : pool ≡ pool_of w id
  pub of_generation : generation ≡ target_generation_for w id

-- a segment is taken for the move after it
abbrev pub IsLegalSegment : World → (base grains pool generation : ℕ) → (next : Option Move) → Type 0
IsLegalSegment w base grains pool generation (Some (moves.Moved from to)) =
    ForOne (id_at w from.0) (IsSegmentForMove w base grains pool generation to.0)
IsLegalSegment w base grains pool generation _ = ⊥

-- ---- what is lost

-- the live automatic objects that a collection is known to keep, but for this one
abbrev pub ids_kept : World → Collection → (except : Id) → List ℕ
ids_kept w c except = filter (λ id. not (id == except) && is_surely_kept c id) (live_automatic_ids w)

-- no path leads to the object from what the client holds, nor from anything else that the collection is known to keep
abbrev pub IsLost : World → Collection → (id : Id) → Type 0
IsLost w c id = ¬ IsReachableWith w.graph (ids_kept w c id) id

-- a target that is gone: condemned, not settled, and lost
pub record IsGone (w : World) (c : Collection) (id : Id) : Type 0 where
  pub condemned : IsTrue (is_condemned c id)
  pub not_settled : IsTrue (not (is_settled c id))
  pub lost : IsLost w c id

-- ---- splats and posts

-- an object whose references a collection may look at: it is known to keep it, or it may survive and lies in a pool that
-- doesn't move
abbrev pub MayBeScanned : World → Collection → (id : Id) → Type 0
MayBeScanned w c id = IsTrue (is_surely_kept c id) ⊎ (IsTrue (not (is_copying_object w id)) × MaySurvive c id)

-- what a cell of an object refers to
abbrev pub target_in_cell : World → (id cell : ℕ) → Option ℕ
target_in_cell w id cell =
    option_and_then target_of_cell (option_and_then (λ o. slice_get (cells_of_body o.body) cell) (object_at w.graph id))

-- a weak reference is splatted only if its target is gone
pub record IsLegalSplat (w : World) (c : Collection) (holder cell : ℕ) : Type 0 where
  pub phase : IsTrue (may_splat c.phase)
  pub weak : IsTrue (object_is is_weak_object w holder)
  pub scanned : MayBeScanned w c holder
  pub target_is_gone : ForOne (target_in_cell w holder cell) (IsGone w c)

-- whether a move is the one by which the block at an address was moved there or made to stay
abbrev pub keeps_at : (address : Address) → Move → Bool
keeps_at address (moves.Moved from to) = to.0 == address
keeps_at address (moves.Stay at) = at.0 == address
keeps_at address _ = false

-- whether the move before is that one
abbrev pub is_kept_before : (address : Address) → (before : Option Move) → Bool
is_kept_before address before = option_map_or (keeps_at address) before false

-- a registration that was made before the flip and isn't examined yet
abbrev pub is_due : Collection → (position : ℕ) → Bool
is_due c position = nat_le c.examined position && nat_lt position c.registered_before

-- a message is posted for a registered object that is lost, and takes its first registration with it
pub record IsLegalPost (w : World) (c : Collection) (before : Option Move) (id at : ℕ) : Type 0 where
  pub tracing : IsTrue (is_tracing c.phase)
  pub condemned : IsTrue (is_condemned c id)
  pub lost : IsLost w c id
  pub registered : ForOne (position_of_first w.graph.registered id) (λ position. IsTrue (is_due c position))
  -- the object isn't settled, or the move just before kept it for this post
  pub just_found : IsTrue (not (is_settled c id) || is_kept_before at before)

-- ---- freeing

-- a collection frees an object that is gone and not registered. What it condemned is automatic
pub record IsLegalSweep (w : World) (c : Collection) (id : Id) : Type 0 where
  pub gone : IsGone w c id
  pub not_registered : IsTrue (not (contains w.graph.registered id))

-- a condemned segment is given back where nothing lies in it
pub record IsLegalUnseg (w : World) (c : Collection) (s : Segment) : Type 0 where
  pub empty : IsTrue (is_empty_segment w s)
  pub condemned : IsTrue (contains c.condemned_segments s.base)

-- ---- the end of a collection

-- the condemned objects that are still live
abbrev pub live_condemned : World → Collection → List ℕ
live_condemned w c = filter (is_live w) c.condemned

abbrev pub holds_something : World → (base : Address) → Bool
holds_something w base = option_map_or (λ s. not (is_empty_segment w s)) (segment_at w base) false

-- a collection ends if all that must go is gone
pub record IsLegalEnd (w : World) (c : Collection) : Type 0 where
  -- what is left of the condemned objects is settled or may survive
  pub survivors : AllByRecursion (λ id. IsTrue (is_settled c id) ⊎ MaySurvive c id) (live_condemned w c)
  -- what is left of them in copying pools was moved, made to stay, or pinned
  pub copied : IsTrue (list_all (is_kept_in_place c) (filter (is_copying_object w) (live_condemned w c)))
  -- what is left of the condemned segments holds a block or a reservation
  pub segments : IsTrue (list_all (holds_something w) c.condemned_segments)

-- ---- all moves

-- a collection begins if none runs, and records the zones of what it condemns in copying pools
pub record IsLegalFlip (w : World) (zones chain generation : ℕ) : Type 0 where
  pub none_runs : IsTrue (not (is_running w))
  pub of_zones : zones ≡ condemned_zones w (condemnation_of chain generation)

-- a fact of the running collection and the object at an address
abbrev pub ForObjectAt : World → (address : Address) → (Collection → (id : Id) → Type 0) → Type 0
ForObjectAt w address Fact = ForOne w.collection (λ c. ForOne (id_at w address) (Fact c))

-- whether a move of the collector is legal in a world, with the move before it and the one after it
abbrev pub IsLegalMove : World → (before : Option Move) → Move → (next : Option Move) → Type 0
IsLegalMove w before (moves.Seg base grains pool generation) next = IsLegalSegment w base.0 grains pool generation next
IsLegalMove w before (moves.Unseg base) next = ForOne w.collection (λ c. ForOne (segment_at w base.0) (IsLegalUnseg w c))
IsLegalMove w before (moves.Flip zones chain generation) next = IsLegalFlip w zones.0 chain generation
IsLegalMove w before moves.End next = ForOne w.collection (IsLegalEnd w)
IsLegalMove w before (moves.Moved from to) next = ForObjectAt w from.0 (λ c id. IsLegalMoved w c id to.0)
IsLegalMove w before (moves.Stay at) next = ForObjectAt w at.0 (IsLegalStay w)
IsLegalMove w before (moves.Splat holder cell) next = ForObjectAt w holder.0 (λ c id. IsLegalSplat w c id cell)
IsLegalMove w before (moves.Post at) next = ForObjectAt w at.0 (λ c id. IsLegalPost w c before id at.0)
IsLegalMove w before (moves.Free at) next = ForObjectAt w at.0 (IsLegalSweep w)
IsLegalMove w before (moves.Commit at words pool) next = ⊥
IsLegalMove w before (moves.Alloc at words pool) next = ⊥

abbrev pub first_move : List Move → Option Move
first_move [] = None
first_move (m ∷ ms) = Some m

-- each move is legal in the world that the moves before it leave
abbrev pub AreLegalMoves : World → (before : Option Move) → List Move → Type 0
AreLegalMoves w before [] = Unit {0}
AreLegalMoves w before (m ∷ ms) = IsLegalMove w before m (first_move ms) × AreLegalMoves (world_after_move w m) (Some m) ms
