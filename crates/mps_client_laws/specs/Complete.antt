-- A `collect` is complete: what lives after it, which blocks it kept in place or moved, and which segments the arena holds then.
use Rattle.std.specs.Prelude.{◌≡◌, ℕ, Bool, true, false, if◌then◌else◌, IsTrue, Some, List, [], ◌∷◌, ◌++◌, refl}
use Rattle.std.specs.List.{list_any}
use Rattle.mps_base.specs.Address.{Id, Address}
use Rattle.mps_base.specs.Segment.{Segment, is_in_segment}
use Rattle.mps_base.specs.declared.moves.Move.{Move}
use Rattle.mps_base.specs.declared.moves.Move.TheVariants as moves
use Rattle.mps_base.specs.declared.names.Rank.TheVariants as rank
use Rattle.mps_model.specs.Layout.{Layout}
use Rattle.mps_model.specs.declared.call.Call.TheVariants as call
use Rattle.mps_model.specs.Answer.{is_accepted}
use Rattle.mps_model.specs.Step.{Step, History}
use Rattle.mps_model.specs.Graph.{contains, ids_of_client, strong_targets, targets}
use Rattle.mps_model.specs.Reachable.{PathLeads, begins, goes_on}
use Rattle.mps_model.specs.World.{World, PoolKind, OneSize, AnySize, address_of, has_area_word, id_at, ids_of_area_words, is_copying_object, is_live, is_live_and, is_running, live_ids, pool_is, segment_at}
use Rattle.mps_model.specs.WellFormed.{is_live_automatic}
use Rattle.mps_model.specs.Effect.{world_after_move}
use Rattle.mps_model.specs.History.{IsLegalHistoryOf, world_after}
use Rattle.mps_model.specs.Posts.{IsWidelyReachableWith}
use Rattle.mps_laws.specs.Replay.{reached}
use Rattle.mps_laws.specs.Staying.{is_flip}
use Rattle.mps_client_laws.specs.Objects.{is_this, two_objects, with_a_dependent}
use Rattle.mps_client_laws.specs.Addresses.{none_of_moves}

-- ---- the flip of a `collect`

-- the world that the first flip of some moves leaves. A step flips at most once
abbrev pub world_at_first_flip : World → List Move → World
world_at_first_flip w [] = w
world_at_first_flip w (m ∷ ms) = if is_flip m then world_after_move w m else world_at_first_flip (world_after_move w m) ms

-- the moves after the first flip
abbrev pub moves_after_flip : List Move → List Move
moves_after_flip [] = []
moves_after_flip (m ∷ ms) = if is_flip m then ms else moves_after_flip ms

-- A fact of each accepted `collect` of a legal history: of the world before it, the one that its flip leaves, its moves from there on,
-- and the world after it.
abbrev pub OfEachCollect : (Fact : (before flipped : World) → (later_moves : List Move) → (after : World) → Type 0) → Type 0
OfEachCollect Fact =
    (formats : ℕ → Layout) (steps later : History) (s : Step) → IsLegalHistoryOf formats (steps ++ s ∷ later) → s.call ≡ call.Collect
    → IsTrue (is_accepted s.answer)
    → Fact (reached formats steps) (world_at_first_flip (reached formats steps) s.moves) (moves_after_flip s.moves)
    (world_after (reached formats steps) s)

-- ---- what lives

-- a path leads to an object, through the references that objects which aren't weak had at the flip, from what the client holds after
-- the `collect` or from an object in which an area word lies then. After the flip only splats write references; so this is
-- reachability after it, where the cells of dependents that it made null still have their targets
abbrev pub IsReachedFrom : (flipped after : World) → (id : Id) → Type 0
IsReachedFrom flipped after id = PathLeads (strong_targets flipped.graph) (ids_of_client after.graph ++ ids_of_area_words after) id

-- Each live automatic object is reached so.
abbrev pub AllLiveAreReached : (flipped after : World) → Type 0
AllLiveAreReached flipped after = (id : Id) → IsTrue (is_live_automatic after id) → IsReachedFrom flipped after id

abbrev pub LiveObjectsAreReached : Type 0
LiveObjectsAreReached = OfEachCollect (λ before flipped later_moves after. AllLiveAreReached flipped after)

-- And each object that is reached so is live and automatic, if no collection ran before the `collect`.
abbrev pub AllReachedAreLive : (flipped after : World) → Type 0
AllReachedAreLive flipped after = (id : Id) → IsReachedFrom flipped after id → IsTrue (is_live_automatic after id)

abbrev pub ReachedObjectsAreLive : Type 0
ReachedObjectsAreLive = OfEachCollect (λ before flipped later_moves after. is_running before ≡ false → AllReachedAreLive flipped after)

-- Also if one ran before: each object that is reached by the references afterwards is live and automatic.
abbrev pub AllStillReachedAreLive : (after : World) → Type 0
AllStillReachedAreLive after = (id : Id) → IsWidelyReachableWith after [] id → IsTrue (is_live_automatic after id)

abbrev pub StillReachedObjectsAreLive : Type 0
StillReachedObjectsAreLive = OfEachCollect (λ before flipped later_moves after. AllStillReachedAreLive after)

-- Each registered object is live and automatic.
abbrev pub AllRegisteredAreLive : (after : World) → Type 0
AllRegisteredAreLive after = (id : Id) → IsTrue (contains after.graph.registered id) → IsTrue (is_live_automatic after id)

abbrev pub RegisteredObjectsAreLive : Type 0
RegisteredObjectsAreLive = OfEachCollect (λ before flipped later_moves after. AllRegisteredAreLive after)

-- So is each object to which a live one refers, weakly or not.
abbrev pub AllTargetsAreLive : (after : World) → Type 0
AllTargetsAreLive after =
    (holder id : Id) → IsTrue (is_live after holder) → IsTrue (contains (targets after.graph holder) id)
    → IsTrue (is_live_automatic after id)

abbrev pub TargetsAreLive : Type 0
TargetsAreLive = OfEachCollect (λ before flipped later_moves after. AllTargetsAreLive after)

-- ---- what was moved

-- whether a move moves this object or makes it stay
abbrev pub keeps_object : World → Move → (id : Id) → Bool
keeps_object w (moves.Moved from to) id = is_this id (id_at w from.0)
keeps_object w (moves.Stay at) id = is_this id (id_at w at.0)
keeps_object w _ id = false

-- A live object of a copying pool in which no area word lay at the flip was moved since then or made to stay.
abbrev pub AllOthersWereKept : (flipped : World) → (later_moves : List Move) → (after : World) → Type 0
AllOthersWereKept flipped later_moves after =
    (id : Id) → IsTrue (is_live after id) → IsTrue (is_copying_object after id) → has_area_word flipped id ≡ false
    → none_of_moves (λ w m. keeps_object w m id) flipped later_moves ≡ false

abbrev pub OthersWereKeptByMoves : Type 0
OthersWereKeptByMoves = OfEachCollect (λ before flipped later_moves after. AllOthersWereKept flipped later_moves after)

-- An object in which an area word lay at the flip is live afterwards, where it was.
abbrev pub AllPinnedStay : (flipped after : World) → Type 0
AllPinnedStay flipped after =
    (id : Id) (at : Address) → has_area_word flipped id ≡ true → address_of flipped id ≡ Some at → address_of after id ≡ Some at

abbrev pub PinnedObjectsStay : Type 0
PinnedObjectsStay = OfEachCollect (λ before flipped later_moves after. AllPinnedStay flipped after)

-- ---- what the arena holds

-- whether a live block lies in a segment
abbrev pub has_live_block : World → Segment → Bool
has_live_block w s = list_any (is_live_and (is_in_segment s) w) (live_ids w)

abbrev pub is_one_size_kind : PoolKind → Bool
is_one_size_kind (OneSize words) = true
is_one_size_kind _ = false

-- In each held segment lies a live block, but for those of pools of blocks of one size.
abbrev pub AllSegmentsHaveBlocks : (after : World) → Type 0
AllSegmentsHaveBlocks after =
    (base : Address) (s : Segment) → segment_at after base ≡ Some s → pool_is is_one_size_kind after s.pool ≡ false
    → IsTrue (has_live_block after s)

abbrev pub SegmentsHaveLiveBlocks : Type 0
SegmentsHaveLiveBlocks = OfEachCollect (λ before flipped later_moves after. AllSegmentsHaveBlocks after)

-- ---- vectors

abbrev moved_after_a_flip : List Move
moved_after_a_flip =
    moves.End ∷ moves.Flip (record { 0 = 0 }) 16 0 ∷ moves.Moved (record { 0 = 0x2000 }) (record { 0 = 0x4000 }) ∷ moves.End ∷ []

pub the_moves_before_the_flip_are_left_out : moves_after_flip moved_after_a_flip
    ≡ moves.Moved (record { 0 = 0x2000 }) (record { 0 = 0x4000 }) ∷ moves.End ∷ []
the_moves_before_the_flip_are_left_out = refl

pub none_come_after_no_flip : moves_after_flip (moves.End ∷ []) ≡ []
none_come_after_no_flip = refl

pub at_the_flip_a_collection_runs : is_running (world_at_first_flip two_objects moved_after_a_flip) ≡ true
at_the_flip_a_collection_runs = refl

pub without_a_flip_none_begins : is_running (world_at_first_flip two_objects (moves.End ∷ [])) ≡ false
without_a_flip_none_begins = refl

pub the_moved_one_is_kept : keeps_object two_objects (moves.Moved (record { 0 = 0x2000 }) (record { 0 = 0x4000 })) 1 ≡ true
the_moved_one_is_kept = refl

pub one_that_stays_is_kept : keeps_object two_objects (moves.Stay (record { 0 = 0x1000 })) 0 ≡ true
one_that_stays_is_kept = refl

pub another_isnt_kept : keeps_object two_objects (moves.Moved (record { 0 = 0x2000 }) (record { 0 = 0x4000 })) 0 ≡ false
another_isnt_kept = refl

pub a_freed_one_isnt_kept : keeps_object two_objects (moves.Free (record { 0 = 0x2000 })) 1 ≡ false
a_freed_one_isnt_kept = refl

abbrev segment_from : (base : Address) → Segment
segment_from base = record { base = base; grains = 1; pool = 0; generation = 0; rank = rank.Exact }

pub a_block_at_the_base_is_in_the_segment : has_live_block two_objects (segment_from 0x2000) ≡ true
a_block_at_the_base_is_in_the_segment = refl

pub a_block_after_the_end_isnt : has_live_block two_objects (segment_from 0x4000) ≡ false
a_block_after_the_end_isnt = refl

-- a splat of this step made the reference of the dependent null, so only its old reference leads on
abbrev splatted : World
splatted = world_after_move with_a_dependent (moves.Splat (record { 0 = 0x2000 }) 1)

pub an_old_reference_leads_on : IsReachedFrom with_a_dependent splatted 1
an_old_reference_leads_on = goes_on {from = 0} (begins refl) refl

pub the_new_one_leads_nowhere : strong_targets splatted.graph 0 ≡ []
the_new_one_leads_nowhere = refl

pub blocks_of_one_size : is_one_size_kind (OneSize 4) ≡ true
blocks_of_one_size = refl

pub blocks_of_any_sizes : is_one_size_kind AnySize ≡ false
blocks_of_any_sizes = refl
