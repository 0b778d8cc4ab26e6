-- The moves that a call of a client makes by itself: none moves an object, and none is a flip.
use Rattle.std.proofs.Common.{◌≡◌, ℕ, Bool, true, false, true≢false, refl, ◌∙◌, ap, List, [], ◌∷◌, ◌++◌, Option, Some, None, Ok, Err}
use Rattle.std.proofs.lemmas.Bool.{or_parts}
use Rattle.std.specs.Prelude.{◌||◌, ◌&&◌, if◌then◌else◌}
use Rattle.std.specs.List.{list_any}
use Rattle.std.specs.Option.{option_map_or}
use Rattle.mps_base.specs.Placement.{Placement, Place, NewSegment, OverLimit, NoFreeRun}
use Rattle.mps_base.specs.Segment.{Segment}
use Rattle.mps_base.specs.declared.moves.Move.{Move}
use Rattle.mps_base.specs.declared.moves.Move.TheVariants as moves
use Rattle.mps_model.specs.Answer.{Answer, is_accepted, is_refused}
use Rattle.mps_model.specs.Graph.{Point, Reservation, Cache, CacheClass, PoolFrames}
use Rattle.mps_model.specs.World.{World, address_of, segment_of, pool_is, is_any_size_kind, is_empty_segment}
use Rattle.mps_model.specs.Checked.{Checked, Found, Numbered}
use Rattle.mps_model.specs.Placement.{placement_of, ForAlloc}
use Rattle.mps_base.specs.Address.{Address}
use Rattle.mps_model.specs.Caches.{flushed, kept_by, taken_from}
use Rattle.mps_model.specs.Accessing.{address_or_null}
use Rattle.mps_model.specs.Effect.{world_after_move, world_after_moves}
use Rattle.mps_model.specs.LegalMove.{ForObjectAt, IsLegalMove, IsLegalMoved, AreLegalMoves, first_move}
use Rattle.mps_model.specs.Flip.{at_address}
use Rattle.mps_model.specs.Frames.{blocks_popped, frame_in}
use Rattle.mps_model.specs.History.{if_accepted, unless_refused, moves_of_commit, commit_of, moves_of_alloc, alloc_at, moves_of_free, free_of, free_of_object, moves_of_frees, moves_if_not_taken, moves_of_cache_alloc, moves_if_not_kept, moves_of_cache_free, moves_of_cache_flush, moves_of_frame, moves_of_pop, give_back_empty, free_at}

-- ---- moves that are legal

-- a move that moves an object is legal
abbrev pub IsMovedLegally : World → Move → Type 0
IsMovedLegally w (moves.Moved from to) = ForObjectAt w from.0 (λ c id. IsLegalMoved w c id to.0)
IsMovedLegally w _ = Unit {0}

abbrev pub AreMovedLegally : World → List Move → Type 0
AreMovedLegally w [] = Unit {0}
AreMovedLegally w (m ∷ ms) = IsMovedLegally w m × AreMovedLegally (world_after_move w m) ms

-- legal moves move legally
moved_legally : (w : World) (before : Option Move) (m : Move) (next : Option Move) → IsLegalMove w before m next → IsMovedLegally w m
moved_legally w before (moves.Moved from to) next legal = legal
moved_legally w before _ next legal = tt

pub all_moved_legally : (w : World) (before : Option Move) (ms : List Move) → AreLegalMoves w before ms → AreMovedLegally w ms
all_moved_legally w before [] legal = tt
all_moved_legally w before (m ∷ ms) legal =
    (moved_legally w before m (first_move ms) legal.0, all_moved_legally (world_after_move w m) (Some m) ms legal.1)

-- ---- the moves that a client's call makes by itself

-- whether a move moves an object or is a flip
abbrev pub is_moving : Move → Bool
is_moving (moves.Moved from to) = true
is_moving (moves.Flip zones chain generation) = true
is_moving _ = false

-- where nothing is moved, it is moved legally
pub none_moved : (w : World) (ms : List Move) → list_any is_moving ms ≡ false → AreMovedLegally w ms
none_moved w [] none = tt
none_moved w (m ∷ ms) none =
    let parts = or_parts (is_moving m) (list_any is_moving ms) none in (first m parts.0, none_moved (world_after_move w m) ms parts.1)
  where
    first : (n : Move) → is_moving n ≡ false → IsMovedLegally w n
    first (moves.Moved from to) none = absurd (true≢false none)
    first _ none = tt

pub commit_moves_none : (w : World) (answer : Answer) (p : Checked (Numbered Point))
    → list_any is_moving (if_accepted answer (moves_of_commit w p)) ≡ false
commit_moves_none w answer p = by_case (is_accepted answer) p
  where
    by_reservation : (p : Numbered Point) (r : Option Reservation) → list_any is_moving (commit_of w p r) ≡ false
    by_reservation p None = refl
    by_reservation p (Some r) = refl

    by_case : (b : Bool) (p : Checked (Numbered Point)) → list_any is_moving (if b then moves_of_commit w p else []) ≡ false
    by_case true (Ok p) = by_reservation p p.value.reservation
    by_case true (Err why) = refl
    by_case false p = refl

placed_moves_none : (pool words : ℕ) (place : Placement) → list_any is_moving (alloc_at pool words place) ≡ false
placed_moves_none pool words (Place word) = refl
placed_moves_none pool words (NewSegment grain grains) = refl
placed_moves_none pool words (OverLimit committed need limit) = refl
placed_moves_none pool words (NoFreeRun need longest) = refl

-- none of no moves, and of those of a call that isn't refused
unless_none : (answer : Answer) (ms : List Move) → list_any is_moving ms ≡ false → list_any is_moving (unless_refused answer ms) ≡ false
unless_none answer ms none = by_case (is_refused answer)
  where
    by_case : (b : Bool) → list_any is_moving (if b then [] else ms) ≡ false
    by_case true = refl
    by_case false = none

pub alloc_moves_none : {A : Type 0} (w : World) (answer : Answer) (p : Checked (Numbered A)) (words : ℕ)
    → list_any is_moving (unless_refused answer (moves_of_alloc w p words)) ≡ false
alloc_moves_none {A} w answer p words = unless_none answer (moves_of_alloc w p words) (of_pool p)
  where
    of_pool : (p : Checked (Numbered A)) → list_any is_moving (moves_of_alloc w p words) ≡ false
    of_pool (Ok p) = placed_moves_none p.number words (placement_of w (ForAlloc p.number words))
    of_pool (Err why) = refl

freed_moves_none : (w : World) (at : Address) → list_any is_moving (free_of w at) ≡ false
freed_moves_none w at = given_back (world_after_moves w (free_at at)) (segment_of w at)
  where
    by_segment : (b : Bool) (s : Segment) → list_any is_moving (if b then moves.Unseg (at_address s.base) ∷ [] else []) ≡ false
    by_segment true s = refl
    by_segment false s = refl

    given_back : (v : World) (s : Option Segment) → list_any is_moving (give_back_empty v s) ≡ false
    given_back v None = refl
    given_back v (Some s) = by_segment (pool_is is_any_size_kind v s.pool && is_empty_segment v s) s

pub free_moves_none : (w : World) (answer : Answer) (p : Checked (Found (Option ℕ)))
    → list_any is_moving (unless_refused answer (moves_of_free w p)) ≡ false
free_moves_none w answer p = unless_none answer (moves_of_free w p) (of_place p)
  where
    by_block : (found : Option ℕ) → list_any is_moving (option_map_or (λ id. free_of w (address_or_null w id)) found []) ≡ false
    by_block None = refl
    by_block (Some id) = freed_moves_none w (address_or_null w id)

    of_place : (p : Checked (Found (Option ℕ))) → list_any is_moving (moves_of_free w p) ≡ false
    of_place (Ok found) = by_block found.value
    of_place (Err why) = refl

-- ---- those of calls on caches

object_moves_none : (w : World) (id : ℕ) → list_any is_moving (free_of_object w id) ≡ false
object_moves_none w id = by_address (address_of w id)
  where
    by_address : (at : Option ℕ) → list_any is_moving (option_map_or (free_of w) at []) ≡ false
    by_address None = refl
    by_address (Some at) = freed_moves_none w at

both_none : (xs ys : List Move) → list_any is_moving xs ≡ false → list_any is_moving ys ≡ false → list_any is_moving (xs ++ ys) ≡ false
both_none [] ys h k = k
both_none (x ∷ xs) ys h k =
    let parts = or_parts (is_moving x) (list_any is_moving xs) h in
    ap (λ b. b || list_any is_moving (xs ++ ys)) parts.0 ∙ both_none xs ys parts.1 k

pub frees_moves_none : (w : World) (ids : List ℕ) → list_any is_moving (moves_of_frees w ids) ≡ false
frees_moves_none w [] = refl
frees_moves_none w (id ∷ ids) =
    both_none (free_of_object w id) (moves_of_frees (world_after_moves w (free_of_object w id)) ids) (object_moves_none w id)
    (frees_moves_none (world_after_moves w (free_of_object w id)) ids)

pub cache_alloc_moves_none : (w : World) (answer : Answer) (q : Checked (Numbered Cache)) (words : ℕ)
    → list_any is_moving (unless_refused answer (moves_of_cache_alloc w q words)) ≡ false
cache_alloc_moves_none w answer q words = unless_none answer (moves_of_cache_alloc w q words) (of_cache q)
  where
    if_taken : (pool : ℕ) (taken : Option (ℕ × List CacheClass)) → list_any is_moving (moves_if_not_taken w pool words taken) ≡ false
    if_taken pool None = placed_moves_none pool words (placement_of w (ForAlloc pool words))
    if_taken pool (Some taken) = refl

    of_cache : (q : Checked (Numbered Cache)) → list_any is_moving (moves_of_cache_alloc w q words) ≡ false
    of_cache (Ok q) = if_taken q.value.pool (taken_from q.value.classes words)
    of_cache (Err why) = refl

pub cache_free_moves_none : (w : World) (answer : Answer) (q : Checked (Numbered Cache)) (p : Checked (Found (Option ℕ)))
    → list_any is_moving (unless_refused answer (moves_of_cache_free w q p)) ≡ false
cache_free_moves_none w answer q p = unless_none answer (moves_of_cache_free w q p) (of_both q p)
  where
    if_kept : (id : ℕ) (classes : Option (List CacheClass)) → list_any is_moving (moves_if_not_kept w id classes) ≡ false
    if_kept id None = object_moves_none w id
    if_kept id (Some classes) = refl

    by_block : (q : Numbered Cache) (found : Option ℕ)
        → list_any is_moving (option_map_or (λ id. moves_if_not_kept w id (kept_by w q.value id)) found []) ≡ false
    by_block q None = refl
    by_block q (Some id) = if_kept id (kept_by w q.value id)

    of_both : (q : Checked (Numbered Cache)) (p : Checked (Found (Option ℕ))) → list_any is_moving (moves_of_cache_free w q p) ≡ false
    of_both (Ok q) (Ok found) = by_block q found.value
    of_both (Ok q) (Err why) = refl
    of_both (Err why) p = refl

pub cache_flush_moves_none : (w : World) (answer : Answer) (q : Checked (Numbered Cache))
    → list_any is_moving (unless_refused answer (moves_of_cache_flush w q)) ≡ false
cache_flush_moves_none w answer q = unless_none answer (moves_of_cache_flush w q) (of_cache q)
  where
    of_cache : (q : Checked (Numbered Cache)) → list_any is_moving (moves_of_cache_flush w q) ≡ false
    of_cache (Ok q) = frees_moves_none w (flushed q.value)
    of_cache (Err why) = refl

pub pop_moves_none : (w : World) (answer : Answer) (x : Checked PoolFrames) (frame : ℕ)
    → list_any is_moving (unless_refused answer (moves_of_pop w x frame)) ≡ false
pop_moves_none w answer x frame = unless_none answer (moves_of_pop w x frame) (of_pool x)
  where
    of_frame : (f : PoolFrames) (y : Checked ℕ) → list_any is_moving (moves_of_frame w f y) ≡ false
    of_frame f (Ok before) = frees_moves_none w (blocks_popped f before)
    of_frame f (Err why) = refl

    of_pool : (x : Checked PoolFrames) → list_any is_moving (moves_of_pop w x frame) ≡ false
    of_pool (Ok f) = of_frame f (frame_in f frame)
    of_pool (Err why) = refl
