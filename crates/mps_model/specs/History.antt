-- Legal steps and legal histories. The world after a step is a function of the step: nothing is chosen but the moves, and
-- the answer of a `poke` on a block whose fate isn't decided.
use Rattle.std.specs.Prelude.{◌≡◌, ℕ, ◌-◌, Bool, true, false, not, ◌&&◌, ◌||◌, nat_lt, IsTrue, MatchBool, if◌then◌else◌, Option, Some, None, option_and_then, Ok, Err, List, [], ◌∷◌, ◌++◌, length, filter, take, slice_get, slice_set, ◌+◌}
use Rattle.std.specs.List.{list_all, flat_map}
use Rattle.std.specs.Option.{option_map_or}
use Rattle.mps_base.specs.Address.{Address, Id, address_of_grain}
use Rattle.mps_base.specs.Run.{Run}
use Rattle.mps_base.specs.Generation.{Due}
use Rattle.mps_base.specs.Placement.{Placement, Place, NewSegment, OverLimit, NoFreeRun}
use Rattle.mps_base.specs.Segment.{Segment, words_of_segment}
use Rattle.mps_base.specs.declared.moves.Move.{Move}
use Rattle.mps_base.specs.declared.moves.Move.TheVariants as moves
use Rattle.mps_base.specs.declared.names.Name.{Name}
use Rattle.mps_base.specs.declared.names.Slot.{Slot}
use Rattle.mps_base.specs.declared.names.Rank.{Rank}
use Rattle.mps_base.specs.declared.names.Rank.TheVariants as rank
use Rattle.mps_format.specs.Layout.{Layout}
use Rattle.mps_format.specs.Any.{numbered_layout}
use Rattle.mps_model.specs.declared.call.Call.{Call}
use Rattle.mps_model.specs.declared.call.Call.TheVariants as call
use Rattle.mps_model.specs.Answer.{Answer, is_accepted, is_block, is_refused}
use Rattle.mps_model.specs.Step.{Step, History}
use Rattle.mps_model.specs.Replay.{Store, Block, with_block}
use Rattle.mps_model.specs.Graph.{Reservation, Point, Cache, CacheClass, PoolFrames, entry_at, ids_of_client, ids_in_blocks, targets}
use Rattle.mps_model.specs.Collection.{Collection, is_condemned, is_kept_in_place, MaySurvive}
use Rattle.mps_model.specs.World.{World, PointMemory, empty_world_of, empty_world, is_live, is_running, is_unclamped, ids_in_pairs, live_ids, address_of, segment_of, pool_of, words_of, is_copying_pool, is_copying_object, is_any_size_kind, is_empty_segment, pool_is, block_of_word}
use Rattle.mps_model.specs.Placement.{ForReserve, ForAlloc, placement_of}
use Rattle.mps_model.specs.Checked.{Checked, Found, Numbered, number_named, as_point, chain_named, pool_named, point_named, cache_named, slot_in, block_place_in}
use Rattle.mps_model.specs.Allocating.{Reserving, check_reserve, reserved_address, address_of_placement}
use Rattle.mps_model.specs.Caches.{taken_from, kept_by, flushed}
use Rattle.mps_model.specs.Frames.{blocks_popped, frame_in, frames_named}
use Rattle.mps_model.specs.Accessing.{Poked, AsBlock, AsNumber, AsMarked, poked, address_or_null}
use Rattle.mps_model.specs.Reply.{act, reply_to, world_from}
use Rattle.mps_model.specs.Effect.{Everything, Generations, holding, segment_of_move, with_collection, world_after_moves}
use Rattle.mps_model.specs.LegalMove.{ForOne, AreLegalMoves}
use Rattle.mps_model.specs.Flip.{at_address, flip_act, world_at_flip}
use Rattle.mps_model.specs.Policy.{polls, due_in, units_of_poll, units_asked}
use Rattle.mps_model.specs.Posts.{IsWhole}
use Rattle.mps_model.specs.Units.{AreUnits, AreUnitsToEnd, IsBarrier}

-- ---- the segment that a reserve takes for itself

abbrev pub is_segment_taken : Move → Bool
is_segment_taken (moves.Seg base grains pool generation) = true
is_segment_taken _ = false

-- the last of some moves, alone
abbrev pub last_move : List Move → List Move
last_move [] = []
last_move (m ∷ []) = m ∷ []
last_move (m ∷ ms) = last_move ms

-- a `reserve` takes its own segment by its last move, if that takes one
abbrev pub own_segment : List Move → List Move
own_segment moves = filter is_segment_taken (last_move moves)

-- its moves before
abbrev pub moves_of_poll : List Move → List Move
moves_of_poll moves = take (length moves - length (own_segment moves)) moves

abbrev pub rank_of_point : World → (point : ℕ) → Rank
rank_of_point w point = option_map_or (λ p. p.rank) (entry_at w.graph.points point) rank.Exact

-- point memories, where the buffer of one of them is these words
abbrev pub with_buffer : List PointMemory → (point : ℕ) → Run → List PointMemory
with_buffer memories point words =
    option_map_or (λ (memory : PointMemory). slice_set memories point (record memory { buffer = words }))
    (slice_get memories point) memories

-- the world with one more segment, which has the rank of the point that reserves, and in a copying pool is the buffer there
abbrev pub with_segment_for_point : World → Segment → (point : ℕ) → World
with_segment_for_point w s point =
    if is_copying_pool w s.pool then record taken { point_memories = with_buffer w.point_memories point (words_of_segment s) } else taken
  where
    taken : World
    taken = holding w (record s { rank = rank_of_point w point })

-- the world after the own segment of a `reserve` of this point
abbrev pub after_own_segment : World → List Move → (point : Option ℕ) → World
after_own_segment w (moves.Seg base grains pool generation ∷ ms) (Some point) =
    with_segment_for_point w (segment_of_move base.0 grains pool generation) point
after_own_segment w _ _ = w

-- ---- the worlds of a step

-- the world in which a call is judged: the one before it; a `reserve` is judged after its poll
abbrev pub judged_world : World → Call → List Move → World
judged_world w (call.Reserve point head) moves = world_after_moves w (moves_of_poll moves)
judged_world w _ moves = w

-- the world after all moves of a call
abbrev pub after_its_moves : World → Call → List Move → World
after_its_moves w (call.Reserve point head) moves =
    after_own_segment (world_after_moves w (moves_of_poll moves)) (own_segment moves) (number_named w point as_point)
after_its_moves w _ moves = world_after_moves w moves

-- a running collection of which units were asked, if any were
abbrev pub asking : Option ℕ → World → World
asking None w = w
asking (Some units) w = with_collection w (λ c. record c { spent = c.spent + units })

-- the world in which a call takes effect: the one after all its moves, where the units that it asks are counted
abbrev pub moved_world : World → Call → List Move → World
moved_world w call moves = asking (units_asked w call) (after_its_moves w call moves)

-- a running collection after a call: what the client holds then is settled
abbrev pub remembering : List ℕ → Collection → Collection
remembering held c = record c { had = held ++ c.had }

abbrev pub with_client_remembered : World → World
with_client_remembered w = with_collection w (remembering (ids_of_client w.graph))

-- the world after a call that made these moves and was answered so
abbrev pub world_after_call : World → Call → List Move → Answer → World
world_after_call w call moves answer =
    with_client_remembered
    (world_from (moved_world w call moves) (act (is_block answer) (judged_world w call moves) (moved_world w call moves) call))

-- the world after a step
abbrev pub world_after : World → Step → World
world_after w s = world_after_call w s.call s.moves s.answer

-- ---- the client's moves: functions of the world

-- the segment that a placement takes for a pool
abbrev pub segment_taken : (pool : ℕ) → Placement → List Move
segment_taken pool (NewSegment grain grains) = moves.Seg (at_address (address_of_grain grain)) grains pool 0 ∷ []
segment_taken pool (Place word) = []
segment_taken pool (OverLimit committed need limit) = []
segment_taken pool (NoFreeRun need longest) = []

-- the segment that a reserve takes, where it is judged
abbrev pub segment_of_reserve : World → Checked Reserving → List Move
segment_of_reserve w (Ok r) = segment_taken r.point.value.pool (placement_of w (ForReserve r.point.number (length r.cells)))
segment_of_reserve w (Err why) = []

-- a reservation becomes a block where it is
abbrev pub commit_of : World → Numbered Point → Option Reservation → List Move
commit_of w p (Some r) = moves.Commit (at_address (reserved_address w p.number)) (length r.cells) p.value.pool ∷ []
commit_of w p None = []

abbrev pub moves_of_commit : World → Checked (Numbered Point) → List Move
moves_of_commit w (Ok p) = commit_of w p p.value.reservation
moves_of_commit w (Err why) = []

-- allocates a manual block at a placement, taking a new segment if needed
abbrev pub alloc_at : (pool words : ℕ) → Placement → List Move
alloc_at pool words placement = segment_taken pool placement ++ moves.Alloc (at_address (address_of_placement placement)) words pool ∷ []

abbrev pub moves_of_alloc : World → {A : Type 0} → Checked (Numbered A) → (words : ℕ) → List Move
moves_of_alloc w (Ok p) words = alloc_at p.number words (placement_of w (ForAlloc p.number words))
moves_of_alloc w (Err why) words = []

-- the segment of a pool of any sizes is given back if nothing is left in it
abbrev pub give_back_empty : World → Option Segment → List Move
give_back_empty w None = []
give_back_empty w (Some s) =
    if pool_is is_any_size_kind w s.pool && is_empty_segment w s then moves.Unseg (at_address s.base) ∷ [] else []

abbrev pub free_at : (address : Address) → List Move
free_at address = moves.Free (at_address address) ∷ []

-- a manual block at an address is freed, and its segment given back if that is due
abbrev pub free_of : World → (address : Address) → List Move
free_of w address = free_at address ++ give_back_empty (world_after_moves w (free_at address)) (segment_of w address)

abbrev pub moves_of_free : World → Checked (Found (Option ℕ)) → List Move
moves_of_free w (Ok found) = option_map_or (λ id. free_of w (address_or_null w id)) found.value []
moves_of_free w (Err why) = []

-- an object is freed, if it is live
abbrev pub free_of_object : World → (id : Id) → List Move
free_of_object w id = option_map_or (free_of w) (address_of w id) []

-- objects are freed one after the other, each in the world that the moves before leave
abbrev pub moves_of_frees : World → List Id → List Move
moves_of_frees w [] = []
moves_of_frees w (id ∷ ids) = free_of_object w id ++ moves_of_frees (world_after_moves w (free_of_object w id)) ids

-- none if a block was taken from the cache, and else those that make one
abbrev pub moves_if_not_taken : World → (pool words : ℕ) → Option (Id × List CacheClass) → List Move
moves_if_not_taken w pool words (Some taken) = []
moves_if_not_taken w pool words None = alloc_at pool words (placement_of w (ForAlloc pool words))

abbrev pub moves_of_cache_alloc : World → Checked (Numbered Cache) → (words : ℕ) → List Move
moves_of_cache_alloc w (Ok q) words = moves_if_not_taken w q.value.pool words (taken_from q.value.classes words)
moves_of_cache_alloc w (Err why) words = []

-- none if a block is kept in the cache, and else those that free it
abbrev pub moves_if_not_kept : World → (id : Id) → Option (List CacheClass) → List Move
moves_if_not_kept w id (Some classes) = []
moves_if_not_kept w id None = free_of_object w id

abbrev pub moves_of_cache_free : World → Checked (Numbered Cache) → Checked (Found (Option ℕ)) → List Move
moves_of_cache_free w (Ok q) (Ok found) = option_map_or (λ id. moves_if_not_kept w id (kept_by w q.value id)) found.value []
moves_of_cache_free w _ _ = []

abbrev pub moves_of_cache_flush : World → Checked (Numbered Cache) → List Move
moves_of_cache_flush w (Ok q) = moves_of_frees w (flushed q.value)
moves_of_cache_flush w (Err why) = []

-- the moves of a pop: each block made since the frame was opened is freed
abbrev pub moves_of_frame : World → PoolFrames → Checked ℕ → List Move
moves_of_frame w f (Ok before) = moves_of_frees w (blocks_popped f before)
moves_of_frame w f (Err why) = []

abbrev pub moves_of_pop : World → Checked PoolFrames → (frame : ℕ) → List Move
moves_of_pop w (Ok f) frame = moves_of_frame w f (frame_in f frame)
moves_of_pop w (Err why) frame = []

-- these moves, unless the call was refused: then none
abbrev pub unless_refused : Answer → List Move → List Move
unless_refused answer moves = if is_refused answer then [] else moves

-- these moves, if the call was answered `ok`: else none
abbrev pub if_accepted : Answer → List Move → List Move
if_accepted answer moves = if is_accepted answer then moves else []

-- ---- the moves that are due

-- a poll if no collection runs: the flip of the generation that is due, if one is
abbrev pub poll_at_rest : World → Option Due → List Move
poll_at_rest w None = []
poll_at_rest w (Some due) = flip_act w (Generations due.chain due.generation)

-- the moves of a poll
abbrev pub IsPoll : World → List Move → Type 0
IsPoll w moves = MatchBool (is_running w) (AreUnits w units_of_poll moves) (moves ≡ poll_at_rest w (due_in w))

-- the moves of a reserve before it is judged
abbrev pub IsPollWhereDue : World → Call → List Move → Type 0
IsPollWhereDue w call moves = MatchBool (polls w call) (IsPoll w moves) (moves ≡ [])

-- the segment that a reserve takes in the world in which it is judged
abbrev pub segment_where_judged : World → (point : Name) → (head : ℕ) → List Move
segment_where_judged w point head = segment_of_reserve w (check_reserve w point head)

-- a reserve polls if it is due, and then takes a segment if it needs one
pub record AreMovesOfReserve (w : World) (point : Name) (head : ℕ) (moves : List Move) : Type 0 where
  pub poll : IsPollWhereDue w (call.Reserve point head) (moves_of_poll moves)
  pub segment : own_segment moves ≡ segment_where_judged (world_after_moves w (moves_of_poll moves)) point head

-- the segment in which the object of a slot lies
abbrev pub segment_of_found : World → Checked (Found (Option ℕ)) → Option Segment
segment_of_found w (Ok found) = option_and_then (segment_of w) (option_and_then (address_of w) found.value)
segment_of_found w (Err why) = None

-- a read barrier in the segment of the object in a slot, if a collection runs and the call isn't refused
abbrev pub AreMovesOfGet : World → Slot → Answer → List Move → Type 0
AreMovesOfGet w source answer moves =
    MatchBool (is_running w && not (is_refused answer))
    (ForOne (segment_of_found w (slot_in w source)) (λ s. IsBarrier w s moves)) (moves ≡ [])

-- the act of a flip that condemns generations of a chain
abbrev pub flip_act_of_chain : World → Checked (Numbered (List ℕ)) → (generation : ℕ) → List Move
flip_act_of_chain w (Ok chain) generation = flip_act w (Generations chain.number generation)
flip_act_of_chain w (Err why) generation = []

-- units, if the arena is unclamped and a collection runs
abbrev pub AreMovesOfStep : World → (units : ℕ) → List Move → Type 0
AreMovesOfStep w units moves = MatchBool (is_unclamped w && is_running w) (AreUnits w units moves) (moves ≡ [])

-- a running collection goes on to its end
abbrev pub FinishesCollection : World → List Move → Type 0
FinishesCollection w moves = MatchBool (is_running w) (AreUnitsToEnd w moves) (moves ≡ [])

-- a full collection, which is begun and ended: the act of its flip and its later moves, and what it posts and leaves is exact
pub record IsFullCollection (w : World) (moves : List Move) : Type 0 where
  pub later : List Move
  pub whole : moves ≡ flip_act w Everything ++ later
  pub later_ends : FinishesCollection (world_after_moves w (flip_act w Everything)) later
  pub exact : IsWhole w (world_at_flip w Everything) (world_after_moves w moves)

-- a running collection goes on to its end, and then a full one follows
pub record AreMovesOfCollect (w : World) (moves : List Move) : Type 0 where
  pub earlier : List Move
  pub full : List Move
  pub both : moves ≡ earlier ++ full
  pub earlier_ends : FinishesCollection w earlier
  pub is_full : IsFullCollection (world_after_moves w earlier) full

-- what the moves of a call are, with its answer. All other calls make none
abbrev pub AreMovesOf : World → Call → Answer → List Move → Type 0
AreMovesOf w (call.Reserve point head) answer moves = AreMovesOfReserve w point head moves
AreMovesOf w (call.Commit point target) answer moves = moves ≡ if_accepted answer (moves_of_commit w (point_named w point))
AreMovesOf w (call.Alloc pool words place) answer moves = moves ≡ unless_refused answer (moves_of_alloc w (pool_named w pool) words)
AreMovesOf w (call.Free place) answer moves = moves ≡ unless_refused answer (moves_of_free w (block_place_in w place))
AreMovesOf w (call.CacheAlloc cache words place) answer moves =
    moves ≡ unless_refused answer (moves_of_cache_alloc w (cache_named w cache) words)
AreMovesOf w (call.CacheFree cache place) answer moves =
    moves ≡ unless_refused answer (moves_of_cache_free w (cache_named w cache) (block_place_in w place))
AreMovesOf w (call.CacheFlush cache) answer moves = moves ≡ unless_refused answer (moves_of_cache_flush w (cache_named w cache))
AreMovesOf w (call.Pop pool frame) answer moves = moves ≡ unless_refused answer (moves_of_pop w (frames_named w pool) frame)
AreMovesOf w (call.Get target source cell) answer moves = AreMovesOfGet w source answer moves
AreMovesOf w call.Start answer moves = moves ≡ unless_refused answer (flip_act w Everything)
AreMovesOf w (call.StartChain chain oldest) answer moves = moves ≡ unless_refused answer (flip_act_of_chain w (chain_named w chain) oldest)
AreMovesOf w (call.Step units) answer moves = AreMovesOfStep w units moves
AreMovesOf w call.Collect answer moves = AreMovesOfCollect w moves
AreMovesOf w call.Park answer moves = FinishesCollection w moves
AreMovesOf w _ answer moves = moves ≡ []

-- of the moves of a call those that the collector makes: all but the client's
abbrev pub moves_of_collector : Call → List Move → List Move
moves_of_collector (call.Reserve point head) moves = moves_of_poll moves
moves_of_collector (call.Commit point target) moves = []
moves_of_collector (call.Alloc pool words place) moves = []
moves_of_collector (call.Free place) moves = []
moves_of_collector (call.CacheAlloc cache words place) moves = []
moves_of_collector (call.CacheFree cache place) moves = []
moves_of_collector (call.CacheFlush cache) moves = []
moves_of_collector (call.Pop pool frame) moves = []
moves_of_collector _ moves = moves

-- ---- what holds after a call

-- what the client holds is live, and so are the blocks in its tables of blocks and in caches. If no collection runs, so is what a live
-- object refers to, and so are the objects in pairs of transforms. If one runs there are no such pairs
pub record HeldAreLive (w : World) : Type 0 where
  pub client : IsTrue (list_all (is_live w) (ids_of_client w.graph))
  pub blocks : IsTrue (list_all (is_live w) (ids_in_blocks w.graph))
  pub referred : IsTrue (is_running w || list_all (is_live w) (flat_map (targets w.graph) (live_ids w)))
  pub transforms : IsTrue (is_running w || list_all (is_live w) (ids_in_pairs w.state))

-- what the client holds of condemned copying pools was pinned, moved, or made to stay
abbrev pub is_held_rightly : World → Collection → (id : Id) → Bool
is_held_rightly w c id = not (is_condemned c id && is_copying_object w id) || is_kept_in_place c id

abbrev pub are_held_kept : World → Bool
are_held_kept w = option_map_or (λ c. list_all (is_held_rightly w c) (ids_of_client w.graph)) w.collection true

-- a collection still runs only if fewer units were asked of it than it may take
abbrev pub has_units_left : World → Bool
has_units_left w = option_map_or (λ c. nat_lt c.spent c.units) w.collection true

-- a block whose fate isn't decided may survive, if `poke` says that it is marked
abbrev pub OfPoked : World → (id : Id) → Poked → Type 0
OfPoked w id AsMarked = ForOne w.collection (λ c. MaySurvive c id)
OfPoked w id AsBlock = Unit {0}
OfPoked w id AsNumber = Unit {0}

abbrev pub OfPokedBlock : World → Option ℕ → Type 0
OfPokedBlock w None = Unit {0}
OfPokedBlock w (Some id) = OfPoked w id (poked w id)

abbrev pub IsPossiblyMarked : World → Call → Answer → Type 0
IsPossiblyMarked w (call.Poke word value) answer =
    MatchBool (is_block answer) (OfPokedBlock w (block_of_word w value)) (Unit {0})
IsPossiblyMarked w _ answer = Unit {0}

-- ---- legal steps and histories

-- a step that is legal in a world
pub record IsLegalStep (w : World) (s : Step) : Type 0 where
  pub moves_are_legal : AreLegalMoves w None (moves_of_collector s.call s.moves)
  pub moves_are_due : AreMovesOf w s.call s.answer s.moves
  pub answer_is_due :
      s.answer ≡ reply_to (is_block s.answer) (judged_world w s.call s.moves) (moved_world w s.call s.moves) s.call
  pub marked_may_survive : IsPossiblyMarked w s.call s.answer
  pub held_are_live : HeldAreLive (world_after w s)
  pub held_are_kept : IsTrue (are_held_kept (world_after w s))
  pub units_are_left : IsTrue (has_units_left (world_after w s))

-- whether steps are legal, one after the other, from a world on
abbrev pub IsLegalFrom : World → History → Type 0
IsLegalFrom w [] = Unit {0}
IsLegalFrom w (s ∷ ss) = IsLegalStep w s × IsLegalFrom (world_after w s) ss

-- the world after steps
abbrev pub world_after_steps : World → History → World
world_after_steps w [] = w
world_after_steps w (s ∷ ss) = world_after_steps (world_after w s) ss

-- a history is legal if its steps are, from the empty world on, whose numbers of formats mean these formats
abbrev pub IsLegalHistoryOf : (formats : ℕ → Layout) → History → Type 0
IsLegalHistoryOf formats history = IsLegalFrom (empty_world_of formats) history

-- the same if the formats are the three numbered ones
abbrev pub IsLegalHistory : History → Type 0
IsLegalHistory history = IsLegalHistoryOf numbered_layout history

-- the world after a history
abbrev pub world_after_history : History → World
world_after_history history = world_after_steps empty_world history

-- ---- live blocks, as the replay of a log gives them

abbrev pub block_of : World → (id : Id) → Block
block_of w id = record {
  at = address_or_null w id;
  words = words_of w id;
  pool = pool_of w id;
}

abbrev pub blocks_of_ids : World → List ℕ → Store
blocks_of_ids w [] = []
blocks_of_ids w (id ∷ ids) = with_block (block_of w id) (blocks_of_ids w ids)

-- the live blocks of a world, in ascending order of their addresses
abbrev pub live_blocks : World → Store
live_blocks w = blocks_of_ids w (live_ids w)
