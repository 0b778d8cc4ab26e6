-- Each legal step leaves a sound graph, so each world that a legal history reaches has one.
use Rattle.std.proofs.Common.{◌≡◌, ◌∙◌, ℕ, Bool, true, false, refl, sym, List, [], ◌∷◌, ◌++◌, Option, Some, None, Ok, Err, subst, inl, inr}
use Rattle.std.proofs.lemmas.Bool.{false≢true, and_parts, cases_Bool}
use Rattle.std.specs.Prelude.{slice_get, not, ◌&&◌, if◌then◌else◌}
use Rattle.std.specs.Option.{option_map_or}
use Rattle.std.specs.List.{list_all}
use Rattle.mps_base.specs.Address.{Address}
use Rattle.mps_base.specs.Placement.{Placement, Place, NewSegment, OverLimit, NoFreeRun}
use Rattle.mps_base.specs.Segment.{Segment, words_of_segment}
use Rattle.mps_base.specs.declared.moves.Move.{Move}
use Rattle.mps_base.specs.declared.moves.Move.TheVariants as moves
use Rattle.mps_base.specs.declared.names.Name.{Name}
use Rattle.mps_base.specs.declared.names.Slot.{Slot}
use Rattle.mps_model.specs.declared.call.Call.{Call}
use Rattle.mps_model.specs.declared.call.Call.TheVariants as call
use Rattle.mps_model.specs.Answer.{Answer, is_accepted, is_refused, is_block}
use Rattle.mps_model.specs.Graph.{Object, Reservation, contains, entry_at, is_automatic, object_at, ids_in_slots, ids_in_holds, ids_in_reservations, Cache, CacheClass, PoolFrames, ids_in_frames, ids_of_cache}
use Rattle.mps_model.specs.World.{World, Pool, id_at, ids_in_pairs, is_live, segment_of, is_copying_pool, is_empty_segment, is_any_size_kind, pool_is}
use Rattle.mps_model.specs.Checked.{Checked, Found, Numbered, pool_named, point_named, block_place_in, number_named, as_point, cache_named}
use Rattle.mps_model.specs.Accessing.{address_or_null}
use Rattle.mps_model.specs.Caches.{flushed, kept_by, taken_from}
use Rattle.mps_model.specs.Frames.{blocks_popped, frame_in, frames_named}
use Rattle.mps_model.proofs.Cutting.{world_after_moves-append}
use Rattle.mps_changes.proofs.Checks.{cache_named-is, frames_named-is}
use Rattle.mps_changes.proofs.Frames.{found_blocks_pass, popped_pass}
use Rattle.mps_changes.proofs.OneMore.{flushed_pass}
use Rattle.mps_model.specs.Placement.{ForAlloc, placement_of}
use Rattle.mps_model.specs.Effect.{world_after_moves, after_free, where_one, holding, segment_of_move}
use Rattle.mps_model.specs.Reply.{act, world_from}
use Rattle.mps_model.specs.Step.{Step}
use Rattle.mps_model.specs.Flip.{at_address}
use Rattle.mps_model.specs.Policy.{units_asked}
use Rattle.mps_model.specs.History.{IsLegalStep, HeldAreLive, asking, judged_world, moved_world, after_own_segment, with_buffer, rank_of_point, own_segment, moves_of_poll, with_client_remembered, world_after, alloc_at, moves_of_alloc, moves_of_commit, commit_of, if_accepted, unless_refused, moves_of_free, free_of, free_of_object, give_back_empty, moves_if_not_kept, moves_if_not_taken, moves_of_cache_alloc, moves_of_cache_flush, moves_of_cache_free, moves_of_frame, moves_of_frees, moves_of_pop}
use Rattle.mps_laws.proofs.Finding.{id_at-found}
use Rattle.mps_laws.proofs.Positions.LegalMoves.{HasLayout}
use Rattle.mps_laws.proofs.Acts.{for_world}
use Rattle.mps_laws.proofs.Replays.Steps.{is_reserve}
use Rattle.mps_laws.proofs.Replays.FreeSteps.{block_is_live, object_replayed}
use Rattle.mps_laws.proofs.Sound.SoundGraph.{All, IsSoundGraph, PassesOrNull, auto, manual, all-parts, all-weaker, manual_parts, all-at, all-contains, entry-passes}
use Rattle.mps_laws.proofs.FoundBy.{found_by}
use Rattle.mps_laws.proofs.Sound.SoundSteps.{act_sound, is_finalize, is_substituting}
use Rattle.mps_laws.proofs.Sound.SoundReserves.{reserve_sound}
use Rattle.mps_laws.proofs.Sound.SoundMoves.{IsMovedWell, grows_on, quiet, moves_well, segment_well, freed_well, unseg_well}

-- ---- the units that are asked, and what is remembered

asked_well : (units : Option ℕ) (w : World) → IsSoundGraph w → IsMovedWell w (asking units w)
asked_well None w s = quiet w w s refl refl refl refl
asked_well (Some units) w s = quiet w (asking (Some units) w) s refl refl refl refl

asked_graph : (units : Option ℕ) (w : World) → (asking units w).graph ≡ w.graph
asked_graph None w = refl
asked_graph (Some units) w = refl

then_well : (u v w : World) → IsMovedWell u v → IsMovedWell v w → IsMovedWell u w
then_well u v w a b = record { sound = b.sound; grown = grows_on u v w a.grown b.grown }

same_well : (w : World) → IsSoundGraph w → IsMovedWell w w
same_well w s = quiet w w s refl refl refl refl

own_well : (w : World) (ms : List Move) (number : Option ℕ) → IsSoundGraph w
    → IsMovedWell w (after_own_segment w ms number) × ((after_own_segment w ms number).graph ≡ w.graph)
own_well w (moves.Seg base grains pool generation ∷ ms) (Some point) s = of_kind (is_copying_pool w pool)
  where
    of_kind : (b : Bool)
        → IsMovedWell w (if b then record (holding w (record (segment_of_move base.0 grains pool generation) {
          rank =
              rank_of_point w point;
        })) {
          point_memories = with_buffer w.point_memories point (words_of_segment (segment_of_move base.0 grains pool generation));
        } else holding w (record (segment_of_move base.0 grains pool generation) { rank = rank_of_point w point }))
        × ((if b then record (holding w (record (segment_of_move base.0 grains pool generation) { rank = rank_of_point w point })) {
          point_memories = with_buffer w.point_memories point (words_of_segment (segment_of_move base.0 grains pool generation));
        } else holding w (record (segment_of_move base.0 grains pool generation) { rank = rank_of_point w point })).graph ≡ w.graph)
    of_kind true = (
      quiet w (record (holding w (record (segment_of_move base.0 grains pool generation) { rank = rank_of_point w point })) {
        point_memories = with_buffer w.point_memories point (words_of_segment (segment_of_move base.0 grains pool generation));
      }) s refl refl refl refl,
      refl,
    )
    of_kind false = (
      quiet w (holding w (record (segment_of_move base.0 grains pool generation) {
        rank =
            rank_of_point w point;
      })) s refl refl refl refl,
      refl,
    )
own_well w _ _ s = (quiet w w s refl refl refl refl, refl)

-- ---- the client's moves

commit_well : (w : World) (x : Checked (Numbered Rattle.mps_model.specs.Graph.Point)) (answer : Answer) → IsSoundGraph w
    → IsMovedWell w (world_after_moves w (if_accepted answer (moves_of_commit w x)))
commit_well w x answer s =
    elim (is_accepted answer) as (λ b. IsMovedWell w (world_after_moves w (if b then moves_of_commit w x else []))) [
      | true ↦ of_point x
      | false ↦ same_well w s
    ]
  where
    of_reservation : (p : Numbered Rattle.mps_model.specs.Graph.Point) (o : Option Reservation)
        → IsMovedWell w (world_after_moves w (commit_of w p o))
    of_reservation p None = same_well w s
    of_reservation p (Some r) = same_well w s

    of_point : (y : Checked (Numbered Rattle.mps_model.specs.Graph.Point)) → IsMovedWell w (world_after_moves w (moves_of_commit w y))
    of_point (Err why) = same_well w s
    of_point (Ok p) = of_reservation p p.value.reservation

-- these moves, unless the call was refused
unless_well : (w : World) (answer : Answer) (ms : List Move) → IsSoundGraph w → IsMovedWell w (world_after_moves w ms)
    → IsMovedWell w (world_after_moves w (unless_refused answer ms))
unless_well w answer ms s well =
    elim (is_refused answer) as (λ b. IsMovedWell w (world_after_moves w (if b then [] else ms))) [
      | true ↦ same_well w s
      | false ↦ well
    ]

placed_well : (w : World) (pool words : ℕ) (q : Placement) → IsSoundGraph w → IsMovedWell w (world_after_moves w (alloc_at pool words q))
placed_well w pool words (Place word) s = same_well w s
placed_well w pool words (NewSegment grain grains) s =
    segment_well w (segment_of_move (Rattle.mps_base.specs.Address.address_of_grain grain) grains pool 0) s
placed_well w pool words (OverLimit committed need limit) s = same_well w s
placed_well w pool words (NoFreeRun need longest) s = same_well w s

alloc_well : (w : World) (x : Checked (Numbered Pool)) (words : ℕ) (answer : Answer) → IsSoundGraph w
    → IsMovedWell w (world_after_moves w (unless_refused answer (moves_of_alloc w x words)))
alloc_well w x words answer s = unless_well w answer (moves_of_alloc w x words) s (of_pool x)
  where
    of_pool : (y : Checked (Numbered Pool)) → IsMovedWell w (world_after_moves w (moves_of_alloc w y words))
    of_pool (Err why) = same_well w s
    of_pool (Ok p) = placed_well w p.number words (placement_of w (ForAlloc p.number words)) s

cache_alloc_well : (w : World) (x : Checked (Numbered Cache)) (words : ℕ) (answer : Answer) → IsSoundGraph w
    → IsMovedWell w (world_after_moves w (unless_refused answer (moves_of_cache_alloc w x words)))
cache_alloc_well w x words answer s = unless_well w answer (moves_of_cache_alloc w x words) s (of_cache x)
  where
    if_taken : (pool : ℕ) (o : Option (ℕ × List CacheClass)) → IsMovedWell w (world_after_moves w (moves_if_not_taken w pool words o))
    if_taken pool None = placed_well w pool words (placement_of w (ForAlloc pool words)) s
    if_taken pool (Some taken) = same_well w s

    of_cache : (y : Checked (Numbered Cache)) → IsMovedWell w (world_after_moves w (moves_of_cache_alloc w y words))
    of_cache (Err why) = same_well w s
    of_cache (Ok q) = if_taken q.value.pool (taken_from q.value.classes words)

given_back_well : (v : World) (o : Option Segment) → IsSoundGraph v → IsMovedWell v (world_after_moves v (give_back_empty v o))
given_back_well v None s = same_well v s
given_back_well v (Some t) s =
    elim (pool_is is_any_size_kind v t.pool && is_empty_segment v t) as
    (λ b. IsMovedWell v (world_after_moves v (if b then moves.Unseg (at_address t.base) ∷ [] else []))) [
      | true ↦ unseg_well v t.base s
      | false ↦ same_well v s
    ]

-- a manual object isn't registered
not_registered : (w : World) (id : ℕ) → IsSoundGraph w → manual w id ≡ true → contains w.graph.registered id ≡ false
not_registered w id s h =
    elim (cases_Bool (contains w.graph.registered id)) [
      | inl is ↦
          absurd (never (object_at w.graph id)
          (and_parts (is_live w id) (auto w id) (all-contains
          (Rattle.mps_model.specs.WellFormed.is_live_automatic w) w.graph.registered id s.registered is)).1 h)
      | inr isnt ↦ isnt
    ]
  where
    of_bool : (b : Bool) → b ≡ true → not b ≡ true → ⊥
    of_bool true e f = false≢true f
    of_bool false e f = false≢true e

    never : (o : Option Object) → option_map_or is_automatic o false ≡ true → option_map_or (λ x. not (is_automatic x)) o false ≡ true → ⊥
    never None e f = false≢true e
    never (Some o) e f = of_bool (is_automatic o) e f

freed_one : (w : World) (at : Address) (o : Option ℕ) → ((id : ℕ) → o ≡ Some id → manual w id ≡ true) → IsSoundGraph w
    → IsMovedWell w (where_one w o (λ id. after_free w id at))
freed_one w at None each s = same_well w s
freed_one w at (Some id) each s = freed_well w id at s (not_registered w id s (each id refl))

-- a manual object is freed, if it is live
object_well : (limit : ℕ) (w : World) → HasLayout limit w → IsSoundGraph w → (id : ℕ) → manual w id ≡ true
    → IsMovedWell w (world_after_moves w (free_of_object w id))
object_well limit w laid s id kind = of_address (entry_at w.addresses id) refl
  where
    of_address : (o : Option ℕ) → entry_at w.addresses id ≡ o → IsMovedWell w (world_after_moves w (option_map_or (free_of w) o []))
    of_address None e = same_well w s
    of_address (Some at) e =
        let first = freed_one w at (id_at w at) (λ j h.
        subst (λ (k : ℕ). manual w k ≡ true)
        (Rattle.mps_laws.proofs.Positions.LegalMoves.different limit
        (Rattle.mps_laws.proofs.Positions.Occupancy.occupancy_of w) laid id j at e (id_at-found w at j h)) kind) s in
        let v = where_one w (id_at w at) (λ n. after_free w n at) in
        then_well w v (world_after_moves v (give_back_empty v (segment_of w at))) first (given_back_well v (segment_of w at) first.sound)

-- so are several, one after the other
frees_well : (limit : ℕ) (w : World) → HasLayout limit w → IsSoundGraph w → (ids : List ℕ) → All (manual w) ids
    → IsMovedWell w (world_after_moves w (moves_of_frees w ids))
frees_well limit w laid s [] all = same_well w s
frees_well limit w laid s (id ∷ ids) all =
    let parts = and_parts (manual w id) (list_all (manual w) ids) all in
    let first = object_well limit w laid s id parts.0 in
    let v = world_after_moves w (free_of_object w id) in
    let later = all-weaker (manual w) (manual v) (Rattle.mps_laws.proofs.Sound.SoundGraph.manual_kept w v first.grown) ids parts.1 in
    subst (IsMovedWell w) (sym (world_after_moves-append w (free_of_object w id) (moves_of_frees v ids)))
    (then_well w v (world_after_moves v (moves_of_frees v ids)) first
    (frees_well limit v (object_replayed limit 0 w laid id).layout first.sound ids later))

-- the block in a place is manual
placed_is_manual : (w : World) (place : Slot) (found : Found (Option ℕ)) (id : ℕ) → IsSoundGraph w → block_place_in w place ≡ Ok found
    → found.value ≡ Some id → manual w id ≡ true
placed_is_manual w place found id s e f =
    let g = found_by (number_named w place.name Rattle.mps_model.specs.Checked.as_blocks)
    (λ n. slice_get w.graph.blocks n) place.index found e in
    subst (PassesOrNull (manual w)) f (entry-passes (manual w) found.list found.index found.value
    (all-at (manual w) Rattle.mps_model.specs.Graph.entries w.graph.blocks found.number found.list (manual_parts w s).0 g.0) g.1)

free_well : (limit : ℕ) (w : World) (place : Slot) (answer : Answer) → HasLayout limit w
    → Rattle.mps_laws.proofs.Replays.FreeSteps.BlocksAreLive w → IsSoundGraph w
    → IsMovedWell w (world_after_moves w (unless_refused answer (moves_of_free w (block_place_in w place))))
free_well limit w place answer laid live s =
    unless_well w answer (moves_of_free w (block_place_in w place)) s (of_place (block_place_in w place) refl)
  where
    of_live : (id : ℕ) → is_live w id ≡ true → IsMovedWell w (world_after_moves w (free_of_object w id))
        → IsMovedWell w (world_after_moves w (free_of w (address_or_null w id)))
    of_live id h well = of_address (entry_at w.addresses id) h well
      where
        of_address : (o : Option ℕ) → Rattle.std.specs.Prelude.is_some o ≡ true
            → IsMovedWell w (world_after_moves w (option_map_or (free_of w) o []))
            → IsMovedWell w (world_after_moves w (free_of w (option_map_or (λ at. at) o 0)))
        of_address None k well = absurd (false≢true k)
        of_address (Some at) k well = well

    of_value : (found : Found (Option ℕ)) (o : Option ℕ) → block_place_in w place ≡ Ok found → found.value ≡ o
        → IsMovedWell w (world_after_moves w (option_map_or (λ id. free_of w (address_or_null w id)) o []))
    of_value found None e f = same_well w s
    of_value found (Some id) e f =
        of_live id (block_is_live w place found id live e f)
        (object_well limit w laid s id (placed_is_manual w place found id s e f))

    of_place : (x : Checked (Found (Option ℕ))) → block_place_in w place ≡ x → IsMovedWell w (world_after_moves w (moves_of_free w x))
    of_place (Err why) e = same_well w s
    of_place (Ok found) e = of_value found found.value e refl

cache_free_well : (limit : ℕ) (w : World) (q : Checked (Numbered Cache)) (place : Slot) (answer : Answer) → HasLayout limit w
    → IsSoundGraph w → IsMovedWell w (world_after_moves w (unless_refused answer (moves_of_cache_free w q (block_place_in w place))))
cache_free_well limit w q place answer laid s =
    unless_well w answer (moves_of_cache_free w q (block_place_in w place)) s (of_both q (block_place_in w place) refl)
  where
    of_kept : (id : ℕ) → manual w id ≡ true → (o : Option (List CacheClass))
        → IsMovedWell w (world_after_moves w (moves_if_not_kept w id o))
    of_kept id kind None = object_well limit w laid s id kind
    of_kept id kind (Some classes) = same_well w s

    of_value : (q : Numbered Cache) (found : Found (Option ℕ)) (o : Option ℕ) → block_place_in w place ≡ Ok found → found.value ≡ o
        → IsMovedWell w (world_after_moves w (option_map_or (λ id. moves_if_not_kept w id (kept_by w q.value id)) o []))
    of_value q found None e f = same_well w s
    of_value q found (Some id) e f = of_kept id (placed_is_manual w place found id s e f) (kept_by w q.value id)

    of_both : (q : Checked (Numbered Cache)) (x : Checked (Found (Option ℕ))) → block_place_in w place ≡ x
        → IsMovedWell w (world_after_moves w (moves_of_cache_free w q x))
    of_both (Ok q) (Ok found) e = of_value q found found.value e refl
    of_both (Ok q) (Err why) e = same_well w s
    of_both (Err why) x e = same_well w s

cache_flush_well : (limit : ℕ) (w : World) (name : Name) (answer : Answer) → HasLayout limit w
    → IsSoundGraph w → IsMovedWell w (world_after_moves w (unless_refused answer (moves_of_cache_flush w (cache_named w name))))
cache_flush_well limit w name answer laid s =
    unless_well w answer (moves_of_cache_flush w (cache_named w name)) s (of_cache (cache_named w name) refl)
  where
    of_cache : (x : Checked (Numbered Cache)) → cache_named w name ≡ x → IsMovedWell w (world_after_moves w (moves_of_cache_flush w x))
    of_cache (Err why) e = same_well w s
    of_cache (Ok q) e =
        frees_well limit w laid s (flushed q.value)
        (flushed_pass (manual w) q.value.classes
        (all-at (manual w) ids_of_cache w.graph.caches q.number q.value (manual_parts w s).1 (cache_named-is w name q e)))

pop_well : (limit : ℕ) (w : World) (pool : Name) (frame : ℕ) (answer : Answer) → HasLayout limit w → IsSoundGraph w
    → All (manual w) (ids_in_frames w.graph)
    → IsMovedWell w (world_after_moves w (unless_refused answer (moves_of_pop w (frames_named w pool) frame)))
pop_well limit w pool frame answer laid s framed =
    unless_well w answer (moves_of_pop w (frames_named w pool) frame) s (of_pool (frames_named w pool) refl)
  where
    of_frame : (f : PoolFrames) → All (manual w) f.blocks → (y : Checked ℕ) → IsMovedWell w (world_after_moves w (moves_of_frame w f y))
    of_frame f kind (Ok before) = frees_well limit w laid s (blocks_popped f before) (popped_pass (manual w) f before kind)
    of_frame f kind (Err why) = same_well w s

    of_pool : (x : Checked PoolFrames) → frames_named w pool ≡ x → IsMovedWell w (world_after_moves w (moves_of_pop w x frame))
    of_pool (Err why) e = same_well w s
    of_pool (Ok f) e =
        of_frame f (found_blocks_pass (manual w) w.graph.frames f.pool f (frames_named-is w pool f e) framed) (frame_in f frame)

-- ---- steps

abbrev pub SlotsAreLive : World → Type 0
SlotsAreLive w = All (is_live w) (ids_in_slots w.graph)

pub slots_held : (w : World) → HeldAreLive w → SlotsAreLive w
slots_held w h =
    let a = all-parts (is_live w) ((ids_in_slots w.graph ++ ids_in_holds w.graph) ++ w.graph.messages)
    (ids_in_reservations w.graph) h.client in
    let b = all-parts (is_live w) (ids_in_slots w.graph ++ ids_in_holds w.graph) w.graph.messages a.0 in
    (all-parts (is_live w) (ids_in_slots w.graph) (ids_in_holds w.graph) b.0).0

module _ (limit line : ℕ) (w : World) (laid : Rattle.mps_laws.proofs.Positions.LegalMoves.HasLayout limit w)
    (live : Rattle.mps_laws.proofs.Replays.FreeSteps.BlocksAreLive w) (slots : SlotsAreLive w) (s : IsSoundGraph w)
    (pairs : All (auto w) (ids_in_pairs w.state)) (framed : All (manual w) (ids_in_frames w.graph)) where
  abbrev the_step : Call → List Move → Answer → Step
  the_step c ms answer = record { line = line; call = c; moves = ms; answer = answer }

  -- from the world in which the call takes effect
  finished : (c : Call) (ms : List Move) (answer : Answer)
      → IsSoundGraph (world_from (moved_world w c ms) (act (is_block answer) (judged_world w c ms) (moved_world w c ms) c))
      → IsSoundGraph (world_after w (the_step c ms answer))
  finished c ms answer sound =
      let x = world_from (moved_world w c ms) (act (is_block answer) (judged_world w c ms) (moved_world w c ms) c) in
      (quiet x (with_client_remembered x) sound refl refl refl refl).sound

  acted : (marked : Bool) (v : World) (c : Call) → IsMovedWell w v → (is_finalize c ≡ true → All (is_live v) (ids_in_slots v.graph))
      → (is_substituting c ≡ true → All (auto v) (ids_in_pairs v.state)) → is_reserve c ≡ false
      → IsSoundGraph (world_from v (act marked w v c))
  acted marked v c m finalize substitute plain = for_world IsSoundGraph v (act marked w v c)
      (act_sound marked w v s m.grown m.sound c finalize substitute plain) m.sound

  reserved : (name : Rattle.mps_base.specs.declared.names.Name.Name) (head : ℕ) (ms : List Move) (answer : Answer)
      → IsLegalStep w (the_step (call.Reserve name head) ms answer)
      → IsSoundGraph (world_after w (the_step (call.Reserve name head) ms answer))
  reserved name head ms answer legal =
      let judged = world_after_moves w (moves_of_poll ms) in
      let poll = moves_well w None (moves_of_poll ms) s legal.moves_are_legal in
      let number = number_named w name as_point in
      let own = own_well judged (own_segment ms) number poll.sound in
      let u = after_own_segment judged (own_segment ms) number in
      let units = units_asked w (call.Reserve name head) in
      let v = asking units u in
      let m = then_well judged u v own.0 (asked_well units u own.0.sound) in
      finished (call.Reserve name head) ms answer
      (for_world IsSoundGraph v (Rattle.mps_model.specs.Allocating.act_reserve judged v name head)
      (reserve_sound judged name head v m.grown m.sound (asked_graph units u ∙ own.1)) m.sound)

  of_call : (c : Call) (ms : List Move) (answer : Answer) → IsLegalStep w (the_step c ms answer)
      → IsSoundGraph (world_after w (the_step c ms answer))
  of_call (call.Reserve name head) ms answer legal = reserved name head ms answer legal
  of_call (call.Commit point target) ms answer legal =
      finished (call.Commit point target) ms answer
      (acted (is_block answer) (world_after_moves w ms) (call.Commit point target)
      (subst (λ ns. IsMovedWell w (world_after_moves w ns)) (sym legal.moves_are_due) (commit_well w (point_named w point) answer s))
      (λ h. absurd (false≢true h)) (λ h. absurd (false≢true h)) refl)
  of_call (call.Alloc pool words place) ms answer legal =
      finished (call.Alloc pool words place) ms answer
      (acted (is_block answer) (world_after_moves w ms) (call.Alloc pool words place)
      (subst (λ ns. IsMovedWell w (world_after_moves w ns)) (sym legal.moves_are_due) (alloc_well w (pool_named w pool) words answer s))
      (λ h. absurd (false≢true h)) (λ h. absurd (false≢true h)) refl)
  of_call (call.Free place) ms answer legal =
      finished (call.Free place) ms answer
      (acted (is_block answer) (world_after_moves w ms) (call.Free place)
      (subst (λ ns. IsMovedWell w (world_after_moves w ns)) (sym legal.moves_are_due) (free_well limit w place answer laid live s))
      (λ h. absurd (false≢true h)) (λ h. absurd (false≢true h)) refl)
  of_call (call.CacheAlloc cache words place) ms answer legal =
      finished (call.CacheAlloc cache words place) ms answer
      (acted (is_block answer) (world_after_moves w ms) (call.CacheAlloc cache words place)
      (subst (λ ns. IsMovedWell w (world_after_moves w ns)) (sym legal.moves_are_due)
      (cache_alloc_well w (cache_named w cache) words answer s))
      (λ h. absurd (false≢true h)) (λ h. absurd (false≢true h)) refl)
  of_call (call.CacheFree cache place) ms answer legal =
      finished (call.CacheFree cache place) ms answer
      (acted (is_block answer) (world_after_moves w ms) (call.CacheFree cache place)
      (subst (λ ns. IsMovedWell w (world_after_moves w ns)) (sym legal.moves_are_due)
      (cache_free_well limit w (cache_named w cache) place answer laid s))
      (λ h. absurd (false≢true h)) (λ h. absurd (false≢true h)) refl)
  of_call (call.CacheFlush cache) ms answer legal =
      finished (call.CacheFlush cache) ms answer
      (acted (is_block answer) (world_after_moves w ms) (call.CacheFlush cache)
      (subst (λ ns. IsMovedWell w (world_after_moves w ns)) (sym legal.moves_are_due) (cache_flush_well limit w cache answer laid s))
      (λ h. absurd (false≢true h)) (λ h. absurd (false≢true h)) refl)
  of_call (call.Pop pool frame) ms answer legal =
      finished (call.Pop pool frame) ms answer
      (acted (is_block answer) (world_after_moves w ms) (call.Pop pool frame)
      (subst (λ ns. IsMovedWell w (world_after_moves w ns)) (sym legal.moves_are_due) (pop_well limit w pool frame answer laid s framed))
      (λ h. absurd (false≢true h)) (λ h. absurd (false≢true h)) refl)
  of_call (call.Finalize slot) ms answer legal =
      finished (call.Finalize slot) ms answer
      (acted (is_block answer) (world_after_moves w ms) (call.Finalize slot) (moves_well w None ms s legal.moves_are_legal)
      (λ h. subst (λ (ns : List Move). SlotsAreLive (world_after_moves w ns)) (sym legal.moves_are_due) slots)
      (λ h. absurd (false≢true h)) refl)
  of_call (call.TransformApply transform) ms answer legal =
      finished (call.TransformApply transform) ms answer
      (acted (is_block answer) (world_after_moves w ms) (call.TransformApply transform) (moves_well w None ms s legal.moves_are_legal)
      (λ h. absurd (false≢true h)) (λ h.
      subst (λ (ns : List Move). All (auto (world_after_moves w ns)) (ids_in_pairs (world_after_moves w ns).state))
      (sym legal.moves_are_due) pairs) refl)
  of_call (call.Step units) ms answer legal =
      let m = moves_well w None ms s legal.moves_are_legal in
      let u = world_after_moves w ms in
      let asked = units_asked w (call.Step units) in
      finished (call.Step units) ms answer
      (acted (is_block answer) (asking asked u) (call.Step units) (then_well w u (asking asked u) m (asked_well asked u m.sound))
      (λ h. absurd (false≢true h)) (λ h. absurd (false≢true h)) refl)
  of_call c ms answer legal =
      finished c ms answer
      (acted (is_block answer) (world_after_moves w ms) c (moves_well w None ms s legal.moves_are_legal) (λ h. absurd (false≢true h))
      (λ h. absurd (false≢true h)) refl)

  pub step_sound : (c : Call) (ms : List Move) (answer : Answer) → IsLegalStep w (the_step c ms answer)
      → IsSoundGraph (world_after w (the_step c ms answer)) × SlotsAreLive (world_after w (the_step c ms answer))
  step_sound c ms answer legal =
      (of_call c ms answer legal, slots_held (world_after w (the_step c ms answer)) legal.held_are_live)
