-- What places of tables of blocks show after a block is made or freed, through a cache or not.
use Rattle.std.proofs.Common.{◌≡◌, ℕ, suc, ◌<◌, true, refl, sym, ◌∙◌, ap, subst, List, [], ◌∷◌, ◌++◌, length, map, Option, Some, None, Ok, arith}
use Rattle.std.proofs.lemmas.Bool.{eq-eqb, ltb-true, or_right}
use Rattle.std.proofs.lemmas.Option.{none-some, same_Some, slice_get-map}
use Rattle.std.proofs.lemmas.List.{length-map}
use Rattle.std.specs.Prelude.{◌==◌, ◌||◌, is_some, nat_lt, not, option_and_then, option_map, replicate, slice_get, slice_set}
use Rattle.std.specs.Option.{option_map_or}
use Rattle.std.specs.List.{flat_map}
use Rattle.mps_base.specs.Address.{Id}
use Rattle.mps_base.specs.declared.moves.Move.{Move}
use Rattle.mps_base.specs.declared.names.Name.{Name}
use Rattle.mps_base.specs.declared.names.Slot.{Slot}
use Rattle.mps_base.specs.declared.refusal.Refusal.TheVariants as refusal
use Rattle.mps_model.proofs.Appending.{IsLegalFrom-later}
use Rattle.mps_model.proofs.Reaching.{list_all-contains}
use Rattle.mps_model.specs.Layout.{Layout}
use Rattle.mps_model.specs.declared.call.Call.{Call}
use Rattle.mps_model.specs.declared.call.Call.TheVariants as call
use Rattle.mps_model.specs.Answer.{is_accepted, is_block}
use Rattle.mps_model.specs.Allocating.{act_alloc, act_free, allows_size, block_in, refuse_without_place, with_block_place, words_at, world_allocated}
use Rattle.mps_model.specs.Caches.{act_cache_alloc, act_cache_free, act_kept, act_taken, graph_cached, graph_cleared, graph_uncached, kept_by, taken_from}
use Rattle.mps_model.specs.Checked.{Act, Checked, Found, Numbered, as_blocks, block_place_in, cache_named, number_named, pool_named, refuse_when, required, with_graph, words_of_body}
use Rattle.mps_model.specs.Graph.{Cache, CacheClass, Graph, Manual, NamedThing, Object, Slots, contains, empty_graph, entries, ids_in_caches, ids_in_places, object_at}
use Rattle.mps_model.specs.History.{IsLegalHistoryOf, IsLegalStep, judged_world, moved_world, with_client_remembered, world_after, world_after_call}
use Rattle.mps_model.specs.Placement.{ForAlloc, placement_of}
use Rattle.mps_model.specs.Reply.{act, reply_to, world_from}
use Rattle.mps_model.specs.Step.{Step, History}
use Rattle.mps_model.specs.World.{World, empty_world, empty_world_of, has_frames, is_automatic_kind, pool_at, pool_is, pool_of}
use Rattle.mps_changes.proofs.Checks.{cache_named-is}
use Rattle.mps_changes.proofs.OneMore.{parts_pass}
use Rattle.mps_laws.specs.Replay.{reached}
use Rattle.mps_laws.proofs.FoundBy.{found_by}
use Rattle.mps_laws.proofs.LegalHistories.{IsLegalFrom-first}
use Rattle.mps_laws.proofs.Lookups.{map-slice_set, slice_get-at_last, slice_get-last}
use Rattle.mps_laws.proofs.OnePlace.{AreInOnePlace, in_one_place}
use Rattle.mps_laws.proofs.Reading.{bind_ok, contains-append_left, contains-append_right, next_ok}
use Rattle.mps_laws.proofs.SameArena.{moved_alone}
use Rattle.mps_client_laws.specs.Objects.{identity_of, word_at}
use Rattle.mps_client_laws.specs.Places.{AllocShowsZeros, AllocsShowAlike, CacheAllocShowsZeros, CacheFreeShowsNothing, FreeShowsNothing, FreesShowAlike, PlaceNowShows, seen, seen_but, shown_by}
use Rattle.mps_client_laws.proofs.CachedBlocks.{cleared_words, in_no_place, words_beside, words_found, words_taken}
use Rattle.mps_client_laws.proofs.QuietCalls.{accepted_act, done_world}
use Rattle.mps_client_laws.proofs.SoundlyReached.{IsSoundlyReached, soundly_reached}
use Rattle.mps_client_laws.proofs.WritesOfMoves.{moved_world_leaves}

-- ---- rows of places

-- places show the same if each block in them has the same words
row_alike : (f h : ℕ → List ℕ) (row : Slots) → ((id : Id) → contains (entries row) id ≡ true → h id ≡ f id)
    → map (option_map h) row ≡ map (option_map f) row
row_alike f h [] same = refl
row_alike f h (None ∷ os) same = ap (λ rest. None ∷ rest) (row_alike f h os same)
row_alike f h (Some id ∷ os) same =
    ap (λ words. Some words ∷ map (option_map h) os) (same id (ap (λ b. b || contains (entries os) id) (eq-eqb id id refl)))
    ∙ ap (λ rest. Some (f id) ∷ rest)
    (row_alike f h os (λ other there. same other (or_right (id == other) (contains (entries os) other) there)))

abbrev rows_of : (ℕ → List ℕ) → List Slots → List (List (Option (List ℕ)))
rows_of f rows = map (λ row. map (option_map f) row) rows

rows_alike : (f h : ℕ → List ℕ) (rows : List Slots) → ((id : Id) → contains (flat_map entries rows) id ≡ true → h id ≡ f id)
    → rows_of h rows ≡ rows_of f rows
rows_alike f h [] same = refl
rows_alike f h (row ∷ rows) same =
    ap (λ first. first ∷ rows_of h rows)
    (row_alike f h row (λ id there. same id (contains-append_left (entries row) (flat_map entries rows) id there)))
    ∙ ap (λ rest. map (option_map f) row ∷ rest)
    (rows_alike f h rows (λ id there. same id (contains-append_right (entries row) (flat_map entries rows) id there)))

-- a place has another block, and all others have the words that they had
place_written : (f h : ℕ → List ℕ) (rows : List Slots) (at : Found (Option ℕ)) (block : Option ℕ)
    → slice_get rows at.number ≡ Some at.list → ((id : Id) → contains (flat_map entries rows) id ≡ true → h id ≡ f id)
    → rows_of h (slice_set rows at.number (slice_set at.list at.index block))
    ≡ slice_set (rows_of f rows) at.number (slice_set (map (option_map f) at.list) at.index (option_map h block))
place_written f h rows at block there same =
    let alike = rows_alike f h rows same in
    let row : map (option_map h) at.list ≡ map (option_map f) at.list =
    same_Some (map (option_map h) at.list) (map (option_map f) at.list)
    (sym (slice_get-map (λ row. map (option_map h) row) rows at.number ∙ ap (option_map (λ row. map (option_map h) row)) there)
    ∙ ap (λ all. slice_get all at.number) alike
    ∙ (slice_get-map (λ row. map (option_map f) row) rows at.number ∙ ap (option_map (λ row. map (option_map f) row)) there)) in
    map-slice_set (λ row. map (option_map h) row) rows at.number (slice_set at.list at.index block)
    ∙ ap (slice_set (rows_of h rows) at.number) (map-slice_set (option_map h) at.list at.index block)
    ∙ ap (λ all. slice_set all at.number (slice_set (map (option_map h) at.list) at.index (option_map h block))) alike
    ∙ ap (λ first. slice_set (rows_of f rows) at.number (slice_set first at.index (option_map h block))) row

-- ---- what moves leave of it

by_entries : (xs ys : List ℕ) → ((k : ℕ) → slice_get xs k ≡ slice_get ys k) → xs ≡ ys
by_entries [] [] each = refl
by_entries [] (y ∷ ys) each = absurd (none-some y (each 0))
by_entries (x ∷ xs) [] each = absurd (none-some x (sym (each 0)))
by_entries (x ∷ xs) (y ∷ ys) each =
    ap (λ first. first ∷ xs) (same_Some x y (each 0)) ∙ ap (λ rest. y ∷ rest) (by_entries xs ys (λ k. each (suc k)))

-- the words of an object, from each of them
words_alike : (g h : Graph) (id : Id) → ((k : ℕ) → word_at h id k ≡ word_at g id k) → words_at h id ≡ words_at g id
words_alike g h id each =
    by_entries (words_at h id) (words_at g id) (λ k. word_is (object_at h id) k ∙ each k ∙ sym (word_is (object_at g id) k))
  where
    word_is : (o : Option Object) (k : ℕ) → slice_get (words_found o) k
        ≡ option_and_then (λ (x : Object). slice_get (words_of_body x.body) k) o
    word_is None k = refl
    word_is (Some x) k = refl

-- a world of these names and places
abbrev of_places : List NamedThing → List Slots → World
of_places names blocks = record empty_world { graph = record empty_graph { names = names; blocks = blocks } }

module _ (w : World) (c : Call) (ms : List Move) where
  abbrev moved : World
  moved = moved_world w c ms

  same_words : (id : Id) → words_at moved.graph id ≡ words_at w.graph id
  same_words id = words_alike w.graph moved.graph id ((moved_world_leaves w c ms).words id)

  same_places : moved.graph.blocks ≡ w.graph.blocks
  same_places = (moved_world_leaves w c ms).blocks

  same_place : (place : Slot) → block_place_in moved place ≡ block_place_in w place
  same_place place =
      ap (λ names. block_place_in (of_places names moved.graph.blocks) place) (moved_world_leaves w c ms).names
      ∙ ap (λ blocks. block_place_in (of_places w.graph.names blocks) place) same_places

  same_number : length moved.graph.objects ≡ length w.graph.objects
  same_number =
      sym (length-map moved.graph.objects identity_of) ∙ ap length (moved_world_leaves w c ms).identities
      ∙ length-map w.graph.objects identity_of

  -- a world that a call leaves, in which a place has another block, and each other block the words that it had
  left_to_see : (u : World) (at : Found (Option ℕ)) (block : Option ℕ) (place : Slot) → block_place_in w place ≡ Ok at
      → u.graph.blocks ≡ slice_set moved.graph.blocks at.number (slice_set at.list at.index block)
      → ((id : Id) → contains (ids_in_places w.graph) id ≡ true → words_at u.graph id ≡ words_at moved.graph id)
      → PlaceNowShows w u place (shown_by u.graph block)
  left_to_see u at block place found blocks words =
      let there : slice_get w.graph.blocks at.number ≡ Some at.list =
      (found_by (number_named w place.name as_blocks) (λ n. slice_get w.graph.blocks n) place.index at found).0 in
      let row : slice_get (seen w) at.number ≡ Some (map (shown_by w.graph) at.list) =
      slice_get-map (λ places. map (shown_by w.graph) places) w.graph.blocks at.number
      ∙ ap (option_map (λ places. map (shown_by w.graph) places)) there in
      ap (rows_of (words_at u.graph)) (blocks ∙ ap (λ bs. slice_set bs at.number (slice_set at.list at.index block)) same_places)
      ∙ place_written (words_at w.graph) (words_at u.graph) w.graph.blocks at block there (λ id held. words id held ∙ same_words id)
      ∙ ap (λ o. option_map_or (λ first. slice_set (seen w) at.number (slice_set first at.index (shown_by u.graph block))) o (seen w))
      (sym row)
      ∙ ap (λ x. seen_but (seen w) x (shown_by u.graph block)) (sym found)

-- ---- what the acts leave

module _ (w : World) (ms : List Move) where
  -- the block in a place is freed
  free_leaves : (place : Slot) (a : Act) → act_free (moved w (call.Free place) ms) place ≡ Ok a
      → PlaceNowShows w a.world place None
  free_leaves place a e =
      let v = moved w (call.Free place) ms in
      let at = bind_ok (block_place_in v place) _ a e in
      let id = bind_ok (block_in at.0) _ a at.2 in
      let last = next_ok (refuse_when (pool_is has_frames v (pool_of v id.0)) refusal.WrongPool) _ a id.2 in
      let u = with_graph v (with_block_place v.graph at.0 None) in
      ap seen (done_world u a last)
      ∙ left_to_see w (call.Free place) ms u at.0 None place (sym (same_place w (call.Free place) ms place) ∙ at.1) refl (λ id held. refl)

  cache_free_leaves : (cache : Name) (place : Slot) (a : Act) → act_cache_free (moved w (call.CacheFree cache place) ms) cache place ≡ Ok a
      → PlaceNowShows w a.world place None
  cache_free_leaves cache place a e =
      let v = moved w (call.CacheFree cache place) ms in
      let into = bind_ok (cache_named v cache) _ a e in
      let at = bind_ok (block_place_in v place) _ a into.2 in
      let id = bind_ok (block_in at.0) _ a at.2 in
      let last = next_ok (refuse_when (not (pool_of v id.0 == into.0.value.pool)) refusal.WrongPool) _ a id.2 in
      by_room into.0 at.0 (sym (same_place w (call.CacheFree cache place) ms place) ∙ at.1) (kept_by v into.0.value id.0) last
    where
      by_room : (into : Numbered Cache) (at : Found (Option ℕ)) → block_place_in w place ≡ Ok at → (o : Option (List CacheClass))
          → act_kept (moved w (call.CacheFree cache place) ms) into at o ≡ Ok a → PlaceNowShows w a.world place None
      by_room into at found None e =
          let v = moved w (call.CacheFree cache place) ms in
          let u = with_graph v (with_block_place v.graph at None) in
          ap seen (done_world u a e) ∙ left_to_see w (call.CacheFree cache place) ms u at None place found refl (λ id held. refl)
      by_room into at found (Some classes) e =
          let v = moved w (call.CacheFree cache place) ms in
          let u = with_graph v (graph_cached v.graph into classes at) in
          ap seen (done_world u a e) ∙ left_to_see w (call.CacheFree cache place) ms u at None place found refl (λ id held. refl)

  module _ (are : AreInOnePlace w) where
    -- a new block in a place
    new_block_leaves : (c : Call) (pool words : ℕ) (at : Found (Option ℕ)) (place : Slot) → block_place_in w place ≡ Ok at
        → PlaceNowShows w (world_allocated w (moved w c ms) pool words at) place (Some (replicate words 0))
    new_block_leaves c pool words at place found =
        let v = moved w c ms in
        let u = world_allocated w v pool words at in
        let made = length v.graph.objects in
        let new : words_at u.graph made ≡ replicate words 0 =
        ap words_found
        (slice_get-at_last v.graph.objects (record { pool = pool; body = Manual (replicate words 0) })) in
        left_to_see w c ms u at (Some made) place found refl (λ id held.
        ap words_found
        (slice_get-last v.graph.objects (record { pool = pool; body = Manual (replicate words 0) }) id (below c id held)))
        ∙ ap (λ shown. seen_but (seen w) (block_place_in w place) (Some shown)) new
      where
        below : (c : Call) (id : Id) → contains (ids_in_places w.graph) id ≡ true → id < length (moved w c ms).graph.objects
        below c id held =
            let low = ltb-true id (length w.graph.objects)
            (list_all-contains (λ n. nat_lt n (length w.graph.objects)) (ids_in_places w.graph) id
            (parts_pass (λ n. nat_lt n (length w.graph.objects)) (ids_in_places w.graph) (ids_in_caches w.graph) are.below).0 held) in
            let same = same_number w c ms in
            omega (arith, low, same)

    alloc_leaves : (pool : Name) (words : ℕ) (place : Slot) (a : Act)
        → act_alloc w (moved w (call.Alloc pool words place) ms) pool words place ≡ Ok a
        → PlaceNowShows w a.world place (Some (replicate words 0))
    alloc_leaves pool words place a e =
        let from = bind_ok (pool_named w pool) _ a e in
        let first = next_ok (refuse_when (is_automatic_kind from.0.value.kind) refusal.WrongPool) _ a from.2 in
        let at = bind_ok (block_place_in w place) _ a first in
        let sized = next_ok (refuse_when (not (allows_size from.0.value.kind words)) refusal.BadSize) _ a at.2 in
        let empty = next_ok (refuse_when (is_some at.0.value) refusal.NameTaken) _ a sized in
        let last = next_ok (refuse_without_place (placement_of w (ForAlloc from.0.number words))) _ a empty in
        ap seen (done_world (world_allocated w (moved w (call.Alloc pool words place) ms) from.0.number words at.0) a last)
        ∙ new_block_leaves (call.Alloc pool words place) from.0.number words at.0 place at.1

    module _ (k : IsSoundlyReached w) (cache : Name) (words : ℕ) (place : Slot) where
      abbrev c : Call
      c = call.CacheAlloc cache words place

      abbrev v : World
      v = moved w c ms

      cache_alloc_leaves : (a : Act) → act_cache_alloc w v cache words place ≡ Ok a
          → PlaceNowShows w a.world place (Some (replicate words 0))
      cache_alloc_leaves a e =
          let from = bind_ok (cache_named v cache) _ a e in
          let pool = bind_ok (required (pool_at w from.0.value.pool) refusal.BadName) _ a from.2 in
          let at = bind_ok (block_place_in v place) _ a pool.2 in
          let sized = next_ok (refuse_when (not (allows_size pool.0.kind words)) refusal.BadSize) _ a at.2 in
          let empty = next_ok (refuse_when (is_some at.0.value) refusal.NameTaken) _ a sized in
          by_class from.0 (ap (λ qs. slice_get qs from.0.number) (sym (moved_alone w c ms).caches) ∙ cache_named-is v cache from.0 from.1)
          at.0 (sym (same_place w c ms place) ∙ at.1) (taken_from from.0.value.classes words) refl empty
        where
          by_class : (q : Numbered Cache) → slice_get w.graph.caches q.number ≡ Some q.value → (at : Found (Option ℕ))
              → block_place_in w place ≡ Ok at → (o : Option (Id × List CacheClass)) → taken_from q.value.classes words ≡ o
              → act_taken w v q words at o ≡ Ok a → PlaceNowShows w a.world place (Some (replicate words 0))
          by_class q has at found None is e =
              let last = next_ok (refuse_without_place (placement_of w (ForAlloc q.value.pool words))) _ a e in
              ap seen (done_world (world_allocated w v q.value.pool words at) a last)
              ∙ new_block_leaves c q.value.pool words at place found
          by_class q has at found (Some taken) is e =
              let id = taken.0 in
              let cleared : words_at (graph_cleared v.graph id) id ≡ replicate words 0 =
              cleared_words v.graph id ∙ ap (λ n. replicate n 0)
              (ap length (same_words w c ms id) ∙ words_taken w k.cached k.sound are q has words id taken.1 is) in
              let u = with_graph v (graph_uncached v.graph q taken.1 at id) in
              ap seen (done_world u a e)
              ∙ left_to_see w c ms u at (Some id) place found refl (λ other held.
              words_beside v.graph id other (in_no_place w k.cached k.sound are q has words id taken.1 is other held))
              ∙ ap (λ shown. seen_but (seen w) (block_place_in w place) (Some shown)) cleared

-- ---- accepted steps

-- a world of this graph
abbrev of_graph : Graph → World
of_graph g = record empty_world { graph = g }

module _ (w : World) (s : Step) (c : Call) (legal : IsLegalStep w s) (is : s.call ≡ c) (accepts : is_accepted s.answer ≡ true) where
  abbrev the_act : Checked Act
  the_act = act (is_block s.answer) (judged_world w c s.moves) (moved w c s.moves) c

  its_act : (a : Act) × (the_act ≡ Ok a)
  its_act =
      accepted_act the_act s.answer
      (subst (λ d. s.answer ≡ reply_to (is_block s.answer) (judged_world w d s.moves) (moved_world w d s.moves) d) is legal.answer_is_due)
      accepts

  seen_after : seen (world_after w s) ≡ seen (its_act.0).world
  seen_after =
      ap (λ g. seen (of_graph g)) (ap (λ (u : World). u.graph) (ap (λ d. world_after_call w d s.moves s.answer) is
      ∙ ap (λ x. with_client_remembered (world_from (moved w c s.moves) x)) its_act.1))

module _ (formats : ℕ → Layout) (steps later : History) (s : Step) (legal : IsLegalHistoryOf formats (steps ++ s ∷ later)) where
  before : IsLegalHistoryOf formats steps
  before = IsLegalFrom-first (empty_world_of formats) steps (s ∷ later) legal

  here : IsLegalStep (reached formats steps) s
  here = (IsLegalFrom-later (empty_world_of formats) steps (s ∷ later) legal).0

-- ---- the laws

pub alloc_shows_zeros : AllocShowsZeros
alloc_shows_zeros formats steps later s pool words place legal is accepts =
    let w = reached formats steps in
    let a = its_act w s (call.Alloc pool words place) (here formats steps later s legal) is accepts in
    seen_after w s (call.Alloc pool words place) (here formats steps later s legal) is accepts
    ∙ alloc_leaves w s.moves (in_one_place formats steps (before formats steps later s legal)) pool words place a.0 a.1

pub cache_alloc_shows_zeros : CacheAllocShowsZeros
cache_alloc_shows_zeros formats steps later s cache words place legal is accepts =
    let w = reached formats steps in
    let first = before formats steps later s legal in
    let a = its_act w s (call.CacheAlloc cache words place) (here formats steps later s legal) is accepts in
    seen_after w s (call.CacheAlloc cache words place) (here formats steps later s legal) is accepts
    ∙ cache_alloc_leaves w s.moves (in_one_place formats steps first) (soundly_reached formats steps first) cache words place a.0 a.1

pub free_shows_nothing : FreeShowsNothing
free_shows_nothing formats steps later s place legal is accepts =
    let w = reached formats steps in
    let a = its_act w s (call.Free place) (here formats steps later s legal) is accepts in
    seen_after w s (call.Free place) (here formats steps later s legal) is accepts ∙ free_leaves w s.moves place a.0 a.1

pub cache_free_shows_nothing : CacheFreeShowsNothing
cache_free_shows_nothing formats steps later s cache place legal is accepts =
    let w = reached formats steps in
    let a = its_act w s (call.CacheFree cache place) (here formats steps later s legal) is accepts in
    seen_after w s (call.CacheFree cache place) (here formats steps later s legal) is accepts
    ∙ cache_free_leaves w s.moves cache place a.0 a.1

pub allocs_show_alike : AllocsShowAlike
allocs_show_alike formats steps later those s t cache pool words place legal is accepts legal' is' accepts' =
    cache_alloc_shows_zeros formats steps later s cache words place legal is accepts
    ∙ sym (alloc_shows_zeros formats steps those t pool words place legal' is' accepts')

pub frees_show_alike : FreesShowAlike
frees_show_alike formats steps later those s t cache place legal is accepts legal' is' accepts' =
    cache_free_shows_nothing formats steps later s cache place legal is accepts
    ∙ sym (free_shows_nothing formats steps those t place legal' is' accepts')
