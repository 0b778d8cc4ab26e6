-- The law of replay for a step that frees a manual block, and gives its segment back where nothing is left in it.
use Rattle.std.proofs.Common.{◌≡◌, ◌∙◌, ℕ, zero, suc, Bool, true, false, refl, sym, ap, List, [], ◌∷◌, ◌++◌, Option, Some, None, Ok, Err, subst}
use Rattle.std.proofs.lemmas.Bool.{false≢true, and_parts}
use Rattle.std.proofs.lemmas.Option.{none-some, same_Some}
use Rattle.std.specs.Prelude.{slice_get, option_and_then, is_some, ◌&&◌, if◌then◌else◌}
use Rattle.std.specs.Option.{option_map_or}
use Rattle.std.specs.List.{list_all, flat_map}
use Rattle.mps_base.specs.Address.{Address}
use Rattle.mps_base.specs.Segment.{Segment, is_in_segment}
use Rattle.mps_base.specs.declared.moves.Move.{Move}
use Rattle.mps_base.specs.declared.moves.Move.TheVariants as moves
use Rattle.mps_base.specs.declared.names.Slot.{Slot}
use Rattle.mps_base.specs.declared.refusal.Refusal.TheVariants as refusal
use Rattle.mps_base.specs.declared.names.Name.{Name}
use Rattle.mps_model.specs.declared.call.Call.{Call}
use Rattle.mps_model.specs.declared.call.Call.TheVariants as call
use Rattle.mps_model.specs.Answer.{Answer, is_refused}
use Rattle.mps_model.specs.Graph.{Cache, CacheClass, PoolFrames, Slots, entries, entry_at, ids_in_blocks, ids_in_caches, ids_in_places}
use Rattle.mps_model.specs.World.{World, id_at, is_live, segment_of, is_any_size_kind, is_copying_kind, is_empty_segment, pool_is}
use Rattle.mps_model.specs.Checked.{Checked, Found, Numbered, ◌>>=◌, required, block_place_in, cache_named, entry_in, number_named, numbered, as_blocks}
use Rattle.mps_model.specs.Accessing.{address_or_null}
use Rattle.mps_model.specs.Caches.{flushed, kept_by}
use Rattle.mps_model.specs.Frames.{blocks_popped, frame_in, frames_named}
use Rattle.mps_model.proofs.Appending.{replay_from-append}
use Rattle.mps_model.proofs.Cutting.{world_after_moves-append}
use Rattle.mps_changes.specs.Change.{is_placing}
use Rattle.mps_model.specs.Effect.{world_after_moves, after_free, where_one}
use Rattle.mps_model.specs.Log.{records_of, records_of_step}
use Rattle.mps_model.specs.Replay.{replay_from, after_freeing}
use Rattle.mps_model.specs.Flip.{at_address}
use Rattle.mps_model.specs.History.{world_after, free_of, free_of_object, give_back_empty, moves_if_not_kept, moves_of_cache_flush, moves_of_cache_free, moves_of_frame, moves_of_free, moves_of_frees, moves_of_pop, unless_refused}
use Rattle.mps_laws.proofs.Positions.Occupancy.{Occupancy, occupancy_of}
use Rattle.mps_laws.proofs.Positions.LaidOut.{kind_in}
use Rattle.mps_laws.proofs.Finding.{id_at-there}
use Rattle.mps_laws.proofs.Positions.LegalMoves.{HasLayout, IsReplayed, blocks_of, different, free_is}
use Rattle.mps_laws.proofs.Sound.PoolKinds.{not_copying_and_any_size}
use Rattle.mps_laws.proofs.Replays.ReplayOfMoves.{freed_replayed, given_back_replayed}
use Rattle.mps_laws.proofs.Positions.Segments.{IsAmong, found_among, same_by_base}
use Rattle.mps_laws.proofs.Replays.Steps.{plain_step}

-- the blocks in the places of tables of blocks are live
abbrev pub BlocksAreLive : World → Type 0
BlocksAreLive w = list_all (is_live w) (ids_in_blocks w.graph) ≡ true

-- ---- a place of a table of blocks

abbrev placed_block : List Slots → (index : ℕ) → Option ℕ → Checked (Found (Option ℕ))
placed_block blocks index o = required o refusal.BadName >>= (λ number.
    numbered number (slice_get blocks number) >>= (λ b. entry_in b index))

record IsPlaceOf (blocks : List Slots) (value : Option ℕ) : Type 0 where
  pub number : ℕ
  pub slots : Slots
  pub index : ℕ
  pub table : slice_get blocks number ≡ Some slots
  pub entry : slice_get slots index ≡ Some value

entry_is : (number : ℕ) (slots : Slots) (index : ℕ) (o : Option (Option ℕ)) (found : Found (Option ℕ))
    → (required o refusal.BadIndex >>= (λ value. Ok (record { number = number; list = slots; index = index; value = value }))) ≡ Ok found
    → o ≡ Some found.value
entry_is number slots index None found e = absurd (cc)
entry_is number slots index (Some value) found e =
    let same : record { number = number; list = slots; index = index; value = value } ≡ found = cc in
    ap (λ (f : Found (Option ℕ)). Some f.value) same

table_is : (blocks : List Slots) (index number : ℕ) (o : Option Slots) (found : Found (Option ℕ)) → slice_get blocks number ≡ o
    → (numbered number o >>= (λ b. entry_in b index)) ≡ Ok found → IsPlaceOf blocks found.value
table_is blocks index number None found t e = absurd (cc)
table_is blocks index number (Some slots) found t e = record {
  number = number;
  slots = slots;
  index = index;
  table = t;
  entry = entry_is number slots index (slice_get slots index) found e;
}

place_is : (blocks : List Slots) (index : ℕ) (o : Option ℕ) (found : Found (Option ℕ)) → placed_block blocks index o ≡ Ok found
    → IsPlaceOf blocks found.value
place_is blocks index None found e = absurd (cc)
place_is blocks index (Some number) found e = table_is blocks index number (slice_get blocks number) found refl e

module _ (p : ℕ → Bool) where
  all_parts : (xs ys : List ℕ) → list_all p (xs ++ ys) ≡ true → (list_all p xs ≡ true) × (list_all p ys ≡ true)
  all_parts [] ys h = (refl, h)
  all_parts (x ∷ xs) ys h =
      let parts = and_parts (p x) (list_all p (xs ++ ys)) h in
      let rest = all_parts xs ys parts.1 in
      (ap (λ b. b && list_all p xs) parts.0 ∙ rest.0, rest.1)

  of_entry : (slots : Slots) (i id : ℕ) → slice_get slots i ≡ Some (Some id) → list_all p (entries slots) ≡ true → p id ≡ true
  of_entry [] i id e h = absurd (none-some (Some id) e)
  of_entry (None ∷ os) zero id e h = absurd (none-some id (same_Some None (Some id) e))
  of_entry (None ∷ os) (suc i) id e h = of_entry os i id e h
  of_entry (Some n ∷ os) zero id e h =
      let same = same_Some n id (same_Some (Some n) (Some id) e) in
      subst (λ (k : ℕ). p k ≡ true) same (and_parts (p n) (list_all p (entries os)) h).0
  of_entry (Some n ∷ os) (suc i) id e h = of_entry os i id e (and_parts (p n) (list_all p (entries os)) h).1

  of_tables : (blocks : List Slots) (n : ℕ) (slots : Slots) → slice_get blocks n ≡ Some slots → list_all p (flat_map entries blocks) ≡ true
      → list_all p (entries slots) ≡ true
  of_tables [] n slots e h = absurd (none-some slots e)
  of_tables (b ∷ bs) zero slots e h =
      subst (λ (s : Slots). list_all p (entries s) ≡ true) (same_Some b slots e) (all_parts (entries b) (flat_map entries bs) h).0
  of_tables (b ∷ bs) (suc n) slots e h = of_tables bs n slots e (all_parts (entries b) (flat_map entries bs) h).1

pub block_is_live : (w : World) (place : Slot) (found : Found (Option ℕ)) (id : ℕ) → BlocksAreLive w → block_place_in w place ≡ Ok found
    → found.value ≡ Some id → is_live w id ≡ true
block_is_live w place found id live e f =
    let x = place_is w.graph.blocks place.index (number_named w place.name as_blocks) found e in
    of_entry (is_live w) x.slots x.index id (x.entry ∙ ap Some f) (of_tables (is_live w) w.graph.blocks x.number x.slots x.table
    (all_parts (is_live w) (ids_in_places w.graph) (ids_in_caches w.graph) live).0)

-- ---- the moves of a free

module _ (limit pools line : ℕ) (w : World) (laid : HasLayout limit w) where
  pub address_there : (id : ℕ) → is_live w id ≡ true → entry_at w.addresses id ≡ Some (address_or_null w id)
  address_there id h = of_one (entry_at w.addresses id) h
    where
      of_one : (o : Option ℕ) → is_some o ≡ true → o ≡ Some (option_map_or (λ at. at) o 0)
      of_one None h = absurd (false≢true h)
      of_one (Some at) h = refl

  -- the segment of a freed block is given back where that is due
  given_back : (v : World) (laid' : HasLayout limit v) (o : Option Segment) → ((s : Segment) → o ≡ Some s → IsAmong s v.segments)
      → IsReplayed limit v (world_after_moves v (give_back_empty v o))
      (replay_from (blocks_of (occupancy_of v)) (records_of (give_back_empty v o) line))
  given_back v laid' None held = record { layout = laid'; blocks = refl }
  given_back v laid' (Some s) held =
      elim (pool_is is_any_size_kind v s.pool && is_empty_segment v s) as
      (λ b. (pool_is is_any_size_kind v s.pool && is_empty_segment v s) ≡ b
      → IsReplayed limit v (world_after_moves v (if b then moves.Unseg (at_address s.base) ∷ [] else []))
      (replay_from (blocks_of (occupancy_of v)) (records_of (if b then moves.Unseg (at_address s.base) ∷ [] else []) line))) [
        | true ↦
            (λ is.
            let parts = and_parts (pool_is is_any_size_kind v s.pool) (is_empty_segment v s) is in
            let r = given_back_replayed limit v s.base s laid' (held s refl) refl parts.1 (λ o some at_hand e.
            let home = laid'.placed.homes o some in
            let one : home.segment ≡ s = same_by_base 1 limit v.segments home.segment s laid'.ascending home.held (held s refl) e in
            not_copying_and_any_size v.pools s.pool
            (subst (λ (t : Segment). kind_in is_copying_kind v.pools t.pool ≡ true) one (home.copying at_hand)) parts.0) in
            record { layout = r.layout; blocks = ap (λ o. option_and_then (λ x. Some x) o) r.blocks })
        | false ↦ (λ isnt. record { layout = laid'; blocks = refl })
      ] refl

  then_replayed : (at : Address) (v : World) (ms : List Move) → IsReplayed limit w v (after_freeing (blocks_of (occupancy_of w)) at)
      → IsReplayed limit v (world_after_moves v ms) (replay_from (blocks_of (occupancy_of v)) (records_of ms line))
      → IsReplayed limit w (world_after_moves v ms) (option_and_then (λ after. replay_from after (records_of ms line))
      (after_freeing (blocks_of (occupancy_of w)) at))
  then_replayed at v ms first second = record {
    layout = second.layout;
    blocks = ap (λ o. option_and_then (λ after. replay_from after (records_of ms line)) o) first.blocks ∙ second.blocks;
  }

  free_replayed : (id : ℕ) → is_live w id ≡ true
      → IsReplayed limit w (world_after_moves w (free_of w (address_or_null w id)))
      (replay_from (blocks_of (occupancy_of w)) (records_of (free_of w (address_or_null w id)) line))
  free_replayed id live =
      let at = address_or_null w id in
      let found = id_at-there w at id (different limit (occupancy_of w) laid) (address_there id live) in
      let freed = freed_replayed limit w at id laid found in
      let v = where_one w (id_at w at) (λ n. after_free w n at) in
      let same : v ≡ after_free w id at = ap (λ o. where_one w o (λ n. after_free w n at)) found in
      let first : IsReplayed limit w v (after_freeing (blocks_of (occupancy_of w)) at) =
      subst (λ u. IsReplayed limit w u (after_freeing (blocks_of (occupancy_of w)) at)) (sym same) freed in
      let segments : v.segments ≡ w.segments = ap (λ (u : World). u.segments) same ∙ ap (λ (g : Occupancy). g.segments) (free_is w id at) in
      then_replayed at v (give_back_empty v (segment_of w at)) first
      (given_back v first.layout (segment_of w at) (λ s e.
      subst (IsAmong s) (sym segments) (found_among (λ t. is_in_segment t at) w.segments s e).0))

  nothing_replayed : IsReplayed limit w w (replay_from (blocks_of (occupancy_of w)) (records_of [] line))
  nothing_replayed = record { layout = laid; blocks = refl }

  of_place : (place : Slot) → BlocksAreLive w → (x : Checked (Found (Option ℕ))) → block_place_in w place ≡ x
      → IsReplayed limit w (world_after_moves w (moves_of_free w x))
      (replay_from (blocks_of (occupancy_of w)) (records_of (moves_of_free w x) line))
  of_place place live (Err why) e = nothing_replayed
  of_place place live (Ok found) e = of_value found.value refl
    where
      of_value : (o : Option ℕ) → found.value ≡ o
          → IsReplayed limit w (world_after_moves w (option_map_or (λ id. free_of w (address_or_null w id)) o []))
          (replay_from (blocks_of (occupancy_of w)) (records_of (option_map_or (λ id. free_of w (address_or_null w id)) o []) line))
      of_value None f = nothing_replayed
      of_value (Some id) f = free_replayed id (block_is_live w place found id live e f)

  moves_replayed_unless : (b : Bool) (ms : List Move)
      → IsReplayed limit w (world_after_moves w ms) (replay_from (blocks_of (occupancy_of w)) (records_of ms line))
      → IsReplayed limit w (world_after_moves w (if b then [] else ms))
      (replay_from (blocks_of (occupancy_of w)) (records_of (if b then [] else ms) line))
  moves_replayed_unless true ms r = nothing_replayed
  moves_replayed_unless false ms r = r

  pub free_step : (place : Slot) (ms : List Move) (answer : Answer) → BlocksAreLive w
      → ms ≡ unless_refused answer (moves_of_free w (block_place_in w place))
      → IsReplayed limit w (world_after w (record { line = line; call = call.Free place; moves = ms; answer = answer }))
      (replay_from (blocks_of (occupancy_of w)) (records_of_step pools
      (record { line = line; call = call.Free place; moves = ms; answer = answer })))
  free_step place ms answer live due =
      plain_step limit pools line w (call.Free place) ms answer refl
      (subst (λ (ns : List Move). IsReplayed limit w (world_after_moves w ns)
      (replay_from (blocks_of (occupancy_of w)) (records_of ns line))) (sym due)
      (moves_replayed_unless (is_refused answer) (moves_of_free w (block_place_in w place))
      (of_place place live (block_place_in w place) refl)))

-- ---- several objects are freed

records_append : (ms ns : List Move) (line : ℕ) → records_of (ms ++ ns) line ≡ records_of ms line ++ records_of ns line
records_append [] ns line = refl
records_append (m ∷ ms) ns line = ap (λ rest. Rattle.mps_model.specs.Log.record_of m line ∷ rest) (records_append ms ns line)

module _ (limit line : ℕ) where
  abbrev pub AreReplayed : World → List Move → Type 0
  AreReplayed w ms = IsReplayed limit w (world_after_moves w ms) (replay_from (blocks_of (occupancy_of w)) (records_of ms line))

  then_these : (w : World) (ms ns : List Move) → AreReplayed w ms → AreReplayed (world_after_moves w ms) ns → AreReplayed w (ms ++ ns)
  then_these w ms ns first second = record {
    layout = subst (HasLayout limit) (sym (world_after_moves-append w ms ns)) second.layout;
    blocks = ap (replay_from (blocks_of (occupancy_of w))) (records_append ms ns line)
        ∙ replay_from-append (blocks_of (occupancy_of w)) (records_of ms line) (records_of ns line)
        ∙ ap (λ o. option_and_then (λ after. replay_from after (records_of ns line)) o) first.blocks
        ∙ second.blocks ∙ ap (λ v. Some (blocks_of (occupancy_of v))) (sym (world_after_moves-append w ms ns));
  }

  -- an object is freed, if it is live
  pub object_replayed : (w : World) → HasLayout limit w → (id : ℕ) → AreReplayed w (free_of_object w id)
  object_replayed w laid id = of_address (entry_at w.addresses id) refl
    where
      of_address : (o : Option ℕ) → entry_at w.addresses id ≡ o → AreReplayed w (option_map_or (free_of w) o [])
      of_address None e = record { layout = laid; blocks = refl }
      of_address (Some at) e =
          let at_it : address_or_null w id ≡ at = ap (λ o. option_map_or (λ (a : ℕ). a) o 0) e in
          subst (λ (a : ℕ). AreReplayed w (free_of w a)) at_it (free_replayed limit 0 line w laid id (ap is_some e))

  -- so are several, one after the other
  pub frees_replayed : (w : World) → HasLayout limit w → (ids : List ℕ) → AreReplayed w (moves_of_frees w ids)
  frees_replayed w laid [] = record { layout = laid; blocks = refl }
  frees_replayed w laid (id ∷ ids) =
      let first = object_replayed w laid id in
      let v = world_after_moves w (free_of_object w id) in
      then_these w (free_of_object w id) (moves_of_frees v ids) first (frees_replayed v first.layout ids)

module _ (limit pools line : ℕ) (w : World) (laid : HasLayout limit w) where
  of_kept : (id : ℕ) (kept : Option (List CacheClass)) → AreReplayed limit line w (moves_if_not_kept w id kept)
  of_kept id None = object_replayed limit line w laid id
  of_kept id (Some classes) = record { layout = laid; blocks = refl }

  cache_free_replayed : (q : Checked (Numbered Cache)) (p : Checked (Found (Option ℕ)))
      → AreReplayed limit line w (moves_of_cache_free w q p)
  cache_free_replayed (Ok q) (Ok found) = of_value found.value
    where
      of_value : (o : Option ℕ) → AreReplayed limit line w (option_map_or (λ id. moves_if_not_kept w id (kept_by w q.value id)) o [])
      of_value None = record { layout = laid; blocks = refl }
      of_value (Some id) = of_kept id (kept_by w q.value id)
  cache_free_replayed (Ok q) (Err why) = record { layout = laid; blocks = refl }
  cache_free_replayed (Err why) p = record { layout = laid; blocks = refl }

  cache_flush_replayed : (q : Checked (Numbered Cache)) → AreReplayed limit line w (moves_of_cache_flush w q)
  cache_flush_replayed (Ok q) = frees_replayed limit line w laid (flushed q.value)
  cache_flush_replayed (Err why) = record { layout = laid; blocks = refl }

  abbrev StepReplayed : Call → List Move → Answer → Type 0
  StepReplayed c ms answer =
      IsReplayed limit w (world_after w (record { line = line; call = c; moves = ms; answer = answer }))
      (replay_from (blocks_of (occupancy_of w)) (records_of_step pools (record { line = line; call = c; moves = ms; answer = answer })))

  -- a call that places nothing and makes these moves unless it is refused
  due_step : (c : Call) (ms due : List Move) (answer : Answer) → is_placing c ≡ false
      → ms ≡ unless_refused answer due → AreReplayed limit line w due → StepReplayed c ms answer
  due_step c ms due answer plain is replayed =
      plain_step limit pools line w c ms answer plain
      (subst (AreReplayed limit line w) (sym is) (moves_replayed_unless limit pools line w laid (is_refused answer) due replayed))

  pub cache_free_step : (cache : Name) (place : Slot) (ms : List Move) (answer : Answer)
      → ms ≡ unless_refused answer (moves_of_cache_free w (cache_named w cache) (block_place_in w place))
      → StepReplayed (call.CacheFree cache place) ms answer
  cache_free_step cache place ms answer due =
      due_step (call.CacheFree cache place) ms (moves_of_cache_free w (cache_named w cache) (block_place_in w place))
      answer refl due
      (cache_free_replayed (cache_named w cache) (block_place_in w place))

  pub cache_flush_step : (cache : Name) (ms : List Move) (answer : Answer)
      → ms ≡ unless_refused answer (moves_of_cache_flush w (cache_named w cache)) → StepReplayed (call.CacheFlush cache) ms answer
  cache_flush_step cache ms answer due =
      due_step (call.CacheFlush cache) ms (moves_of_cache_flush w (cache_named w cache)) answer refl due
      (cache_flush_replayed (cache_named w cache))

  pop_replayed : (x : Checked PoolFrames) (frame : ℕ) → AreReplayed limit line w (moves_of_pop w x frame)
  pop_replayed (Err why) frame = record { layout = laid; blocks = refl }
  pop_replayed (Ok f) frame = of_frame (frame_in f frame)
    where
      of_frame : (x : Checked ℕ) → AreReplayed limit line w (moves_of_frame w f x)
      of_frame (Ok before) = frees_replayed limit line w laid (blocks_popped f before)
      of_frame (Err why) = record { layout = laid; blocks = refl }

  pub pop_step : (pool : Name) (frame : ℕ) (ms : List Move) (answer : Answer)
      → ms ≡ unless_refused answer (moves_of_pop w (frames_named w pool) frame) → StepReplayed (call.Pop pool frame) ms answer
  pop_step pool frame ms answer due =
      due_step (call.Pop pool frame) ms (moves_of_pop w (frames_named w pool) frame) answer refl due
      (pop_replayed (frames_named w pool) frame)
