-- In each held segment of a pool of blocks of any sizes lies a live block, in each world that a legal history reaches.
use Rattle.std.proofs.Common.{◌≡◌, ◌⊎◌, inl, inr, ℕ, Bool, true, false, refl, sym, ◌∙◌, ap, subst, List, [], ◌∷◌, append-nil, length, Option, Some, None, Ok, Err, arith}
use Rattle.std.proofs.lemmas.Bool.{true≢false, false≢true, and_from, le-leb, lt-ltb}
use Rattle.std.proofs.lemmas.List.{length-map}
use Rattle.std.proofs.lemmas.Option.{none-some, slice_get-map}
use Rattle.std.specs.Prelude.{not, if◌then◌else◌, is_some, nat_le, nat_lt, option_map, replicate, slice_get}
use Rattle.std.specs.Option.{option_map_or}
use Rattle.mps_base.specs.Address.{address_of_grain}
use Rattle.mps_base.specs.Placement.{Placement, Place, NewSegment, OverLimit, NoFreeRun}
use Rattle.mps_base.specs.Segment.{Segment, end_of_segment, is_in_segment, with_segment, words_of_segment}
use Rattle.mps_base.specs.declared.moves.Move.{Move}
use Rattle.mps_base.specs.declared.moves.Move.TheVariants as moves
use Rattle.mps_base.specs.declared.names.Name.{Name}
use Rattle.mps_base.specs.declared.names.Slot.{Slot}
use Rattle.mps_base.specs.declared.refusal.Refusal.TheVariants as refusal
use Rattle.mps_model.specs.Layout.{Layout}
use Rattle.mps_model.specs.declared.call.Call.{Call}
use Rattle.mps_model.specs.declared.call.Call.TheVariants as call
use Rattle.mps_model.specs.Answer.{Answer, is_block, is_refused}
use Rattle.mps_model.specs.Step.{Step, History}
use Rattle.mps_model.specs.Graph.{Graph, Cache, CacheClass, Manual, Object, contains, entry_at, ids_of_client, is_automatic, object_at, with_last}
use Rattle.mps_model.specs.World.{World, Pool, address_of, empty_world_of, is_any_size_kind, is_automatic_kind, is_copying_pool, pool_at, with_tail}
use Rattle.mps_model.specs.Checked.{Act, Checked, Found, Numbered, required, refuse_when, block_place_in, cache_named, done, pool_named}
use Rattle.mps_model.specs.Allocating.{act_alloc, address_of_placement, allows_size, graph_allocated, refuse_without_place, world_allocated}
use Rattle.mps_model.specs.Caches.{act_cache_alloc, act_taken, taken_from}
use Rattle.mps_model.specs.Collecting.{without_registration}
use Rattle.mps_model.specs.Placement.{ForAlloc, placement_of}
use Rattle.mps_model.specs.Effect.{after_segment, holding, segment_of_move, world_after_moves}
use Rattle.mps_model.specs.LegalMove.{AreLegalMoves}
use Rattle.mps_model.specs.Reply.{act, answer_from, reply_to, world_from}
use Rattle.mps_model.specs.History.{IsLegalStep, AreMovesOf, IsLegalFrom, IsLegalHistoryOf, alloc_at, judged_world, moved_world, moves_if_not_taken, moves_of_alloc, moves_of_cache_alloc, moves_of_collector, remembering, unless_refused, with_client_remembered, world_after, world_after_steps}
use Rattle.mps_changes.specs.Change.{Change, Unchanged, Aside, ForAct, accepted, refused}
use Rattle.mps_changes.proofs.ActChanges.{of_changes}
use Rattle.mps_changes.proofs.Checks.{for_world, pool_named-is, required-is}
use Rattle.mps_laws.specs.Replay.{reached}
use Rattle.mps_laws.proofs.Entries.{GoesOn, entry_at-append, slice_get-there}
use Rattle.mps_laws.proofs.Frames.{frames_manual}
use Rattle.mps_laws.proofs.LeftByActs.{IsCollectionLeft, Leaves, act_leaves}
use Rattle.mps_laws.proofs.Lookups.{entry_at-at_last, entry_within, slice_get-at_last}
use Rattle.mps_laws.proofs.Positions.LegalMoves.{HasLayout}
use Rattle.mps_laws.proofs.Positions.Occupancy.{shape_of}
use Rattle.mps_laws.proofs.Positions.Segments.{IsAmong, among_new, segment_bounds}
use Rattle.mps_laws.proofs.Reading.{bind_ok, next_ok}
use Rattle.mps_laws.proofs.Replays.ManualSteps.{same_cache}
use Rattle.mps_laws.proofs.Sound.SoundGraph.{IsSoundGraph}
use Rattle.mps_client_laws.specs.Objects.{Identity, identity_of, identity_at}
use Rattle.mps_client_laws.proofs.AreaWordsStay.{of_identity}
use Rattle.mps_client_laws.proofs.Objects.{objects_keep_their_identity}
use Rattle.mps_client_laws.proofs.SegmentsInUse.{AreInUse, IsInUse, used, for_move, for_return, any_size, condemned_of, mapped}
use Rattle.mps_client_laws.proofs.SegmentsOfSteps.{AreKeptUsed, moved_used, one_more_used}
use Rattle.mps_client_laws.proofs.SoundlyReached.{IsSoundlyReached, empty_soundly, step_soundly}
use Rattle.mps_client_laws.proofs.WritesOfMoves.{moved_world_leaves}

-- ---- what the act of a call leaves

change_segments : {marked : Bool} {c : Call} {judged v u : World} → Change marked c judged v u → u.segments ≡ v.segments
change_segments Unchanged = refl
change_segments (Aside u what) = refl
change_segments _ = refl

-- what an act leaves of what segments are judged by
record IsLeftBy (v u : World) : Type 0 where
  addresses : GoesOn v.addresses u.addresses
  pools : GoesOn v.pools u.pools
  collection : IsCollectionLeft v.collection u.collection

left_by : (c : Call) (v : World) (x : Checked Act) → ForAct (Leaves c v) x → IsLeftBy v (world_from v x)
left_by c v (Ok a) (accepted l) = record { addresses = l.addresses; pools = l.pools; collection = l.collection }
left_by c v (Err why) refused = record {
  addresses = ([], sym (append-nil v.addresses));
  pools = ([], sym (append-nil v.pools));
  collection = inl refl;
}

module _ (w : World) (s : Step) where
  abbrev v : World
  v = moved_world w s.call s.moves

  abbrev result : Checked Act
  result = act (is_block s.answer) (judged_world w s.call s.moves) v s.call

  abbrev after : World
  after = with_client_remembered (world_from v result)

  left : IsLeftBy v (world_from v result)
  left = left_by s.call v result (act_leaves (is_block s.answer) (judged_world w s.call s.moves) v s.call)

  pub after_segments : after.segments ≡ v.segments
  after_segments =
      for_world (λ u. u.segments ≡ v.segments) v result
      (of_changes (is_block s.answer) (judged_world w s.call s.moves) v s.call (λ u change. change_segments change)) refl

  -- an object of a kind is of it still
  kind_kept : (test : Object → Bool) (by : Identity → Bool) → ((o : Object) → test o ≡ by (identity_of o)) → (id : ℕ)
      → option_map_or test (object_at v.graph id) false ≡ true → option_map_or test (object_at after.graph id) false ≡ true
  kind_kept test by each id is =
      of_identity test by false each (object_at after.graph id)
      ∙ of_found (option_map identity_of (object_at v.graph id)) refl
      (sym (of_identity test by false each (object_at v.graph id)) ∙ is)
    where
      of_found : (o : Option Identity) → option_map identity_of (object_at v.graph id) ≡ o → option_map_or by o false ≡ true
          → option_map_or by (option_map identity_of (object_at after.graph id)) false ≡ true
      of_found None e is = absurd (false≢true is)
      of_found (Some i) e is =
          let before : identity_at w.graph id ≡ Some i =
          sym (slice_get-map identity_of w.graph.objects id)
          ∙ ap (λ is. slice_get is id) (sym (moved_world_leaves w s.call s.moves).identities)
          ∙ slice_get-map identity_of v.graph.objects id ∙ e in
          ap (λ o. option_map_or by o false)
          (objects_keep_their_identity w (s ∷ []) id i before)
          ∙ is

  condemned_before : (id : ℕ) → contains (condemned_of after.collection) id ≡ true → contains (condemned_of v.collection) id ≡ true
  condemned_before id is =
      of_left left.collection
      (subst (λ ids. contains ids id ≡ true)
      (mapped v (remembering (ids_of_client (world_from v result).graph)) (λ c. refl) (world_from v result).collection) is)
    where
      of_left : IsCollectionLeft v.collection (world_from v result).collection
          → contains (condemned_of (world_from v result).collection) id ≡ true → contains (condemned_of v.collection) id ≡ true
      of_left (inl e) is = subst (λ o. contains (condemned_of o) id ≡ true) e is
      of_left (inr (position, e)) is =
          subst (λ ids. contains ids id ≡ true)
          (ap condemned_of e ∙ mapped v (without_registration position) (λ c. refl) v.collection) is

  address_kept : (id at : ℕ) → address_of v id ≡ Some at → address_of after id ≡ Some at
  address_kept id at lies =
      ap (λ xs. entry_at xs id) left.addresses.1
      ∙ entry_at-append v.addresses left.addresses.0 id (entry_within v.addresses id at lies) ∙ lies

  pub acted : (k : AreKeptUsed v after) (limit : ℕ) → HasLayout limit after → IsSoundGraph after
      → AreInUse limit after None
  acted k limit laid sound = record {
    layout = laid;
    sound = sound;
    condemned = λ id is. kind_kept is_automatic (λ (i : Identity). i.is_automatic) (λ o. refl) id (k.condemned id (condemned_before id is));
    pools = λ t among. of_pool t (pool_at v t.pool) refl (k.pools t (subst (IsAmong t) after_segments among));
    each = λ t among any.
        of_each t (k.each t (subst (IsAmong t) after_segments among)
        (any_before t (pool_at v t.pool) refl (k.pools t (subst (IsAmong t) after_segments among)) any));
  }
    where
      same_pool : (t : Segment) (p : Pool) → pool_at v t.pool ≡ Some p → pool_at after t.pool ≡ Some p
      same_pool t p e = ap (λ ps. slice_get ps t.pool) left.pools.1 ∙ slice_get-there v.pools left.pools.0 t.pool p e

      of_pool : (t : Segment) (o : Option Pool) → pool_at v t.pool ≡ o → is_some o ≡ true → is_some (pool_at after t.pool) ≡ true
      of_pool t None e some = absurd (false≢true some)
      of_pool t (Some p) e some = ap is_some (same_pool t p e)

      any_before : (t : Segment) (o : Option Pool) → pool_at v t.pool ≡ o → is_some o ≡ true → any_size after t.pool ≡ true
          → any_size v t.pool ≡ true
      any_before t None e some any = absurd (false≢true some)
      any_before t (Some p) e some any =
          ap (λ o. option_map_or (λ (q : Pool). is_any_size_kind q.kind) o false) (e ∙ sym (same_pool t p e)) ∙ any

      of_each : (t : Segment) → IsInUse v None t ⊎ IsInUse after None t → IsInUse after None t
      of_each t (inr later) = later
      of_each t (inl (used id at is lies inside)) =
          used id at (kind_kept (λ o. not (is_automatic o)) (λ (i : Identity). not i.is_automatic) (λ o. refl) id is)
          (address_kept id at lies) inside
      of_each t (inl (for_move from to e inside)) = absurd (none-some (moves.Moved from to) e)
      of_each t (inl (for_return base e same)) = absurd (none-some (moves.Unseg base) e)

-- ---- a new block

-- a block that was made lies in a segment
block_made : (v : World) (pool words at : ℕ) (place : Found (Option ℕ)) (s : Segment) → length v.addresses ≡ length v.graph.objects
    → is_in_segment s at ≡ true
    → IsInUse (with_client_remembered (record v {
      graph = graph_allocated v.graph pool words place;
      addresses = with_last v.addresses (Some at);
    })) None s
block_made v pool words at place s same inside =
    used (length v.addresses) at
    (ap (λ o. option_map_or (λ x. not (is_automatic x)) o false)
    (ap (slice_get (with_last v.graph.objects (record { pool = pool; body = Manual (replicate words 0) }))) same
    ∙ slice_get-at_last v.graph.objects (record { pool = pool; body = Manual (replicate words 0) })))
    (entry_at-at_last v.addresses (Some at)) inside

module _ (limit : ℕ) (w : World) (h : AreInUse limit w None) (pool words : ℕ) (there : is_some (pool_at w pool) ≡ true) where
  none_more : (u : World) → AreKeptUsed w u
  none_more u = record { condemned = h.condemned; pools = h.pools; each = λ s among kind. inl (h.each s among kind) }

  abbrev moved_by : Placement → World
  moved_by q = world_after_moves w (alloc_at pool words q)

  -- the world after the moves that make a block, which its act then adds at this address
  alloc_used : (q : Placement) (place : Found (Option ℕ)) (limit' : ℕ)
      → HasLayout limit' (with_client_remembered (record (moved_by q) {
        graph = graph_allocated (moved_by q).graph pool words place;
        addresses = with_last (moved_by q).addresses (Some (address_of_placement q));
      }))
      → AreKeptUsed (moved_by q) (with_client_remembered (record (moved_by q) {
        graph = graph_allocated (moved_by q).graph pool words place;
        addresses = with_last (moved_by q).addresses (Some (address_of_placement q));
      }))
  alloc_used (Place word) place limit' laid = none_more _
  alloc_used (OverLimit committed need most) place limit' laid = none_more _
  alloc_used (NoFreeRun need longest) place limit' laid = none_more _
  alloc_used (NewSegment grain grains) place limit' laid =
      let f = facts (is_copying_pool w pool) in
      one_more_used limit w after h s (after_segment w s) f.0 f.1 f.2 f.3 f.4 there
      (λ any. block_made (after_segment w s) pool words (address_of_grain grain) place s
      (ap length f.2 ∙ h.layout.lengths ∙ length-map w.graph.objects shape_of ∙ ap (λ (g : Graph). length g.objects) (sym f.1))
      (inside f.0))
    where
      s : Segment
      s = segment_of_move (address_of_grain grain) grains pool 0

      after : World
      after = with_client_remembered (record (after_segment w s) {
        graph = graph_allocated (after_segment w s).graph pool words place;
        addresses = with_last (after_segment w s).addresses (Some (address_of_grain grain));
      })

      facts : (b : Bool)
          → ((if b then with_tail (holding w s) s.pool s.generation (words_of_segment s) else holding w s).segments
          ≡ with_segment s w.segments)
          × ((if b then with_tail (holding w s) s.pool s.generation (words_of_segment s) else holding w s).graph ≡ w.graph)
          × ((if b then with_tail (holding w s) s.pool s.generation (words_of_segment s) else holding w s).addresses ≡ w.addresses)
          × ((if b then with_tail (holding w s) s.pool s.generation (words_of_segment s) else holding w s).pools ≡ w.pools)
          × ((if b then with_tail (holding w s) s.pool s.generation (words_of_segment s) else holding w s).collection ≡ w.collection)
      facts true = (refl, refl, refl, refl, refl)
      facts false = (refl, refl, refl, refl, refl)

      inside : (after_segment w s).segments ≡ with_segment s w.segments → is_in_segment s s.base ≡ true
      inside e =
          let filled = (segment_bounds 1 limit' after.segments s laid.ascending (subst (IsAmong s) (sym e) (among_new s w.segments))).1 in
          and_from (nat_le s.base s.base) (nat_lt s.base (end_of_segment s)) (le-leb s.base s.base (omega arith))
          (lt-ltb s.base (end_of_segment s) (omega (arith, filled)))

done_is : (u : World) (a : Act) → done u ≡ Ok a → a.world ≡ u
done_is u a e = cc

-- ---- calls that make blocks

module _ (limit : ℕ) (w : World) (h : AreInUse limit w None) where
  as_it_was : (ms : List Move) (u : World) → ms ≡ [] → AreKeptUsed (world_after_moves w ms) u
  as_it_was ms u none = subst (λ ns. AreKeptUsed (world_after_moves w ns) u) (sym none) (record {
    condemned = h.condemned;
    pools = h.pools;
    each = λ s among kind. inl (h.each s among kind);
  })

  made_used : (n words : ℕ) (place : Found (Option ℕ)) (ms : List Move) (u : World) (limit' : ℕ) → is_some (pool_at w n) ≡ true
      → ms ≡ alloc_at n words (placement_of w (ForAlloc n words))
      → u ≡ with_client_remembered (world_allocated w (world_after_moves w ms) n words place) → HasLayout limit' u
      → AreKeptUsed (world_after_moves w ms) u
  made_used n words place ms u limit' there moves_are is laid =
      let q = placement_of w (ForAlloc n words) in
      let same : u ≡ with_client_remembered (world_allocated w (world_after_moves w (alloc_at n words q)) n words place) =
      is ∙ ap (λ ns. with_client_remembered (world_allocated w (world_after_moves w ns) n words place)) moves_are in
      subst (λ ns. AreKeptUsed (world_after_moves w ns) u) (sym moves_are)
      (subst (AreKeptUsed (world_after_moves w (alloc_at n words q))) (sym same)
      (alloc_used limit w h n words there q place limit' (subst (HasLayout limit') same laid)))

  -- a call that was refused made no moves
  unless_made : (answer : Answer) (ms due : List Move) (u : World) (x : Checked Act) → ms ≡ unless_refused answer due
      → answer ≡ answer_from x → ((a : Act) → x ≡ Ok a → ms ≡ due → AreKeptUsed (world_after_moves w ms) u)
      → AreKeptUsed (world_after_moves w ms) u
  unless_made answer ms due u x moves_are said made = by_case (is_refused answer) refl moves_are
    where
      of_act : (y : Checked Act) → x ≡ y → is_refused answer ≡ false → ms ≡ due → AreKeptUsed (world_after_moves w ms) u
      of_act (Ok a) e isnt all = made a e all
      of_act (Err why) e isnt all = absurd (true≢false (sym (ap is_refused (said ∙ ap answer_from e)) ∙ isnt))

      by_case : (b : Bool) → is_refused answer ≡ b → ms ≡ (if b then [] else due) → AreKeptUsed (world_after_moves w ms) u
      by_case true is none = as_it_was ms u none
      by_case false isnt all = of_act x refl isnt all

  alloc_is_used : (pool : Name) (words : ℕ) (into : Slot) (ms : List Move) (answer : Answer) (limit' : ℕ)
      → ms ≡ unless_refused answer (moves_of_alloc w (pool_named w pool) words)
      → answer ≡ answer_from (act_alloc w (world_after_moves w ms) pool words into)
      → HasLayout limit' (with_client_remembered (world_from (world_after_moves w ms)
      (act_alloc w (world_after_moves w ms) pool words into)))
      → AreKeptUsed (world_after_moves w ms)
      (with_client_remembered (world_from (world_after_moves w ms) (act_alloc w (world_after_moves w ms) pool words into)))
  alloc_is_used pool words into ms answer limit' due said laid =
      let v = world_after_moves w ms in
      unless_made answer ms _ _ (act_alloc w v pool words into) due said (λ a e all.
      let p = bind_ok (pool_named w pool) _ a e in
      let place = bind_ok (block_place_in w into) _ a
      (next_ok (refuse_when (is_automatic_kind (p.0).value.kind) refusal.WrongPool) _ a p.2) in
      let sized = next_ok (refuse_when (not (allows_size (p.0).value.kind words)) refusal.BadSize) _ a place.2 in
      let empty = next_ok (refuse_when (is_some (place.0).value) refusal.NameTaken) _ a sized in
      let made = next_ok (refuse_without_place (placement_of w (ForAlloc (p.0).number words))) _ a empty in
      made_used (p.0).number words place.0 ms _ limit'
      (ap is_some (pool_named-is w pool p.0 p.1)) (all ∙ ap (λ x. moves_of_alloc w x words) p.1)
      (ap with_client_remembered (ap (world_from v) e ∙ done_is (world_allocated w v (p.0).number words place.0) a made)) laid)

  cache_alloc_is_used : (cache : Name) (words : ℕ) (into : Slot) (ms : List Move) (answer : Answer) (limit' : ℕ)
      → ms ≡ unless_refused answer (moves_of_cache_alloc w (cache_named w cache) words)
      → answer ≡ answer_from (act_cache_alloc w (world_after_moves w ms) cache words into)
      → HasLayout limit' (with_client_remembered (world_from (world_after_moves w ms)
      (act_cache_alloc w (world_after_moves w ms) cache words into)))
      → AreKeptUsed (world_after_moves w ms)
      (with_client_remembered (world_from (world_after_moves w ms) (act_cache_alloc w (world_after_moves w ms) cache words into)))
  cache_alloc_is_used cache words into ms answer limit' due said laid =
      let v = world_after_moves w ms in
      unless_made answer ms _ _ (act_cache_alloc w v cache words into) due said (λ a e all.
      let q = bind_ok (cache_named v cache) _ a e in
      let pool = bind_ok (required (pool_at w (q.0).value.pool) refusal.BadName) _ a q.2 in
      let place = bind_ok (block_place_in v into) _ a pool.2 in
      let sized = next_ok (refuse_when (not (allows_size (pool.0).kind words)) refusal.BadSize) _ a place.2 in
      let taken = next_ok (refuse_when (is_some (place.0).value) refusal.NameTaken) _ a sized in
      of_taken q.0 place.0 a (ap is_some (required-is (pool_at w (q.0).value.pool) refusal.BadName pool.0 pool.1))
      (ap (λ x. with_client_remembered (world_from v x)) e)
      (taken_from (q.0).value.classes words)
      (all ∙ ap (λ x. moves_of_cache_alloc w x words) (sym (same_cache w ms cache) ∙ q.1)) taken)
    where
      of_taken : (q : Numbered Cache) (place : Found (Option ℕ)) (a : Act) → is_some (pool_at w q.value.pool) ≡ true
          → with_client_remembered (world_from (world_after_moves w ms) (act_cache_alloc w (world_after_moves w ms) cache words into))
          ≡ with_client_remembered a.world
          → (o : Option (ℕ × List CacheClass)) → ms ≡ moves_if_not_taken w q.value.pool words o
          → act_taken w (world_after_moves w ms) q words place o ≡ Ok a
          → AreKeptUsed (world_after_moves w ms) (with_client_remembered (world_from (world_after_moves w ms)
          (act_cache_alloc w (world_after_moves w ms) cache words into)))
      of_taken q place a there is (Some taken) none made = as_it_was ms _ none
      of_taken q place a there is None all made =
          made_used q.value.pool words place ms _ limit' there all
          (is ∙ ap with_client_remembered (done_is (world_allocated w (world_after_moves w ms) q.value.pool words place) a
          (next_ok (refuse_without_place (placement_of w (ForAlloc q.value.pool words))) _ a made))) laid

-- ---- steps and histories

-- a world that is soundly reached, in which the segments of pools of any sizes are in use
pub record IsWellUsed (w : World) : Type 0 where
  pub reached : IsSoundlyReached w
  pub in_use : AreInUse reached.limit w None

module _ (w : World) (k : IsSoundlyReached w) (h : AreInUse k.limit w None) where
  abbrev after_call : Call → List Move → Answer → World
  after_call c ms answer =
      with_client_remembered (world_from (moved_world w c ms) (act (is_block answer) (judged_world w c ms) (moved_world w c ms) c))

  call_used : (c : Call) (ms : List Move) (answer : Answer) (limit' : ℕ) → AreLegalMoves w None (moves_of_collector c ms)
      → AreMovesOf w c answer ms → answer ≡ reply_to (is_block answer) (judged_world w c ms) (moved_world w c ms) c
      → HasLayout limit' (after_call c ms answer) → AreKeptUsed (moved_world w c ms) (after_call c ms answer)
  call_used (call.Alloc pool words into) ms answer limit' legal due said laid =
      alloc_is_used k.limit w h pool words into ms answer limit' due said laid
  call_used (call.CacheAlloc cache words into) ms answer limit' legal due said laid =
      cache_alloc_is_used k.limit w h cache words into ms answer limit' due said laid
  call_used c ms answer limit' legal due said laid =
      moved_used k.limit w h (after_call c ms answer) c ms answer refl k.blocks (frames_manual w k.sound k.framed) legal due

  pub step_used : (s : Step) → IsLegalStep w s → IsSoundlyReached (world_after w s) → IsWellUsed (world_after w s)
  step_used s legal k' =
      let kept = call_used s.call s.moves s.answer k'.limit legal.moves_are_legal legal.moves_are_due legal.answer_is_due k'.layout in
      record { reached = k'; in_use = acted w s kept k'.limit k'.layout k'.sound }

steps_used : (w : World) (ss : History) → IsWellUsed w → IsLegalFrom w ss → IsWellUsed (world_after_steps w ss)
steps_used w [] k legal = k
steps_used w (s ∷ ss) k legal =
    steps_used (world_after w s) ss (step_used w k.reached k.in_use s legal.0 (step_soundly w s k.reached legal.0)) legal.1

pub well_used : (formats : ℕ → Layout) (steps : History) → IsLegalHistoryOf formats steps → IsWellUsed (reached formats steps)
well_used formats steps legal =
    steps_used (empty_world_of formats) steps
    (record {
      reached = empty_soundly formats;
      in_use = record {
        layout = (empty_soundly formats).layout;
        sound = (empty_soundly formats).sound;
        condemned = λ id is. absurd (false≢true is);
        pools = λ s among. absurd among;
        each = λ s among kind. absurd among;
      };
    })
    legal
