-- What a running collection names is there: the objects that it condemned are automatic, and no more registrations lie before its flip than
-- there are.
use Rattle.std.proofs.Common.{◌≡◌, ◌∙◌, ℕ, ◌+◌, ◌-◌, ◌≤◌, Bool, true, false, refl, sym, ap, subst, List, [], ◌∷◌, length, Option, Some, None, Ok, Err, inl, inr, arith}
use Rattle.std.proofs.lemmas.Bool.{false≢true, and_parts, and_from, le-leb, ltb-true, ltb-false, eq-eqb, or_left, or_right}
use Rattle.std.proofs.lemmas.Option.{none-some, same_Some}
use Rattle.std.specs.Prelude.{◌&&◌, ◌==◌, if◌then◌else◌, filter, find, is_some, nat_le, nat_lt, option_map, replicate}
use Rattle.std.specs.List.{list_all}
use Rattle.std.specs.Option.{option_map_or}
use Rattle.mps_base.specs.Address.{Address}
use Rattle.mps_base.specs.Placement.{Placement, Place, NewSegment, OverLimit, NoFreeRun}
use Rattle.mps_base.specs.Segment.{Segment, words_of_segment}
use Rattle.mps_base.specs.declared.moves.Move.{Move}
use Rattle.mps_base.specs.declared.moves.Move.TheVariants as moves
use Rattle.mps_model.specs.declared.call.Call.{Call}
use Rattle.mps_model.specs.declared.call.Call.TheVariants as call
use Rattle.mps_model.specs.Answer.{Answer, is_accepted, is_block, is_refused}
use Rattle.mps_model.specs.Step.{Step}
use Rattle.mps_model.specs.Graph.{Cache, CacheClass, Manual, Object, contains, ids_of_client, is_automatic, position_of_first, with_last, without_first}
use Rattle.mps_model.specs.Collection.{Collection}
use Rattle.mps_model.specs.World.{World, Pool, id_at, is_copying_pool, live_automatic_ids, live_ids, object_is, segment_at, with_tail}
use Rattle.mps_model.specs.WellFormed.{is_right_collection}
use Rattle.mps_model.specs.Allocating.{body_with_word, committed_object}
use Rattle.mps_model.specs.Caches.{body_cleared, taken_from}
use Rattle.mps_model.specs.Checked.{Checked, Numbered, as_point, block_place_in, cache_named, number_named, point_named, pool_named}
use Rattle.mps_model.specs.Collecting.{without_position, without_registration}
use Rattle.mps_model.specs.Effect.{Condemnation, after_flip, after_free, after_moved, after_post, after_segment, after_splat, condemnation_of, condemned_by, giving_back, graph_splatted, holding, lies_in_one, placing, posting, reclaiming, registration_of, segment_base_of, segment_of_move, splatting, where_one, with_collection, without_object, world_after_move, world_after_moves, world_flipped}
use Rattle.mps_model.specs.Frames.{frames_named}
use Rattle.mps_model.specs.LegalMove.{AreLegalMoves, ForObjectAt, IsLegalMove, IsLegalPost, first_move, is_due}
use Rattle.mps_model.specs.Placement.{ForAlloc, placement_of}
use Rattle.mps_model.specs.Policy.{units_asked}
use Rattle.mps_model.specs.Reply.{act, world_from}
use Rattle.mps_model.specs.Transforms.{object_substituted, pairs_of}
use Rattle.mps_model.specs.History.{AreMovesOf, IsLegalStep, after_its_moves, alloc_at, asking, if_accepted, judged_world, moved_world, moves_if_not_taken, moves_of_alloc, moves_of_cache_alloc, moves_of_cache_flush, moves_of_cache_free, moves_of_collector, moves_of_commit, moves_of_free, moves_of_poll, moves_of_pop, own_segment, remembering, unless_refused, world_after}
use Rattle.mps_changes.specs.Change.{Change, CellsAre, BlockWordIs, Allocated, BlockUncached, Committed, Substituted, Registered, Unregistered}
use Rattle.mps_changes.proofs.ActChanges.{of_changes}
use Rattle.mps_laws.proofs.Acts.{for_world}
use Rattle.mps_laws.proofs.AutomaticObjects.{auto_changed, auto_mapped, auto_more, cells_changed, cleared_keeps, is_auto, splatted, substituted_keeps, word_keeps}
use Rattle.mps_laws.proofs.ClientMoves.{HoldsOfFrees, cache_passes, commit_passes, flush_passes, place_passes, pop_passes}
use Rattle.mps_laws.proofs.Finding.{for_both, for_one}
use Rattle.mps_laws.proofs.Lookups.{length-with_last}
use Rattle.mps_laws.proofs.OwnSegments.{own_segment_taken}
use Rattle.mps_laws.proofs.Positions.LegalMoves.{HasLayout}
use Rattle.mps_laws.proofs.Positions.Occupancy.{condemned_in}
use Rattle.mps_laws.proofs.Positions.Segments.{IsAmong}
use Rattle.mps_laws.proofs.Sound.SoundGraph.{All, all-weaker, auto}
use Rattle.mps_laws.proofs.Spending.{SpendsWithin, given_back}

-- ---- registrations

first_within : (ids : List ℕ) (id position : ℕ) → position_of_first ids id ≡ Some position → position + 1 ≤ length ids
first_within [] id position e = absurd (none-some position e)
first_within (x ∷ xs) id position e =
    elim (x == id) as (λ b. (if b then Some 0 else option_map (λ n. n + 1) (position_of_first xs id)) ≡ Some position
    → position + 1 ≤ length (x ∷ xs)) [
      | true ↦ (λ h. let same = same_Some 0 position h in omega (arith, same))
      | false ↦ (λ h. later (position_of_first xs id) (λ n f. first_within xs id n f) h)
    ] e
  where
    later : (o : Option ℕ) → ((n : ℕ) → o ≡ Some n → n + 1 ≤ length xs) → option_map (λ n. n + 1) o ≡ Some position
        → position + 1 ≤ length (x ∷ xs)
    later None rest h = absurd (none-some position h)
    later (Some n) rest h =
        let same = same_Some (n + 1) position h in
        let low = rest n refl in
        omega (arith, same, low)

one_less : (ids : List ℕ) (id position : ℕ) → position_of_first ids id ≡ Some position
    → length (without_first ids id) + 1 ≡ length ids
one_less [] id position e = absurd (none-some position e)
one_less (x ∷ xs) id position e =
    elim (x == id) as (λ b. (if b then Some 0 else option_map (λ n. n + 1) (position_of_first xs id)) ≡ Some position
    → length (if b then xs else x ∷ without_first xs id) + 1 ≡ length (x ∷ xs)) [
      | true ↦ (λ h. omega arith)
      | false ↦ (λ h. later (position_of_first xs id) (λ n f. one_less xs id n f) h)
    ] e
  where
    later : (o : Option ℕ) → ((n : ℕ) → o ≡ Some n → length (without_first xs id) + 1 ≡ length xs)
        → option_map (λ n. n + 1) o ≡ Some position → length (x ∷ without_first xs id) + 1 ≡ length (x ∷ xs)
    later None rest h = absurd (none-some position h)
    later (Some n) rest h = let less = rest n refl in omega (arith, less)

-- ---- what a collection has

-- what holds of a running collection, where these are the objects and there are this many registrations
pub record IsWithin (objects : List Object) (registrations : ℕ) (c : Collection) : Type 0 where
  pub condemned : All (is_auto objects) c.condemned
  pub examined : c.examined ≤ c.registered_before
  pub registered : c.registered_before ≤ registrations

abbrev pub OfRunning : List Object → (registrations : ℕ) → Option Collection → Type 0
OfRunning objects registrations None = Unit {0}
OfRunning objects registrations (Some c) = IsWithin objects registrations c

abbrev pub RunsWithin : World → Type 0
RunsWithin w = OfRunning w.graph.objects (length w.graph.registered) w.collection

-- what changes neither the condemned objects nor the positions among registrations
record KeepsWithin (change : Collection → Collection) : Type 0 where
  pub condemned : (c : Collection) → (change c).condemned ≡ c.condemned
  pub examined : (c : Collection) → (change c).examined ≡ c.examined
  pub registered : (c : Collection) → (change c).registered_before ≡ c.registered_before

module _ (before after : List Object) (autos : (id : ℕ) → is_auto before id ≡ true → is_auto after id ≡ true) where
  within_still : (n m : ℕ) (c : Collection) → n ≤ m → IsWithin before n c → IsWithin after m c
  within_still n m c more h = record {
    condemned = all-weaker (is_auto before) (is_auto after) autos c.condemned h.condemned;
    examined = h.examined;
    registered = let low = h.registered in omega (arith, low, more);
  }

  still : (n m : ℕ) (o : Option Collection) → n ≤ m → OfRunning before n o → OfRunning after m o
  still n m None more h = tt
  still n m (Some c) more h = within_still n m c more h

  changed : (n m : ℕ) (change : Collection → Collection) (o : Option Collection) → n ≤ m → KeepsWithin change → OfRunning before n o
      → OfRunning after m (option_map change o)
  changed n m change None more keeps h = tt
  changed n m change (Some c) more keeps h =
      let all = within_still n m c more h in
      record {
        condemned = ap (list_all (is_auto after)) (keeps.condemned c) ∙ all.condemned;
        examined = let low = all.examined in let a = keeps.examined c in let b = keeps.registered c in omega (arith, low, a, b);
        registered = let low = all.registered in let b = keeps.registered c in omega (arith, low, b);
      }

as_they_were : (os : List Object) (id : ℕ) → is_auto os id ≡ true → is_auto os id ≡ true
as_they_were os id h = h

-- the same objects, and as many registrations
with_kept : (w : World) (change : Collection → Collection) → KeepsWithin change → RunsWithin w → RunsWithin (with_collection w change)
with_kept w change keeps h =
    changed w.graph.objects w.graph.objects (as_they_were w.graph.objects) (length w.graph.registered) (length w.graph.registered) change
    w.collection (omega arith) keeps h

places_keep : (id : ℕ) → KeepsWithin (placing id)
places_keep id = record { condemned = λ c. refl; examined = λ c. refl; registered = λ c. refl }

splats_keep : KeepsWithin splatting
splats_keep = record { condemned = λ c. refl; examined = λ c. refl; registered = λ c. refl }

reclaims_keep : (base : ℕ) → KeepsWithin (reclaiming base)
reclaims_keep base = record { condemned = λ c. refl; examined = λ c. refl; registered = λ c. refl }

gives_back_keep : (base : ℕ) → KeepsWithin (giving_back base)
gives_back_keep base = record {
  condemned = λ c. given_back (λ x. x.condemned ≡ c.condemned) base c refl refl;
  examined = λ c. given_back (λ x. x.examined ≡ c.examined) base c refl refl;
  registered = λ c. given_back (λ x. x.registered_before ≡ c.registered_before) base c refl refl;
}

-- ---- a flip

passes_filter : (test : ℕ → Bool) (ids : List ℕ) → All test (filter test ids)
passes_filter test [] = refl
passes_filter test (id ∷ ids) =
    elim (test id) as (λ b. test id ≡ b → All test (if b then id ∷ filter test ids else filter test ids)) [
      | true ↦ (λ h. and_from (test id) (list_all test (filter test ids)) h (passes_filter test ids))
      | false ↦ (λ h. passes_filter test ids)
    ] refl

still_passes : (test keep : ℕ → Bool) (ids : List ℕ) → All test ids → All test (filter keep ids)
still_passes test keep [] h = refl
still_passes test keep (id ∷ ids) h =
    let parts = and_parts (test id) (list_all test ids) h in
    elim (keep id) as (λ b. All test (if b then id ∷ filter keep ids else filter keep ids)) [
      | true ↦ and_from (test id) (list_all test (filter keep ids)) parts.0 (still_passes test keep ids parts.1)
      | false ↦ still_passes test keep ids parts.1
    ]

flip_within : (w : World) (zones : ℕ) (what : Condemnation) → RunsWithin (after_flip w zones what)
flip_within w zones what =
    let u = world_flipped w zones in
    record {
      condemned =
          still_passes (auto u) (lies_in_one u (condemned_by u what)) (live_automatic_ids u)
          (passes_filter (auto u) (live_ids u));
      examined = omega arith;
      registered = omega arith;
    }

-- ---- moves

one_within : (w : World) (o : Option ℕ) (change : ℕ → World) → RunsWithin w → ((id : ℕ) → RunsWithin (change id))
    → RunsWithin (where_one w o change)
one_within w None change h each = h
one_within w (Some id) change h each = each id

free_within : (w : World) (id at : ℕ) → RunsWithin w → RunsWithin (after_free w id at)
free_within w id at h =
    elim (object_is is_automatic w id) as (λ b. RunsWithin (if b then with_collection (without_object w id)
    (reclaiming (segment_base_of w at)) else without_object w id)) [
      | true ↦ with_kept (without_object w id) (reclaiming (segment_base_of w at)) (reclaims_keep (segment_base_of w at)) h
      | false ↦ h
    ]

segment_within : (w : World) (s : Segment) → RunsWithin w → RunsWithin (after_segment w s)
segment_within w s h =
    elim (is_copying_pool w s.pool) as (λ b. RunsWithin (if b then with_tail (holding w s) s.pool s.generation (words_of_segment s)
    else holding w s)) [
      | true ↦ h
      | false ↦ h
    ]

splat_within : (w : World) (holder cell : ℕ) → RunsWithin w → RunsWithin (after_splat w holder cell)
splat_within w holder cell h =
    changed w.graph.objects (graph_splatted w.graph holder cell).objects (splatted w.graph holder cell) (length w.graph.registered)
    (length w.graph.registered) splatting w.collection (omega arith) splats_keep h

abbrev is_no_post : Move → Bool
is_no_post (moves.Post at) = false
is_no_post _ = true

-- a move but a post
other_within : (w : World) (m : Move) → is_no_post m ≡ true → RunsWithin w → RunsWithin (world_after_move w m)
other_within w (moves.Seg base grains pool generation) none h = segment_within w (segment_of_move base.0 grains pool generation) h
other_within w (moves.Unseg base) none h =
    changed w.graph.objects w.graph.objects (as_they_were w.graph.objects) (length w.graph.registered) (length w.graph.registered)
    (giving_back base.0) w.collection (omega arith) (gives_back_keep base.0) h
other_within w (moves.Flip zones chain generation) none h = flip_within w zones.0 (condemnation_of chain generation)
other_within w moves.End none h = tt
other_within w (moves.Moved from to) none h =
    one_within w (id_at w from.0) (λ id. after_moved w id to.0) h (λ id. with_kept w (placing id) (places_keep id) h)
other_within w (moves.Stay at) none h =
    one_within w (id_at w at.0) (λ id. with_collection w (placing id)) h (λ id. with_kept w (placing id) (places_keep id) h)
other_within w (moves.Splat holder cell) none h =
    one_within w (id_at w holder.0) (λ id. after_splat w id cell) h (λ id. splat_within w id cell h)
other_within w (moves.Post at) none h = absurd (false≢true none)
other_within w (moves.Commit at words pool) none h = h
other_within w (moves.Alloc at words pool) none h = h
other_within w (moves.Free at) none h = one_within w (id_at w at.0) (λ id. after_free w id at.0) h (λ id. free_within w id at.0 h)

others_within : (w : World) (ms : List Move) → list_all is_no_post ms ≡ true → RunsWithin w → RunsWithin (world_after_moves w ms)
others_within w [] none h = h
others_within w (m ∷ ms) none h =
    let parts = and_parts (is_no_post m) (list_all is_no_post ms) none in
    others_within (world_after_move w m) ms parts.1 (other_within w m parts.0 h)

-- a legal post takes a registration from before the flip, which was not examined yet
post_within : (w : World) (before : Option Move) (at : ℕ) → ForObjectAt w at (λ c id. IsLegalPost w c before id at) → RunsWithin w
    → RunsWithin (where_one w (id_at w at) (after_post w))
post_within w before at legal h =
    let b = for_both w.collection (id_at w at) (λ c id. IsLegalPost w c before id at) legal in
    let p = for_one _ (position_of_first w.graph.registered b.second) b.holds.registered in
    subst (λ o. RunsWithin (where_one w o (after_post w))) (sym b.is_second)
    (subst (λ o. OfRunning w.graph.objects (length (without_first w.graph.registered b.second))
    (option_map (posting b.second (registration_of w.graph b.second)) o)) (sym b.is_first)
    (posted b.first b.second p.0 p.1 p.2 (subst (OfRunning w.graph.objects (length w.graph.registered)) b.is_first h)))
  where
    posted : (c : Collection) (id position : ℕ) → position_of_first w.graph.registered id ≡ Some position → is_due c position ≡ true
        → IsWithin w.graph.objects (length w.graph.registered) c
        → IsWithin w.graph.objects (length (without_first w.graph.registered id)) (posting id (registration_of w.graph id) c)
    posted c id position e due within =
        let parts = and_parts (nat_le c.examined position) (nat_lt position c.registered_before) due in
        let below = ltb-true position c.registered_before parts.1 in
        let stands : registration_of w.graph id ≡ position = ap (λ o. option_map_or (λ (n : ℕ). n) o 0) e in
        let less = one_less w.graph.registered id position e in
        let registered = within.registered in
        record {
          condemned = within.condemned;
          examined = omega (arith, below, stands);
          registered = omega (arith, less, registered);
        }

move_within : (w : World) (before : Option Move) (m : Move) (next : Option Move) → IsLegalMove w before m next → RunsWithin w
    → RunsWithin (world_after_move w m)
move_within w before (moves.Post at) next legal h = post_within w before at.0 legal h
move_within w before (moves.Seg base grains pool generation) next legal h = other_within w (moves.Seg base grains pool generation) refl h
move_within w before (moves.Unseg base) next legal h = other_within w (moves.Unseg base) refl h
move_within w before (moves.Flip zones chain generation) next legal h = other_within w (moves.Flip zones chain generation) refl h
move_within w before moves.End next legal h = other_within w moves.End refl h
move_within w before (moves.Moved from to) next legal h = other_within w (moves.Moved from to) refl h
move_within w before (moves.Stay at) next legal h = other_within w (moves.Stay at) refl h
move_within w before (moves.Splat holder cell) next legal h = other_within w (moves.Splat holder cell) refl h
move_within w before (moves.Commit at words pool) next legal h = h
move_within w before (moves.Alloc at words pool) next legal h = h
move_within w before (moves.Free at) next legal h = other_within w (moves.Free at) refl h

pub running_in_steps : (w : World) (before : Option Move) (ms : List Move) → AreLegalMoves w before ms → RunsWithin w
    → RunsWithin (world_after_moves w ms)
running_in_steps w before [] legal h = h
running_in_steps w before (m ∷ ms) legal h =
    running_in_steps (world_after_move w m) (Some m) ms legal.1 (move_within w before m (first_move ms) legal.0 h)

-- ---- the moves of a step

none_posted : HoldsOfFrees is_no_post
none_posted = record { unseg = λ base. refl; free = λ at. refl; commit = λ at words pool. refl }

alloc_posts_none : (pool words : ℕ) (p : Placement) → list_all is_no_post (alloc_at pool words p) ≡ true
alloc_posts_none pool words (NewSegment grain grains) = refl
alloc_posts_none pool words (Place word) = refl
alloc_posts_none pool words (OverLimit held need limit) = refl
alloc_posts_none pool words (NoFreeRun need longest) = refl

named_alloc_posts_none : (w : World) (x : Checked (Numbered Pool)) (words : ℕ) → list_all is_no_post (moves_of_alloc w x words) ≡ true
named_alloc_posts_none w (Err why) words = refl
named_alloc_posts_none w (Ok p) words = alloc_posts_none p.number words (placement_of w (ForAlloc p.number words))

cache_alloc_posts_none : (w : World) (x : Checked (Numbered Cache)) (words : ℕ)
    → list_all is_no_post (moves_of_cache_alloc w x words) ≡ true
cache_alloc_posts_none w (Err why) words = refl
cache_alloc_posts_none w (Ok q) words = of_taken (taken_from q.value.classes words)
  where
    of_taken : (o : Option (ℕ × List CacheClass)) → list_all is_no_post (moves_if_not_taken w q.value.pool words o) ≡ true
    of_taken None = alloc_posts_none q.value.pool words (placement_of w (ForAlloc q.value.pool words))
    of_taken (Some taken) = refl

module _ (w : World) (h : RunsWithin w) where
  if_not_refused : (answer : Answer) (due ms : List Move) → list_all is_no_post due ≡ true → ms ≡ unless_refused answer due
      → RunsWithin (world_after_moves w ms)
  if_not_refused answer due ms none e =
      subst (λ (ns : List Move). RunsWithin (world_after_moves w ns)) (sym e) (of_answer (is_refused answer))
    where
      of_answer : (b : Bool) → RunsWithin (world_after_moves w (if b then [] else due))
      of_answer true = h
      of_answer false = others_within w due none h

  when_accepted : (answer : Answer) (due ms : List Move) → list_all is_no_post due ≡ true → ms ≡ if_accepted answer due
      → RunsWithin (world_after_moves w ms)
  when_accepted answer due ms none e =
      subst (λ (ns : List Move). RunsWithin (world_after_moves w ns)) (sym e) (of_answer (is_accepted answer))
    where
      of_answer : (b : Bool) → RunsWithin (world_after_moves w (if b then due else []))
      of_answer true = others_within w due none h
      of_answer false = h

  its_moves_within : (c : Call) (ms : List Move) (answer : Answer) → AreLegalMoves w None (moves_of_collector c ms)
      → AreMovesOf w c answer ms → RunsWithin (after_its_moves w c ms)
  its_moves_within (call.Reserve point head) ms answer legal due =
      let polled = world_after_moves w (moves_of_poll ms) in
      let there = running_in_steps w None (moves_of_poll ms) legal h in
      own_segment_taken RunsWithin polled there (λ s. there) (λ s n r. there) (own_segment ms) (number_named w point as_point)
  its_moves_within (call.Commit point target) ms answer legal due =
      when_accepted answer (moves_of_commit w (point_named w point)) ms (commit_passes is_no_post none_posted w (point_named w point)) due
  its_moves_within (call.Alloc pool words place) ms answer legal due =
      if_not_refused answer (moves_of_alloc w (pool_named w pool) words) ms (named_alloc_posts_none w (pool_named w pool) words) due
  its_moves_within (call.Free place) ms answer legal due =
      if_not_refused answer (moves_of_free w (block_place_in w place)) ms
      (place_passes is_no_post none_posted w (block_place_in w place)) due
  its_moves_within (call.CacheAlloc cache words place) ms answer legal due =
      if_not_refused answer (moves_of_cache_alloc w (cache_named w cache) words) ms
      (cache_alloc_posts_none w (cache_named w cache) words) due
  its_moves_within (call.CacheFree cache place) ms answer legal due =
      if_not_refused answer (moves_of_cache_free w (cache_named w cache) (block_place_in w place)) ms
      (cache_passes is_no_post none_posted w (cache_named w cache) (block_place_in w place)) due
  its_moves_within (call.CacheFlush cache) ms answer legal due =
      if_not_refused answer (moves_of_cache_flush w (cache_named w cache)) ms
      (flush_passes is_no_post none_posted w (cache_named w cache)) due
  its_moves_within (call.Pop pool frame) ms answer legal due =
      if_not_refused answer (moves_of_pop w (frames_named w pool) frame) ms
      (pop_passes is_no_post none_posted w (frames_named w pool) frame) due
  its_moves_within c ms answer legal due = running_in_steps w None ms legal h

asking_within : (units : Option ℕ) (v : World) → RunsWithin v → RunsWithin (asking units v)
asking_within None v h = h
asking_within (Some units) v h =
    with_kept v (λ c. record c { spent = c.spent + units })
    (record { condemned = λ c. refl; examined = λ c. refl; registered = λ c. refl }) h

-- ---- acts

-- one registration less, where it stood at a position
position_taken : (examined before position registrations : ℕ) → examined ≤ before → before ≤ registrations → position + 1 ≤ registrations
    → (without_position examined position ≤ without_position before position) × (without_position before position + 1 ≤ registrations)
position_taken examined before position registrations low high there =
    by_case (nat_lt position examined) refl (nat_lt position before) refl
  where
    by_case : (b : Bool) → nat_lt position examined ≡ b → (c : Bool) → nat_lt position before ≡ c
        → ((if b then examined - 1 else examined) ≤ (if c then before - 1 else before))
        × ((if c then before - 1 else before) + 1 ≤ registrations)
    by_case true e true f =
        let a = ltb-true position examined e in
        let b = ltb-true position before f in
        (omega (arith, low, a), omega (arith, high, b))
    by_case true e false f =
        let a = ltb-true position examined e in
        let b = ltb-false position before f in
        (omega (arith, low, a, b), omega (arith, there, b))
    by_case false e true f =
        let a = ltb-false position examined e in
        let b = ltb-true position before f in
        (omega (arith, a, b), omega (arith, high, b))
    by_case false e false f =
        let b = ltb-false position before f in
        (omega (arith, low), omega (arith, there, b))

module _ (v : World) (h : RunsWithin v) where
  abbrev registrations : ℕ
  registrations = length v.graph.registered

  -- other objects, where the collection and its registrations stay
  with_objects : (os : List Object) → ((id : ℕ) → is_auto v.graph.objects id ≡ true → is_auto os id ≡ true)
      → OfRunning os registrations v.collection
  with_objects os autos = still v.graph.objects os autos registrations registrations v.collection (omega arith) h

  change_within : {marked : Bool} {c : Call} {judged u : World} → Change marked c judged v u → RunsWithin u
  change_within {u = u} (CellsAre object change held write) = with_objects u.graph.objects (cells_changed v.graph object.number change)
  change_within {u = u} (BlockWordIs id k value) =
      with_objects u.graph.objects
      (auto_changed v.graph id (λ o. record o { body = body_with_word o.body k value }) (λ o. word_keeps k value o.body))
  change_within {u = u} (Allocated p words place at e of kind size found empty) =
      with_objects u.graph.objects (auto_more v.graph.objects (record { pool = p.number; body = Manual (replicate words 0) }))
  change_within {u = u} (BlockUncached name cache words into place id classes e is taken found empty) =
      with_objects u.graph.objects
      (auto_changed v.graph id (λ o. record o { body = body_cleared o.body }) (λ o. cleared_keeps o.body))
  change_within {u = u} (Committed name target p r slot e there found has lives) =
      with_objects u.graph.objects (auto_more v.graph.objects (committed_object p.value r))
  change_within {u = u} (Substituted name transform e is parked) =
      with_objects u.graph.objects
      (auto_mapped (object_substituted (pairs_of v.state transform)) (λ o. substituted_keeps (pairs_of v.state transform) o.body)
      v.graph.objects)
  change_within (Registered object held e) =
      let more = length-with_last v.graph.registered object.number in
      still v.graph.objects v.graph.objects (as_they_were v.graph.objects) registrations
      (length (with_last v.graph.registered object.number)) v.collection (omega (arith, more)) h
  change_within (Unregistered slot from object position e found is at) = of_collection v.collection h
    where
      less : length (without_first v.graph.registered object.number) + 1 ≡ registrations
      less = one_less v.graph.registered object.number position at

      of_collection : (o : Option Collection) → OfRunning v.graph.objects registrations o
          → OfRunning v.graph.objects (length (without_first v.graph.registered object.number))
          (option_map (without_registration position) o)
      of_collection None k = tt
      of_collection (Some c) k =
          let taken = position_taken c.examined c.registered_before position registrations k.examined k.registered
          (first_within v.graph.registered object.number position at) in
          let within = taken.1 in
          let left = less in
          record { condemned = k.condemned; examined = taken.0; registered = omega (arith, within, left) }
  change_within _ = h

-- ---- steps

pub running_after : (w : World) (s : Step) → RunsWithin w → IsLegalStep w s → RunsWithin (world_after w s)
running_after w s h legal =
    let v = moved_world w s.call s.moves in
    let judged = judged_world w s.call s.moves in
    let moved = asking_within (units_asked w s.call) (after_its_moves w s.call s.moves)
    (its_moves_within w h s.call s.moves s.answer legal.moves_are_legal legal.moves_are_due) in
    let u = world_from v (act (is_block s.answer) judged v s.call) in
    with_kept u (remembering (ids_of_client u.graph)) (record { condemned = λ c. refl; examined = λ c. refl; registered = λ c. refl })
    (for_world RunsWithin v (act (is_block s.answer) judged v s.call)
    (of_changes (is_block s.answer) judged v s.call (λ u change. change_within v moved change)) moved)

-- ---- as the fact of well-formed worlds has it

-- what is found in each element of a list holds of all
all_of_each : (test : ℕ → Bool) (ids : List ℕ) → ((id : ℕ) → contains ids id ≡ true → test id ≡ true) → All test ids
all_of_each test [] each = refl
all_of_each test (x ∷ xs) each =
    and_from (test x) (list_all test xs) (each x (or_left (x == x) (contains xs x) (eq-eqb x x refl)))
    (all_of_each test xs (λ id h. each id (or_right (x == id) (contains xs id) h)))

held_is_found : (base : Address) (s : Segment) (ss : List Segment) → IsAmong s ss → s.base ≡ base
    → is_some (find (λ (t : Segment). t.base == base) ss) ≡ true
held_is_found base s [] among e = absurd among
held_is_found base s (t ∷ ts) (inl same) e =
    ap (λ b. is_some (if b then Some t else find (λ (x : Segment). x.base == base) ts))
    (eq-eqb t.base base (ap (λ (x : Segment). x.base) same ∙ e))
held_is_found base s (t ∷ ts) (inr there) e =
    elim (t.base == base) as (λ b. is_some (if b then Some t else find (λ (x : Segment). x.base == base) ts) ≡ true) [
      | true ↦ refl
      | false ↦ held_is_found base s ts there e
    ]

pub right_running : (limit : ℕ) (w : World) → HasLayout limit w → RunsWithin w → SpendsWithin w
    → option_map_or (is_right_collection w) w.collection true ≡ true
right_running limit w laid runs spends = of_collection w.collection refl runs spends
  where
    of_collection : (o : Option Collection) → w.collection ≡ o → OfRunning w.graph.objects (length w.graph.registered) o
        → option_map_or (λ c. nat_le c.spent c.units) o true ≡ true → option_map_or (is_right_collection w) o true ≡ true
    of_collection None e h k = refl
    of_collection (Some c) e h k =
        let held = λ (base : Address). is_some (segment_at w base) in
        let spent = nat_le c.spent c.units in
        let registered = nat_le c.registered_before (length w.graph.registered) in
        let examined = nat_le c.examined c.registered_before in
        and_from (list_all (object_is is_automatic w) c.condemned)
        (list_all held c.condemned_segments && (examined && (registered && spent))) h.condemned
        (and_from (list_all held c.condemned_segments) (examined && (registered && spent))
        (all_of_each held c.condemned_segments (λ base there.
        let s = laid.condemned base (ap (λ x. contains (condemned_in x) base) e ∙ there) in
        held_is_found base s.0 w.segments s.1 s.2))
        (and_from examined (registered && spent) (le-leb c.examined c.registered_before h.examined)
        (and_from registered spent (le-leb c.registered_before (length w.graph.registered) h.registered) k)))
