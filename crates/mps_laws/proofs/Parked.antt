-- In each world that a legal history reaches no collection runs in a parked arena, and the objects in pairs of transforms are automatic.
use Rattle.std.proofs.Common.{◌≡◌, ◌∙◌, ◌⊎◌, ℕ, ◌+◌, Bool, true, false, true≢false, refl, sym, ap, subst, List, [], ◌∷◌, Option, Some, None, Ok, Err, inl, inr, length, append-nil}
use Rattle.std.proofs.lemmas.Bool.{false≢true, or_parts, and_from, and_parts}
use Rattle.std.proofs.lemmas.Option.{none-some, same_Some, slice_get-map}
use Rattle.std.specs.Prelude.{MatchBool, if◌then◌else◌, is_some, not, ◌&&◌, ◌||◌, map, nat_le, option_map, slice_get}
use Rattle.std.specs.List.{list_any, list_all, flat_map}
use Rattle.std.specs.Option.{option_map_or}
use Rattle.mps_base.specs.Segment.{Segment, words_of_segment}
use Rattle.mps_base.specs.declared.moves.Move.{Move}
use Rattle.mps_base.specs.declared.moves.Move.TheVariants as moves
use Rattle.mps_base.specs.declared.refusal.Refusal.{Refusal}
use Rattle.mps_base.specs.declared.refusal.Refusal.TheVariants as refusal
use Rattle.mps_model.specs.declared.call.Call.{Call}
use Rattle.mps_model.specs.declared.call.Call.TheVariants as call
use Rattle.mps_model.proofs.Cutting.{world_after_moves-append}
use Rattle.mps_model.specs.Answer.{Answer, is_block, is_refused}
use Rattle.mps_model.specs.Collection.{Collection}
use Rattle.mps_model.specs.Collecting.{act_start, act_start_chain, without_registration}
use Rattle.mps_model.specs.Graph.{Object, Body, Automatic, Manual, ids_in_slots, ids_of_client, is_automatic, is_automatic_body, object_at, with_last}
use Rattle.mps_model.specs.World.{World, Pool, ArenaState, Unclamped, Clamped, Parked, TransformPair, id_at, ids_in_pairs, ids_of_pair, is_automatic_kind, is_copying_pool, is_weak_kind, is_parked, is_parked_state, is_running, is_unclamped, is_unclamped_state, object_is, pairs_in, pool_at, with_tail}
use Rattle.mps_model.specs.WellFormed.{is_right_body, are_right_cells}
use Rattle.mps_model.specs.Checked.{Act, Checked, Numbered, as_point, block_place_in, cache_named, chain_named, number_named, point_named, pool_named, refuse_when, slot_in}
use Rattle.mps_model.specs.Allocating.{Reserving, check_reserve, allows_size}
use Rattle.mps_model.specs.Transforms.{state_without_pairs}
use Rattle.mps_model.specs.Effect.{Everything, after_free, after_moved, after_post, after_splat, holding, placing, reclaiming, segment_base_of, segment_of_move, where_one, with_collection, without_object, world_after_move, world_after_moves}
use Rattle.mps_model.specs.Flip.{flip_act}
use Rattle.mps_model.specs.Policy.{is_place, polls_for, units_asked}
use Rattle.mps_model.specs.Placement.{ForReserve, placement_of}
use Rattle.mps_model.specs.Reply.{act, answer_from, reply_to, world_from}
use Rattle.mps_model.specs.Step.{Step}
use Rattle.mps_model.specs.Units.{AreUnitsToEnd}
use Rattle.mps_model.specs.Frames.{frames_named}
use Rattle.mps_model.specs.History.{IsLegalStep, AreMovesOf, AreMovesOfCollect, FinishesCollection, IsPoll, after_its_moves, after_own_segment, asking, flip_act_of_chain, judged_world, moved_world, moves_of_poll, own_segment, remembering, segment_of_found, unless_refused, with_client_remembered, world_after}
use Rattle.mps_changes.specs.Change.{AsideIs, StateIs, ParkedAnew, ParkedOn, PairAdded, TransformDropped, Change, Aside, Substituted, ForAct, accepted, refused, IsInSlot}
use Rattle.mps_changes.proofs.ActChanges.{act_changes_so, of_changes}
use Rattle.mps_changes.proofs.Checks.{after_check, andthen}
use Rattle.mps_laws.specs.Staying.{is_flip}
use Rattle.mps_laws.proofs.Acts.{for_world}
use Rattle.mps_laws.proofs.Entries.{GoesOn, slice_get-there}
use Rattle.mps_laws.proofs.FoundBy.{object_found, slot_found}
use Rattle.mps_laws.proofs.Flipping.{HasNone, are_units_none, finished_none, get_none, no_moves, none_moving, where_due}
use Rattle.mps_laws.proofs.LeftByActs.{Leaves, act_leaves, owners}
use Rattle.mps_laws.proofs.OwnSegments.{own_segment_taken}
use Rattle.mps_laws.proofs.Positions.Occupancy.{Shape, shape_of}
use Rattle.mps_laws.proofs.Positions.OwnMoves.{is_moving, commit_moves_none, alloc_moves_none, free_moves_none, cache_alloc_moves_none, cache_free_moves_none, cache_flush_moves_none, pop_moves_none}
use Rattle.mps_laws.proofs.SameArena.{IsLeftAlone, moved_alone}
use Rattle.mps_laws.proofs.Sound.SoundGraph.{All, PassesOrNull, IsSoundGraph, all-last, all-weaker, auto, entry-passes}
use Rattle.mps_laws.proofs.Sound.SoundActs.{table_passes}
use Rattle.mps_laws.proofs.Sound.Substituting.{others_pass}

-- ---- the ends of collections

not_false : (b : Bool) → not b ≡ true → b ≡ false
not_false true h = absurd (true≢false (sym h))
not_false false h = refl

pub finished : (w : World) (ms : List Move) → FinishesCollection w ms → is_running (world_after_moves w ms) ≡ false
finished w ms ends = by_case (is_running w) refl ends
  where
    by_case : (b : Bool) → is_running w ≡ b
        → MatchBool b (AreUnitsToEnd w ms) (ms ≡ []) → is_running (world_after_moves w ms) ≡ false
    by_case true e ends = not_false (is_running (world_after_moves w ms)) ends.1
    by_case false e none = ap (λ ms. is_running (world_after_moves w ms)) none ∙ e

pub collect_ends : (w : World) (ms : List Move) → AreMovesOfCollect w ms → is_running (world_after_moves w ms) ≡ false
collect_ends w ms due =
    let v = world_after_moves w due.earlier in
    ap (λ ms. is_running (world_after_moves w ms)) due.both
    ∙ ap is_running (world_after_moves-append w due.earlier due.full)
    ∙ ap (λ ms. is_running (world_after_moves v ms)) due.is_full.whole
    ∙ ap is_running (world_after_moves-append v (flip_act v Everything) due.is_full.later)
    ∙ finished (world_after_moves v (flip_act v Everything)) due.is_full.later due.is_full.later_ends

pub remembered_runs : (held : List ℕ) (c : Option Collection) → is_some (option_map (remembering held) c) ≡ is_some c
remembered_runs held None = refl
remembered_runs held (Some c) = refl

-- ---- moves without a flip begin no collection

none_yet : (change : Collection → Collection) (c : Option Collection) → is_some c ≡ false → is_some (option_map change c) ≡ false
none_yet change None rests = refl
none_yet change (Some c) rests = absurd (true≢false rests)

one_rests : (w : World) (o : Option ℕ) (change : ℕ → World) → is_running w ≡ false → ((id : ℕ) → is_running (change id) ≡ false)
    → is_running (where_one w o change) ≡ false
one_rests w None change rests each = rests
one_rests w (Some id) change rests each = each id

segment_rests : (w : World) (s : Segment) (b : Bool) → is_running w ≡ false
    → is_running (if b then with_tail (holding w s) s.pool s.generation (words_of_segment s) else holding w s) ≡ false
segment_rests w s true rests = rests
segment_rests w s false rests = rests

free_rests : (w : World) (id at : ℕ) (b : Bool) → is_running w ≡ false
    → is_running (if b then with_collection (without_object w id) (reclaiming (segment_base_of w at)) else without_object w id) ≡ false
free_rests w id at true rests = none_yet (reclaiming (segment_base_of w at)) w.collection rests
free_rests w id at false rests = rests

move_rests : (w : World) (m : Move) → is_flip m ≡ false → is_running w ≡ false → is_running (world_after_move w m) ≡ false
move_rests w (moves.Seg base grains pool generation) none rests =
    let s = segment_of_move base.0 grains pool generation in segment_rests w s (is_copying_pool w s.pool) rests
move_rests w (moves.Unseg base) none rests = none_yet _ w.collection rests
move_rests w (moves.Flip zones chain generation) none rests = absurd (true≢false none)
move_rests w moves.End none rests = refl
move_rests w (moves.Moved from to) none rests =
    one_rests w (id_at w from.0) (λ id. after_moved w id to.0) rests (λ id. none_yet _ w.collection rests)
move_rests w (moves.Stay at) none rests =
    one_rests w (id_at w at.0) (λ id. with_collection w (placing id)) rests (λ id. none_yet _ w.collection rests)
move_rests w (moves.Splat holder cell) none rests =
    one_rests w (id_at w holder.0) (λ id. after_splat w id cell) rests (λ id. none_yet _ w.collection rests)
move_rests w (moves.Post at) none rests = one_rests w (id_at w at.0) (after_post w) rests (λ id. none_yet _ w.collection rests)
move_rests w (moves.Commit at words pool) none rests = rests
move_rests w (moves.Alloc at words pool) none rests = rests
move_rests w (moves.Free at) none rests =
    one_rests w (id_at w at.0) (λ id. after_free w id at.0) rests (λ id. free_rests w id at.0 (object_is is_automatic w id) rests)

moves_rest : (w : World) (ms : List Move) → HasNone ms → is_running w ≡ false → is_running (world_after_moves w ms) ≡ false
moves_rest w [] none rests = rests
moves_rest w (m ∷ ms) none rests =
    let parts = or_parts (is_flip m) (list_any is_flip ms) none in
    moves_rest (world_after_move w m) ms parts.1 (move_rests w m parts.0 rests)

-- ---- the moves of a call in a parked arena

-- a call that begins a collection by itself
abbrev begins : Call → Bool
begins call.Start = true
begins (call.StartChain chain generation) = true
begins call.Collect = true
begins _ = false

polls_unclamped : (w : World) (r : Checked Reserving) → is_parked w ≡ true → polls_for w r ≡ false
polls_unclamped w (Err why) parked = refl
polls_unclamped w (Ok r) parked =
    ap (λ b. b && not (is_place (placement_of w (ForReserve r.point.number (length r.cells))))) (not_unclamped w.state parked)
  where
    not_unclamped : (s : ArenaState) → is_parked_state s ≡ true → is_unclamped_state s ≡ false
    not_unclamped Unclamped h = absurd (false≢true h)
    not_unclamped Clamped h = refl
    not_unclamped (Parked pairs) h = refl

module _ (w : World) (parked : is_parked w ≡ true) (rests : is_running w ≡ false) where
  own_rests : (u : World) (ms : List Move) (point : Option ℕ) → is_running u ≡ false → is_running (after_own_segment u ms point) ≡ false
  own_rests u ms point still =
      own_segment_taken (λ x. is_running x ≡ false) u still (λ s. still) (λ s n r. still) ms point

  call_rests : (c : Call) (answer : Answer) (ms : List Move) → begins c ≡ false → AreMovesOf w c answer ms
      → is_running (after_its_moves w c ms) ≡ false
  call_rests (call.Reserve point head) answer ms plain due =
      own_rests (world_after_moves w (moves_of_poll ms)) (own_segment ms) (number_named w point as_point)
      (ap (λ ns. is_running (world_after_moves w ns))
      (subst (λ b. MatchBool b (IsPoll w (moves_of_poll ms)) (moves_of_poll ms ≡ []))
      (polls_unclamped w (check_reserve w point head) parked) due.poll) ∙ rests)
  call_rests (call.Commit point target) answer ms plain due =
      moves_rest w ms (none_moving ms (ap (list_any is_moving) due ∙ commit_moves_none w answer (point_named w point))) rests
  call_rests (call.Alloc pool words place) answer ms plain due =
      moves_rest w ms (none_moving ms (ap (list_any is_moving) due ∙ alloc_moves_none w answer (pool_named w pool) words)) rests
  call_rests (call.Free place) answer ms plain due =
      moves_rest w ms (none_moving ms (ap (list_any is_moving) due ∙ free_moves_none w answer (block_place_in w place))) rests
  call_rests (call.CacheAlloc cache words place) answer ms plain due =
      moves_rest w ms (none_moving ms (ap (list_any is_moving) due ∙ cache_alloc_moves_none w answer (cache_named w cache) words)) rests
  call_rests (call.CacheFree cache place) answer ms plain due =
      moves_rest w ms
      (none_moving ms (ap (list_any is_moving) due ∙ cache_free_moves_none w answer (cache_named w cache) (block_place_in w place))) rests
  call_rests (call.CacheFlush cache) answer ms plain due =
      moves_rest w ms (none_moving ms (ap (list_any is_moving) due ∙ cache_flush_moves_none w answer (cache_named w cache))) rests
  call_rests (call.Pop pool frame) answer ms plain due =
      moves_rest w ms (none_moving ms (ap (list_any is_moving) due ∙ pop_moves_none w answer (frames_named w pool) frame)) rests
  call_rests (call.Get target source cell) answer ms plain due =
      moves_rest w ms
      (where_due (is_running w && not (is_refused answer)) ms (get_none w (segment_of_found w (slot_in w source)) ms) due) rests
  call_rests call.Start answer ms plain due = absurd (true≢false plain)
  call_rests (call.StartChain chain oldest) answer ms plain due = absurd (true≢false plain)
  call_rests (call.Step units) answer ms plain due =
      moves_rest w ms
      (where_due (is_unclamped w && is_running w) ms (are_units_none w units ms) due) rests
  call_rests call.Collect answer ms plain due = absurd (true≢false plain)
  call_rests call.Park answer ms plain due = moves_rest w ms (finished_none w ms due) rests
  call_rests _ answer ms plain due = moves_rest w ms (no_moves ms due) rests

-- ---- acts

abbrev parks : Call → Bool
parks call.Collect = true
parks call.Park = true
parks _ = false

without_parked : (s : ArenaState) (transform : ℕ) → is_parked_state (state_without_pairs s transform) ≡ true → is_parked_state s ≡ true
without_parked Unclamped transform h = h
without_parked Clamped transform h = h
without_parked (Parked pairs) transform h = refl

-- a parked arena was parked before, unless the call parks it
abbrev WasParked : Call → (v u : World) → Type 0
WasParked c v u = is_parked u ≡ true → (is_parked v ≡ true) ⊎ (parks c ≡ true)

aside_parked : {marked : Bool} {c : Call} {judged v u : World} → AsideIs marked c judged v u → WasParked c v u
aside_parked (StateIs state unparked) h = absurd (true≢false (sym h ∙ unparked))
aside_parked (ParkedAnew e) h = inr (ap parks e)
aside_parked (ParkedOn e) h = inr (ap parks e)
aside_parked (PairAdded transform old new first second parked) h = inl parked
aside_parked {v = v} (TransformDropped name transform is) h = inl (without_parked v.state transform h)
aside_parked _ h = inl h

change_parked : {marked : Bool} {c : Call} {judged v u : World} → Change marked c judged v u → WasParked c v u
change_parked (Aside u what) h = aside_parked what h
change_parked (Substituted name transform e is parked) h = inl parked
change_parked _ h = inl h

act_parked : (marked : Bool) (judged v : World) (c : Call) → ForAct (WasParked c v) (act marked judged v c)
act_parked marked judged v c = of_changes marked judged v c (λ u change. change_parked change)

-- whether a collection runs isn't changed by an act
act_runs : (c : Call) (v : World) (x : Checked Act) → ForAct (Leaves c v) x → is_running (world_from v x) ≡ is_running v
act_runs c v (Ok a) (accepted leaves) = of_left leaves.collection
  where
    same : (position : ℕ) (o : Option Collection)
        → is_some (option_map (without_registration position) o) ≡ is_some o
    same position None = refl
    same position (Some x) = refl

    of_left : (a.world.collection ≡ v.collection)
        ⊎ ((position : ℕ) × (a.world.collection ≡ option_map (without_registration position) v.collection))
        → is_running a.world ≡ is_running v
    of_left (inl e) = ap is_some e
    of_left (inr (position, e)) = ap is_some e ∙ same position v.collection
act_runs c v (Err why) refused = refl

asked_runs : (units : Option ℕ) (w : World) → is_running (asking units w) ≡ is_running w
asked_runs None w = refl
asked_runs (Some units) w = of_collection w.collection
  where
    of_collection : (o : Option Collection)
        → is_some (option_map (λ (c : Collection). record c { spent = c.spent + units }) o) ≡ is_some o
    of_collection None = refl
    of_collection (Some c) = refl

-- ---- steps

-- no collection runs in a parked arena
abbrev pub RestsWhenParked : World → Type 0
RestsWhenParked w = is_parked w ≡ true → is_running w ≡ false

module _ (w : World) (s : Step) where
  abbrev moved : World
  moved = moved_world w s.call s.moves

  abbrev judged : World
  judged = judged_world w s.call s.moves

  abbrev result : Checked Act
  result = act (is_block s.answer) judged moved s.call

  abbrev after : World
  after = with_client_remembered (world_from moved result)

  runs_as : is_running after ≡ is_running (after_its_moves w s.call s.moves)
  runs_as =
      remembered_runs (ids_of_client (world_from moved result).graph) (world_from moved result).collection
      ∙ act_runs s.call moved result (act_leaves (is_block s.answer) judged moved s.call)
      ∙ asked_runs (units_asked w s.call) (after_its_moves w s.call s.moves)

module _ (w : World) (ms : List Move) (answer : Answer) (before : RestsWhenParked w) where
  -- a call that begins a collection and then leaves the arena parked was refused
  start_rests : (v : World) (x : Checked Act) → ForAct (λ u. is_parked u ≡ false) x → v.state ≡ w.state
      → ((why : Refusal) → x ≡ Err why → ms ≡ []) → is_parked (world_from v x) ≡ true → is_running (world_after_moves w ms) ≡ false
  start_rests v (Ok a) (accepted unparked) same none h = absurd (true≢false (sym h ∙ unparked))
  start_rests v (Err why) refused same none h =
      ap (λ ns. is_running (world_after_moves w ns)) (none why refl) ∙ before (ap is_parked_state (sym same) ∙ h)

  parked_by : (c : Call) → is_parked (world_from (moved_world w c ms) (act (is_block answer) (judged_world w c ms) (moved_world w c ms) c))
      ≡ true → (is_parked w ≡ true) ⊎ (parks c ≡ true)
  parked_by c h =
      let v = moved_world w c ms in
      elim (for_world (WasParked c v) v (act (is_block answer) (judged_world w c ms) v c)
      (act_parked (is_block answer) (judged_world w c ms) v c) (λ k. inl k) h) [
        | inl k ↦ inl (ap is_parked_state (sym (moved_alone w c ms).state) ∙ k)
        | inr k ↦ inr k
      ]

  of_call : (c : Call) → AreMovesOf w c answer ms
      → answer ≡ reply_to (is_block answer) (judged_world w c ms) (moved_world w c ms) c
      → is_parked (world_from (moved_world w c ms) (act (is_block answer) (judged_world w c ms) (moved_world w c ms) c)) ≡ true
      → is_running (after_its_moves w c ms) ≡ false
  of_call call.Start due said h =
      let v = world_after_moves w ms in
      start_rests v (act_start w v) (after_check (refuse_when (is_running w) refusal.Running) (accepted refl))
      (moved_alone w call.Start ms).state
      (λ why e. due ∙ ap (λ a. unless_refused a (flip_act w Everything)) (said ∙ ap answer_from e)) h
  of_call (call.StartChain chain oldest) due said h =
      let v = world_after_moves w ms in
      start_rests v (act_start_chain w v chain oldest)
      (andthen (chain_named w chain) (λ (on : Numbered (List ℕ)).
      after_check (refuse_when (nat_le (length on.value) oldest) refusal.BadIndex)
      (after_check (refuse_when (is_running w) refusal.Running) (accepted refl))))
      (moved_alone w (call.StartChain chain oldest) ms).state
      (λ why e. due ∙ ap (λ a. unless_refused a (flip_act_of_chain w (chain_named w chain) oldest)) (said ∙ ap answer_from e)) h
  of_call call.Collect due said h = collect_ends w ms due
  of_call call.Park due said h = finished w ms due
  of_call c due said h = elim (parked_by c h) [
    | inl k ↦ call_rests w k (before k) c answer ms refl due
    | inr k ↦ absurd (false≢true k)
  ]

pub step_rests : (w : World) (s : Step) → RestsWhenParked w → IsLegalStep w s → RestsWhenParked (world_after w s)
step_rests w s before legal h = runs_as w s ∙ of_call w s.moves s.answer before s.call legal.moves_are_due legal.answer_is_due h

-- ---- the objects in pairs

pub none_there : (s : ArenaState) → is_parked_state s ≡ false → ids_in_pairs s ≡ []
none_there Unclamped h = refl
none_there Clamped h = refl
none_there (Parked pairs) h = absurd (true≢false h)

-- the ids of one pair more
one_more_pair : (test : ℕ → Bool) (pairs : List TransformPair) (p : TransformPair) → All test (flat_map ids_of_pair pairs)
    → test p.old ≡ true → test p.new ≡ true → All test (flat_map ids_of_pair (with_last pairs p))
one_more_pair test pairs p h old new =
    all-last test ids_of_pair pairs p h (and_from (test p.old) (test p.new && true) old (and_from (test p.new) true new refl))

module _ (v : World) (test : ℕ → Bool) (h : All test (ids_in_pairs v.state)) where
  in_slot : (object : Numbered Object) → IsInSlot v object → All test (ids_in_slots v.graph) → test object.number ≡ true
  in_slot object held passes =
      let o = object_found v held.from.value object held.is in
      let t = slot_found v held.slot held.from held.there in
      subst (PassesOrNull test) o.0
      (entry-passes test held.from.list held.from.index held.from.value
      (table_passes test v.graph.tables held.from.number held.from.list passes t.0) t.1)

  pub aside_pairs : {marked : Bool} {c : Call} {judged u : World} → AsideIs marked c judged v u → All test (ids_in_slots v.graph)
      → All test (ids_in_pairs u.state)
  aside_pairs (StateIs state unparked) passes = ap (list_all test) (none_there state unparked)
  aside_pairs (ParkedAnew e) passes = refl
  aside_pairs (ParkedOn e) passes = h
  aside_pairs (PairAdded transform old new first second parked) passes =
      one_more_pair test (pairs_in v.state) (record { transform = transform; old = old.number; new = new.number }) h
      (in_slot old first passes) (in_slot new second passes)
  aside_pairs (TransformDropped name transform is) passes = others_pass test v.state transform h
  aside_pairs _ passes = h

  change_pairs : {marked : Bool} {c : Call} {judged u : World} → Change marked c judged v u → All test (ids_in_slots u.graph)
      → All test (ids_in_pairs u.state)
  change_pairs (Aside u what) passes = aside_pairs what passes
  change_pairs (Substituted name transform e is parked) passes = others_pass test v.state transform h
  change_pairs _ passes = h

  act_pairs : {marked : Bool} {c : Call} {judged : World} (x : Checked Act) → ForAct (Change marked c judged v) x
      → All test (ids_in_slots (world_from v x).graph) → All test (ids_in_pairs (world_from v x).state)
  act_pairs _ (accepted change) passes = change_pairs change passes
  act_pairs _ refused passes = h

-- ---- objects stay automatic

still_at : {X : Type 0} (before later : List X) → GoesOn before later → (n : ℕ) (x : X) → slice_get before n ≡ Some x
    → slice_get later n ≡ Some x
still_at before later more n x e = ap (λ xs. slice_get xs n) more.1 ∙ slice_get-there before more.0 n x e

automatic_kind : (w : World) (p : Pool) (b : Body) → is_automatic_body b ≡ true → is_right_body w p b ≡ true
    → is_automatic_kind p.kind ≡ true
automatic_kind w p (Automatic head cells is_weak) h right =
    (and_parts (is_automatic_kind p.kind) (are_right_cells w p head cells)
    (and_parts (is_automatic_kind p.kind && are_right_cells w p head cells) (not is_weak || is_weak_kind p.kind) right).0).0
automatic_kind w p (Manual words) h right = absurd (false≢true h)

automatic_body : (w : World) (p : Pool) (b : Body) → is_automatic_kind p.kind ≡ true → is_right_body w p b ≡ true
    → is_automatic_body b ≡ true
automatic_body w p (Automatic head cells is_weak) kind right = refl
automatic_body w p (Manual words) kind right =
    absurd (false≢true (sym (ap not kind) ∙ (and_parts (not (is_automatic_kind p.kind)) (allows_size p.kind (length words)) right).0))

-- from one world to another in which no pool and no object is lost
module _ (v u : World) (s : IsSoundGraph v) (t : IsSoundGraph u) (owned : GoesOn (owners v.graph) (owners u.graph))
    (pools : GoesOn v.pools u.pools) where
  auto_stays : (id : ℕ) → auto v id ≡ true → auto u id ≡ true
  auto_stays id h = of_object (object_at v.graph id) refl h
    where
      in_pool : (o : Object) (p : Pool) → object_at v.graph id ≡ Some o → pool_at v o.pool ≡ Some p → is_automatic_kind p.kind ≡ true
          → (x : Option Object) → object_at u.graph id ≡ x → auto u id ≡ true
      in_pool o p e f kind None g =
          absurd (none-some o.pool (sym (ap (option_map (λ (y : Object). y.pool)) g)
          ∙ sym (slice_get-map (λ (y : Object). y.pool) u.graph.objects id)
          ∙ still_at (owners v.graph) (owners u.graph) owned id o.pool
          (slice_get-map (λ (y : Object). y.pool) v.graph.objects id ∙ ap (option_map (λ (y : Object). y.pool)) e)))
      in_pool o p e f kind (Some o') g =
          let same : o'.pool ≡ o.pool =
          same_Some o'.pool o.pool (sym (ap (option_map (λ (y : Object). y.pool)) g)
          ∙ sym (slice_get-map (λ (y : Object). y.pool) u.graph.objects id)
          ∙ still_at (owners v.graph) (owners u.graph) owned id o.pool
          (slice_get-map (λ (y : Object). y.pool) v.graph.objects id ∙ ap (option_map (λ (y : Object). y.pool)) e)) in
          let there : pool_at u o'.pool ≡ Some p = ap (pool_at u) same ∙ still_at v.pools u.pools pools o.pool p f in
          ap (λ x. option_map_or is_automatic x false) g
          ∙ automatic_body u p o'.body kind
          (ap (λ x. option_map_or (λ q. is_right_body u q o'.body) x false) (sym there) ∙ t.objects id o' g)

      of_pool : (o : Object) → object_at v.graph id ≡ Some o → is_automatic o ≡ true → (x : Option Pool) → pool_at v o.pool ≡ x
          → option_map_or (λ p. is_right_body v p o.body) x false ≡ true → auto u id ≡ true
      of_pool o e k None f right = absurd (false≢true right)
      of_pool o e k (Some p) f right = in_pool o p e f (automatic_kind v p o.body k right) (object_at u.graph id) refl

      of_object : (x : Option Object) → object_at v.graph id ≡ x → option_map_or is_automatic x false ≡ true → auto u id ≡ true
      of_object None e k = absurd (false≢true k)
      of_object (Some o) e k =
          of_pool o e k (pool_at v o.pool) refl (s.objects id o e)

owners_of_shapes : (os : List Object) → map (λ (s : Shape). s.pool) (map shape_of os) ≡ map (λ (o : Object). o.pool) os
owners_of_shapes [] = refl
owners_of_shapes (o ∷ os) = ap (λ ns. o.pool ∷ ns) (owners_of_shapes os)

goes_on : (c : Call) (v : World) (x : Checked Act) → ForAct (Leaves c v) x
    → GoesOn (owners v.graph) (owners (world_from v x).graph) × GoesOn v.pools (world_from v x).pools
goes_on c v (Ok a) (accepted leaves) = (leaves.owned, leaves.pools)
goes_on c v (Err why) refused = (([], sym (append-nil (owners v.graph))), ([], sym (append-nil v.pools)))

pub pairs_after : (w : World) (s : Step) → IsSoundGraph w → IsSoundGraph (world_after w s) → All (auto w) (ids_in_pairs w.state)
    → All (auto (world_after w s)) (ids_in_pairs (world_after w s).state)
pairs_after w s sound sound_after h =
    act_pairs v (auto u) (subst (λ a. All (auto u) (ids_in_pairs a)) (sym alone.state)
    (all-weaker (auto w) (auto u) stays (ids_in_pairs w.state) h)) result
    (act_changes_so (is_block s.answer) (judged_world w s.call s.moves) v s.call) sound_after.slots
  where
    v : World
    v = moved_world w s.call s.moves

    result : Checked Act
    result = act (is_block s.answer) (judged_world w s.call s.moves) v s.call

    u : World
    u = with_client_remembered (world_from v result)

    alone : IsLeftAlone w v
    alone = moved_alone w s.call s.moves

    on : GoesOn (owners v.graph) (owners (world_from v result).graph) × GoesOn v.pools (world_from v result).pools
    on = goes_on s.call v result (act_leaves (is_block s.answer) (judged_world w s.call s.moves) v s.call)

    same : owners v.graph ≡ owners w.graph
    same = sym (owners_of_shapes v.graph.objects) ∙ ap (map (λ (x : Shape). x.pool)) alone.shapes ∙ owners_of_shapes w.graph.objects

    stays : (id : ℕ) → auto w id ≡ true → auto u id ≡ true
    stays =
        auto_stays w u sound sound_after (subst (λ os. GoesOn os (owners u.graph)) same on.0)
        (subst (λ ps. GoesOn ps u.pools) alone.pools on.1)
