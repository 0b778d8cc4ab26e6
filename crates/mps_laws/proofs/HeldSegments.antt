-- What moves do to the held segments: one that is taken fits below the limit and is of a pool and a generation that there are, and one that
-- is given back leaves the others.
use Rattle.std.proofs.Common.{◌≡◌, ◌∙◌, ℕ, zero, suc, ◌+◌, ◌<◌, ◌≤◌, Bool, true, false, refl, sym, ap, subst, List, [], ◌∷◌, map, length, Option, Some, None, Ok, Err, arith, min}
use Rattle.std.proofs.lemmas.Bool.{false≢true, true≢false, and_parts, and_from, ltb-false, lt-ltb, eq-eqb, or_left, or_right}
use Rattle.std.proofs.lemmas.List.Sums.{sum_by-cons}
use Rattle.std.proofs.lemmas.Option.{slice_get-map, slice_get_within}
use Rattle.std.specs.Prelude.{◌-◌, ◌||◌, ◌==◌, if◌then◌else◌, nat_lt, not, option_map, sum_by}
use Rattle.std.specs.List.{list_all}
use Rattle.std.specs.Option.{option_map_or}
use Rattle.mps_base.specs.Address.{Address, address_of_grain, grains_needed}
use Rattle.mps_base.specs.Generation.{target_generation}
use Rattle.mps_base.specs.Placement.{Placement, Place, NewSegment, OverLimit, NoFreeRun, run_placement}
use Rattle.mps_base.specs.Run.{Run, total}
use Rattle.mps_base.specs.Segment.{Segment, gaps_of, grains_of_segment, without_segment, words_of_segment}
use Rattle.mps_base.specs.declared.moves.Move.{Move}
use Rattle.mps_base.specs.declared.moves.Move.TheVariants as moves
use Rattle.mps_base.specs.declared.names.Name.{Name}
use Rattle.mps_base.specs.declared.names.Rank.TheVariants as rank
use Rattle.mps_model.specs.declared.call.Call.{Call}
use Rattle.mps_model.specs.declared.call.Call.TheVariants as call
use Rattle.mps_model.specs.Answer.{Answer, is_accepted, is_refused}
use Rattle.mps_model.specs.Graph.{Cache, CacheClass, Object, Point, entry_at, is_automatic}
use Rattle.mps_model.specs.World.{World, Pool, committed, covered, generation_of, generations_of, id_at, is_copying_pool, object_is, pool_at, pool_is, pool_of, tail_of, target_generation_for, with_tail, words_of}
use Rattle.mps_model.specs.WellFormed.{is_of_pool, is_right_cache, is_right_class}
use Rattle.mps_model.specs.Allocating.{Reserving, check_reserve}
use Rattle.mps_model.specs.Caches.{may_have_cache, taken_from}
use Rattle.mps_model.specs.Checked.{Checked, Numbered, as_point, block_place_in, cache_named, number_named, point_named, pool_named}
use Rattle.mps_model.specs.Effect.{after_free, after_moved, after_post, after_segment, after_splat, after_unseg, holding, placing, reclaiming, segment_base_of, segment_of_move, where_one, with_collection, without_object, world_after_move, world_after_moves}
use Rattle.mps_model.specs.Frames.{frames_named}
use Rattle.mps_model.specs.LegalMove.{AreLegalMoves, ForOne, IsLegalMove, IsLegalSegment, IsSegmentForMove, first_move}
use Rattle.mps_model.specs.Placement.{ForAlloc, ForReserve, new_segment_for, placement_at_point, placement_of}
use Rattle.mps_model.specs.Policy.{units_asked}
use Rattle.mps_model.specs.Step.{Step}
use Rattle.mps_model.specs.History.{AreMovesOf, IsLegalStep, after_its_moves, after_own_segment, alloc_at, asking, if_accepted, is_segment_taken, moved_world, moves_if_not_taken, moves_of_alloc, moves_of_cache_alloc, moves_of_cache_flush, moves_of_cache_free, moves_of_collector, moves_of_commit, moves_of_free, moves_of_poll, moves_of_pop, own_segment, rank_of_point, segment_of_reserve, segment_taken, segment_where_judged, unless_refused, with_buffer}
use Rattle.mps_changes.proofs.Checks.{cache_named-is}
use Rattle.mps_laws.proofs.Caches.{AreRightCaches}
use Rattle.mps_laws.proofs.ClientMoves.{HoldsOfFrees, cache_passes, commit_passes, flush_passes, place_passes, pop_passes}
use Rattle.mps_laws.proofs.Finding.{for_one, id_at-found}
use Rattle.mps_laws.proofs.LeftByActs.{owners}
use Rattle.mps_laws.proofs.Lookups.{there_is}
use Rattle.mps_laws.proofs.Positions.LegalMoves.{HasLayout, live_at, new_at_front}
use Rattle.mps_laws.proofs.Replays.ManualSteps.{new_in_gaps}
use Rattle.mps_laws.proofs.Replays.ReplayOfMoves.{move_replayed}
use Rattle.mps_laws.proofs.Replays.ReserveSteps.{new_for}
use Rattle.mps_laws.proofs.Sound.PoolsThere.{HasPools, IsPoolThere, all-at, move_leaves_pools, moves_leave_pools, named_pool, named_point}
use Rattle.mps_laws.proofs.Sound.SoundGraph.{each-at}
use Rattle.mps_laws.proofs.Sound.SoundReserves.{checked_reserve}

-- ---- what is taken

-- a segment that may be taken: there is room for it, and it is of a pool that there is and of one of its generations
pub record IsTaken (w : World) (s : Segment) : Type 0 where
  pub room : committed w + s.grains ≤ w.limit
  pub of_pool : is_of_pool w s ≡ true

-- what a placement counts as held
counted : (ss : List Segment) → total (map grains_of_segment ss) ≡ sum_by (λ (s : Segment). s.grains) ss
counted [] = refl
counted (s ∷ ss) =
    let rest = counted ss in
    let a = sum_by-cons (λ (r : Run). r.count) (grains_of_segment s) (map grains_of_segment ss) in
    let b = sum_by-cons (λ (t : Segment). t.grains) s ss in
    omega (arith, rest, a, b)

room_by : (grains commit : ℕ) (held : List Run) (need grain count : ℕ) (b : Bool) → nat_lt commit (total held + need) ≡ b
    → run_placement grains commit held need ≡ NewSegment grain count → total held + need ≤ commit
room_by grains commit held need grain count true e h =
    absurd (let g = rw e at h in let never : OverLimit (total held) need commit ≡ NewSegment grain count = g in cc)
room_by grains commit held need grain count false e h = ltb-false commit (total held + need) e

-- there is room for a segment of a placement
room_for : (w : World) (words grain grains : ℕ) → new_segment_for w words ≡ NewSegment grain grains → committed w + grains ≤ w.limit
room_for w words grain grains h =
    let held = map grains_of_segment w.segments in
    let need = grains_needed words in
    let room = room_by w.grains w.limit held need grain grains (nat_lt w.limit (total held + need)) refl h in
    let same : need ≡ grains =
    Rattle.mps_laws.proofs.Positions.Holding.need_of_placement w.grains w.limit held need grain grains h in
    let all = counted w.segments in
    omega (arith, room, same, all)

pool_there : (w : World) (pool : ℕ) → IsPoolThere w.pools pool → pool_is (λ kind. true) w pool ≡ true
pool_there w pool below =
    let p = there_is w.pools pool below in ap (λ o. option_map_or (λ (q : Pool). true) o false) p.1

-- a block moves to a generation of its pool
target_right : (generations : Option ℕ) (generation : ℕ)
    → (target_generation generations generation == 0
    || nat_lt (target_generation generations generation) (option_map_or (λ count. count) generations 0)) ≡ true
target_right None generation = refl
target_right (Some zero) generation =
    or_left (min (generation + 1) (0 - 1) == 0) (nat_lt (min (generation + 1) (0 - 1)) 0)
    (eq-eqb (min (generation + 1) (0 - 1)) 0 (omega arith))
target_right (Some (suc count)) generation =
    or_right (min (generation + 1) (suc count - 1) == 0) (nat_lt (min (generation + 1) (suc count - 1)) (suc count))
    (lt-ltb (min (generation + 1) (suc count - 1)) (suc count) (omega arith))

-- the first generation is one of each pool's
of_first : (w : World) (s : Segment) → IsPoolThere w.pools s.pool → s.generation ≡ 0 → is_of_pool w s ≡ true
of_first w s there first =
    and_from (pool_is (λ kind. true) w s.pool)
    (s.generation == 0 || nat_lt s.generation (option_map_or (λ count. count) (generations_of w s.pool) 0)) (pool_there w s.pool there)
    (or_left (s.generation == 0) (nat_lt s.generation (option_map_or (λ count. count) (generations_of w s.pool) 0))
    (eq-eqb s.generation 0 first))

pool_of_cache : (w : World) → AreRightCaches w → (name : Name) (q : Numbered Cache) → cache_named w name ≡ Ok q
    → IsPoolThere w.pools q.value.pool
pool_of_cache w caches name q e =
    let right = each-at (is_right_cache w) w.graph.caches q.number q.value caches (cache_named-is w name q e) in
    of_pool (pool_at w q.value.pool) refl
    (and_parts (pool_is may_have_cache w q.value.pool) (list_all (is_right_class w q.value.pool) q.value.classes) right).0
  where
    of_pool : (o : Option Pool) → pool_at w q.value.pool ≡ o → option_map_or (λ (p : Pool). may_have_cache p.kind) o false ≡ true
        → IsPoolThere w.pools q.value.pool
    of_pool None f g = absurd (false≢true g)
    of_pool (Some p) f g = slice_get_within w.pools q.value.pool p f

new_is_taken : (w : World) (words grain grains pool : ℕ) → new_segment_for w words ≡ NewSegment grain grains → IsPoolThere w.pools pool
    → IsTaken w (segment_of_move (address_of_grain grain) grains pool 0)
new_is_taken w words grain grains pool e there = record {
  room = room_for w words grain grains e;
  of_pool = of_first w (segment_of_move (address_of_grain grain) grains pool 0) there refl;
}

-- ---- the segment of a move

pool_of_object : (limit : ℕ) (w : World) (at id : ℕ) → HasLayout limit w → HasPools w → entry_at w.addresses id ≡ Some at
    → IsPoolThere w.pools (pool_of w id)
pool_of_object limit w at id laid pools e =
    let x = live_at limit w at id laid e in
    subst (λ (n : ℕ). n < length w.pools) (sym (ap (λ o. option_map_or (λ (y : Object). y.pool) o 0) x.there))
    (all-at (IsPoolThere w.pools) (owners w.graph) id x.object.pool pools.of_objects
    (slice_get-map (λ (o : Object). o.pool) w.graph.objects id ∙ ap (option_map (λ (o : Object). o.pool)) x.there))

taken_for : (limit : ℕ) (w : World) (base grains pool generation from to : ℕ) → HasLayout limit w → HasPools w
    → ForOne (id_at w from) (IsSegmentForMove w base grains pool generation to)
    → IsTaken w (segment_of_move base grains pool generation)
taken_for limit w base grains pool generation from to laid pools h =
    let f = for_one (IsSegmentForMove w base grains pool generation to) (id_at w from) h in
    let id = f.0 in
    let s = segment_of_move base grains pool generation in
    let new = new_at_front w (tail_of w (pool_of w id) (target_generation_for w id)) (words_of w id) base grains (f.2).placement in
    let there = pool_of_object limit w from id laid pools (id_at-found w from id f.1) in
    record {
      room = room_for w (words_of w id) new.0 grains new.1;
      of_pool =
          subst (λ (p : ℕ). is_of_pool w (segment_of_move base grains p generation) ≡ true) (sym (f.2).of_pool)
          (subst (λ (n : ℕ). is_of_pool w (segment_of_move base grains (pool_of w id) n) ≡ true) (sym (f.2).of_generation)
          (and_from (pool_is (λ kind. true) w (pool_of w id))
          (target_generation_for w id == 0
          || nat_lt (target_generation_for w id) (option_map_or (λ count. count) (generations_of w (pool_of w id)) 0))
          (pool_there w (pool_of w id) there) (target_right (generations_of w (pool_of w id)) (generation_of w id))));
    }

legal_is_taken : (limit : ℕ) (w : World) (base grains pool generation : ℕ) (next : Option Move) → HasLayout limit w → HasPools w
    → IsLegalSegment w base grains pool generation next → IsTaken w (segment_of_move base grains pool generation)
legal_is_taken limit w base grains pool generation (Some (moves.Moved from to)) laid pools h =
    taken_for limit w base grains pool generation from.0 to.0 laid pools h
legal_is_taken limit w base grains pool generation _ laid pools h = absurd h

-- ---- moves without a segment

abbrev takes_none : Move → Bool
takes_none m = not (is_segment_taken m)

none_taken : HoldsOfFrees takes_none
none_taken = record { unseg = λ base. refl; free = λ at. refl; commit = λ at words pool. refl }

-- ---- what moves keep

-- a fact of the held segments, the limit, the pools and the chains alone, which holds on after a segment was taken or given back
pub record IsOfSegments (Holds : World → Type 0) : Type 0 where
  pub alike : (w v : World) → v.segments ≡ w.segments → v.limit ≡ w.limit → v.pools ≡ w.pools → v.chains ≡ w.chains → Holds w → Holds v
  pub taken : (w : World) (s : Segment) → IsTaken w s → Holds w → Holds (holding w s)
  pub given_back : (w : World) (base : Address) → Holds w → Holds (record w { segments = without_segment w.segments base })

module _ (Holds : World → Type 0) (of : IsOfSegments Holds) where
  one_keeps : (w : World) (o : Option ℕ) (change : ℕ → World) → Holds w → ((id : ℕ) → Holds (change id)) → Holds (where_one w o change)
  one_keeps w None change h each = h
  one_keeps w (Some id) change h each = each id

  free_keeps : (w : World) (id at : ℕ) → Holds w → Holds (after_free w id at)
  free_keeps w id at h =
      elim (object_is is_automatic w id) as (λ b. Holds (if b then with_collection (without_object w id)
      (reclaiming (segment_base_of w at)) else without_object w id)) [
        | true ↦ of.alike w (with_collection (without_object w id) (reclaiming (segment_base_of w at))) refl refl refl refl h
        | false ↦ of.alike w (without_object w id) refl refl refl refl h
      ]

  segment_keeps : (w : World) (s : Segment) → IsTaken w s → Holds w → Holds (after_segment w s)
  segment_keeps w s taken h =
      elim (is_copying_pool w s.pool) as (λ b. Holds (if b then with_tail (holding w s) s.pool s.generation (words_of_segment s)
      else holding w s)) [
        | true ↦
            of.alike (holding w s) (with_tail (holding w s) s.pool s.generation (words_of_segment s)) refl refl refl refl
            (of.taken w s taken h)
        | false ↦ of.taken w s taken h
      ]

  other_keeps : (w : World) (m : Move) → takes_none m ≡ true → Holds w → Holds (world_after_move w m)
  other_keeps w (moves.Seg base grains pool generation) none h = absurd (true≢false (sym none))
  other_keeps w (moves.Unseg base) none h =
      of.alike (record w { segments = without_segment w.segments base.0 }) (after_unseg w base.0) refl refl refl refl
      (of.given_back w base.0 h)
  other_keeps w (moves.Flip zones chain generation) none h =
      of.alike w (world_after_move w (moves.Flip zones chain generation)) refl refl refl refl h
  other_keeps w moves.End none h = of.alike w (world_after_move w moves.End) refl refl refl refl h
  other_keeps w (moves.Moved from to) none h =
      one_keeps w (id_at w from.0) (λ id. after_moved w id to.0) h (λ id. of.alike w (after_moved w id to.0) refl refl refl refl h)
  other_keeps w (moves.Stay at) none h =
      one_keeps w (id_at w at.0) (λ id. with_collection w (placing id)) h (λ id.
      of.alike w (with_collection w (placing id)) refl refl refl refl h)
  other_keeps w (moves.Splat holder cell) none h =
      one_keeps w (id_at w holder.0) (λ id. after_splat w id cell) h (λ id. of.alike w (after_splat w id cell) refl refl refl refl h)
  other_keeps w (moves.Post at) none h =
      one_keeps w (id_at w at.0) (after_post w) h (λ id. of.alike w (after_post w id) refl refl refl refl h)
  other_keeps w (moves.Commit at words pool) none h = h
  other_keeps w (moves.Alloc at words pool) none h = h
  other_keeps w (moves.Free at) none h = one_keeps w (id_at w at.0) (λ id. after_free w id at.0) h (λ id. free_keeps w id at.0 h)

  others_keep : (w : World) (ms : List Move) → list_all takes_none ms ≡ true → Holds w → Holds (world_after_moves w ms)
  others_keep w [] none h = h
  others_keep w (m ∷ ms) none h =
      let parts = and_parts (takes_none m) (list_all takes_none ms) none in
      others_keep (world_after_move w m) ms parts.1 (other_keeps w m parts.0 h)

  -- ---- moves of the collector

  move_keeps : (limit : ℕ) (w : World) (before : Option Move) (m : Move) (next : Option Move) → HasLayout limit w → HasPools w
      → IsLegalMove w before m next → Holds w → Holds (world_after_move w m)
  move_keeps limit w before (moves.Seg base grains pool generation) next laid pools legal h =
      segment_keeps w (segment_of_move base.0 grains pool generation)
      (legal_is_taken limit w base.0 grains pool generation next laid pools legal) h
  move_keeps limit w before (moves.Unseg base) next laid pools legal h = other_keeps w (moves.Unseg base) refl h
  move_keeps limit w before (moves.Flip zones chain generation) next laid pools legal h =
      other_keeps w (moves.Flip zones chain generation) refl h
  move_keeps limit w before moves.End next laid pools legal h = other_keeps w moves.End refl h
  move_keeps limit w before (moves.Moved from to) next laid pools legal h = other_keeps w (moves.Moved from to) refl h
  move_keeps limit w before (moves.Stay at) next laid pools legal h = other_keeps w (moves.Stay at) refl h
  move_keeps limit w before (moves.Splat holder cell) next laid pools legal h = other_keeps w (moves.Splat holder cell) refl h
  move_keeps limit w before (moves.Post at) next laid pools legal h = other_keeps w (moves.Post at) refl h
  move_keeps limit w before (moves.Commit at words pool) next laid pools legal h = h
  move_keeps limit w before (moves.Alloc at words pool) next laid pools legal h = h
  move_keeps limit w before (moves.Free at) next laid pools legal h = other_keeps w (moves.Free at) refl h

  pub moves_keep : (limit : ℕ) (w : World) (before : Option Move) (ms : List Move) → HasLayout limit w → HasPools w
      → AreLegalMoves w before ms → Holds w → Holds (world_after_moves w ms)
  moves_keep limit w before [] laid pools legal h = h
  moves_keep limit w before (m ∷ ms) laid pools legal h =
      moves_keep limit (world_after_move w m) (Some m) ms (move_replayed limit w before m (first_move ms) 0 laid legal.0).layout
      ((move_leaves_pools w m).there pools) legal.1 (move_keeps limit w before m (first_move ms) laid pools legal.0 h)

  -- ---- moves of the client

  alloc_keeps : (w : World) (pool words : ℕ) → IsPoolThere w.pools pool → Holds w
      → Holds (world_after_moves w (alloc_at pool words (placement_of w (ForAlloc pool words))))
  alloc_keeps w pool words there h = of_placement (placement_of w (ForAlloc pool words)) refl
    where
      of_placement : (p : Placement) → placement_of w (ForAlloc pool words) ≡ p → Holds (world_after_moves w (alloc_at pool words p))
      of_placement (NewSegment grain grains) e =
          segment_keeps w (segment_of_move (address_of_grain grain) grains pool 0)
          (new_is_taken w words grain grains pool
          (new_in_gaps w (gaps_of (covered w) w.segments pool rank.Exact) words grain grains e) there) h
      of_placement (Place word) e = h
      of_placement (OverLimit held need limit) e = h
      of_placement (NoFreeRun need longest) e = h

  named_alloc_keeps : (w : World) (x : Checked (Numbered Pool)) (words : ℕ)
      → ((p : Numbered Pool) → x ≡ Ok p → IsPoolThere w.pools p.number) → Holds w → Holds (world_after_moves w (moves_of_alloc w x words))
  named_alloc_keeps w (Err why) words there h = h
  named_alloc_keeps w (Ok p) words there h = alloc_keeps w p.number words (there p refl) h

  cache_alloc_keeps : (w : World) (x : Checked (Numbered Cache)) (words : ℕ)
      → ((q : Numbered Cache) → x ≡ Ok q → IsPoolThere w.pools q.value.pool) → Holds w
      → Holds (world_after_moves w (moves_of_cache_alloc w x words))
  cache_alloc_keeps w (Err why) words there h = h
  cache_alloc_keeps w (Ok q) words there h = of_taken (taken_from q.value.classes words)
    where
      of_taken : (o : Option (ℕ × List CacheClass)) → Holds (world_after_moves w (moves_if_not_taken w q.value.pool words o))
      of_taken None = alloc_keeps w q.value.pool words (there q refl) h
      of_taken (Some taken) = h

  -- the own segment of a reserve
  own_keeps : (v : World) (name : Name) (head : ℕ) (ms : List Move) (number : Option ℕ) → HasPools v
      → own_segment ms ≡ segment_where_judged v name head → Holds v → Holds (after_own_segment v (own_segment ms) number)
  own_keeps v name head ms number pools e h =
      subst (λ (ns : List Move). Holds (after_own_segment v ns number)) (sym e) (of_check (check_reserve v name head) refl)
    where
      new_there : (r : Reserving) (o : Option Point) (words grain grains : ℕ)
          → option_map_or (λ p. placement_at_point v r.point.number p words) o (new_segment_for v words) ≡ NewSegment grain grains
          → new_segment_for v words ≡ NewSegment grain grains
      new_there r None words grain grains f = f
      new_there r (Some p) words grain grains f = new_for v r.point.number p words grain grains f

      with_own : (s : Segment) (n : ℕ) → IsTaken v (record s { rank = rank_of_point v n })
          → Holds (Rattle.mps_model.specs.History.with_segment_for_point v s n)
      with_own s n taken =
          let own = record s { rank = rank_of_point v n } in
          elim (is_copying_pool v s.pool) as (λ b. Holds (if b then record (holding v own) {
            point_memories = with_buffer v.point_memories n (words_of_segment s);
          } else holding v own)) [
            | true ↦
                of.alike (holding v own) (record (holding v own) {
                  point_memories = with_buffer v.point_memories n (words_of_segment s);
                }) refl refl refl refl (of.taken v own taken h)
            | false ↦ of.taken v own taken h
          ]

      of_number : (s : Segment) (o : Option ℕ) (base : Rattle.mps_base.specs.declared.address.Addr.Addr) (grains pool : ℕ)
          → ((n : ℕ) → IsTaken v (record (segment_of_move base.0 grains pool 0) { rank = rank_of_point v n }))
          → Holds (after_own_segment v (moves.Seg base grains pool 0 ∷ []) o)
      of_number s None base grains pool taken = h
      of_number s (Some n) base grains pool taken = with_own (segment_of_move base.0 grains pool 0) n (taken n)

      of_placement : (r : Reserving) → check_reserve v name head ≡ Ok r → (p : Placement)
          → placement_of v (ForReserve r.point.number (length r.cells)) ≡ p
          → Holds (after_own_segment v (segment_taken r.point.value.pool p) number)
      of_placement r f (NewSegment grain grains) g =
          let s = segment_of_move (address_of_grain grain) grains r.point.value.pool 0 in
          let there = named_point v name r.point pools (checked_reserve v name head r f).point in
          let new = new_there r (entry_at v.graph.points r.point.number) (length r.cells) grain grains g in
          of_number s number (Rattle.mps_model.specs.Flip.at_address (address_of_grain grain)) grains r.point.value.pool (λ n. record {
            room = room_for v (length r.cells) grain grains new;
            of_pool = of_first v (record s { rank = rank_of_point v n }) there refl;
          })
      of_placement r f (Place word) g = h
      of_placement r f (OverLimit held need limit) g = h
      of_placement r f (NoFreeRun need longest) g = h

      of_check : (x : Checked Reserving) → check_reserve v name head ≡ x
          → Holds (after_own_segment v (segment_of_reserve v x) number)
      of_check (Err why) f = h
      of_check (Ok r) f = of_placement r f (placement_of v (ForReserve r.point.number (length r.cells))) refl

  -- ---- the moves of a step

  if_not_refused : (w : World) (answer : Answer) (due ms : List Move) → ms ≡ unless_refused answer due → Holds w
      → Holds (world_after_moves w due) → Holds (world_after_moves w ms)
  if_not_refused w answer due ms e h k =
      subst (λ (ns : List Move). Holds (world_after_moves w ns)) (sym e) (of_answer (is_refused answer))
    where
      of_answer : (b : Bool) → Holds (world_after_moves w (if b then [] else due))
      of_answer true = h
      of_answer false = k

  when_accepted : (w : World) (answer : Answer) (due ms : List Move) → ms ≡ if_accepted answer due → Holds w
      → Holds (world_after_moves w due) → Holds (world_after_moves w ms)
  when_accepted w answer due ms e h k =
      subst (λ (ns : List Move). Holds (world_after_moves w ns)) (sym e) (of_answer (is_accepted answer))
    where
      of_answer : (b : Bool) → Holds (world_after_moves w (if b then due else []))
      of_answer true = k
      of_answer false = h

  module _ (limit : ℕ) (w : World) (laid : HasLayout limit w) (pools : HasPools w) (caches : AreRightCaches w) (h : Holds w) where
    none_keeps : (answer : Answer) (due ms : List Move) → list_all takes_none due ≡ true → ms ≡ unless_refused answer due
        → Holds (world_after_moves w ms)
    none_keeps answer due ms none e = if_not_refused w answer due ms e h (others_keep w due none h)

    its_moves_keep : (c : Call) (ms : List Move) (answer : Answer) → AreLegalMoves w None (moves_of_collector c ms)
        → AreMovesOf w c answer ms → Holds (after_its_moves w c ms)
    its_moves_keep (call.Reserve point head) ms answer legal due =
        own_keeps (world_after_moves w (moves_of_poll ms)) point head ms (number_named w point as_point)
        ((moves_leave_pools w (moves_of_poll ms)).there pools) due.segment
        (moves_keep limit w None (moves_of_poll ms) laid pools legal h)
    its_moves_keep (call.Commit point target) ms answer legal due =
        let these = moves_of_commit w (point_named w point) in
        when_accepted w answer these ms due h (others_keep w these (commit_passes takes_none none_taken w (point_named w point)) h)
    its_moves_keep (call.Alloc pool words place) ms answer legal due =
        if_not_refused w answer (moves_of_alloc w (pool_named w pool) words) ms due h
        (named_alloc_keeps w (pool_named w pool) words (named_pool w pool) h)
    its_moves_keep (call.Free place) ms answer legal due =
        none_keeps answer (moves_of_free w (block_place_in w place)) ms (place_passes takes_none none_taken w (block_place_in w place)) due
    its_moves_keep (call.CacheAlloc cache words place) ms answer legal due =
        if_not_refused w answer (moves_of_cache_alloc w (cache_named w cache) words) ms due h
        (cache_alloc_keeps w (cache_named w cache) words (pool_of_cache w caches cache) h)
    its_moves_keep (call.CacheFree cache place) ms answer legal due =
        none_keeps answer (moves_of_cache_free w (cache_named w cache) (block_place_in w place)) ms
        (cache_passes takes_none none_taken w (cache_named w cache) (block_place_in w place)) due
    its_moves_keep (call.CacheFlush cache) ms answer legal due =
        none_keeps answer (moves_of_cache_flush w (cache_named w cache)) ms (flush_passes takes_none none_taken w (cache_named w cache)) due
    its_moves_keep (call.Pop pool frame) ms answer legal due =
        none_keeps answer (moves_of_pop w (frames_named w pool) frame) ms
        (pop_passes takes_none none_taken w (frames_named w pool) frame) due
    its_moves_keep c ms answer legal due = moves_keep limit w None ms laid pools legal h

    asking_keeps : (units : Option ℕ) (v : World) → Holds v → Holds (asking units v)
    asking_keeps None v k = k
    asking_keeps (Some units) v k = of.alike v (asking (Some units) v) refl refl refl refl k

    -- the world in which a call takes effect
    pub moved_keeps : (s : Step) → IsLegalStep w s → Holds (moved_world w s.call s.moves)
    moved_keeps s legal =
        asking_keeps (units_asked w s.call) (after_its_moves w s.call s.moves)
        (its_moves_keep s.call s.moves s.answer legal.moves_are_legal legal.moves_are_due)
