-- The law of replay for steps that make and free manual blocks.
use Rattle.std.proofs.Common.{◌≡◌, ◌∙◌, ℕ, ◌<◌, Bool, true, false, refl, sym, ap, List, [], Option, Some, None, Ok, Err, subst, arith}
use Rattle.std.proofs.lemmas.Bool.{false≢true, and_parts, leb-true}
use Rattle.std.proofs.lemmas.List.{length-replicate}
use Rattle.std.specs.Prelude.{map, option_and_then, slice_get, not, replicate, nat_le, ◌==◌, is_some, if◌then◌else◌}
use Rattle.std.specs.Option.{option_map_or}
use Rattle.mps_base.specs.Address.{Address, word_of, address_of_word, address_of_grain, grains_needed}
use Rattle.mps_base.specs.Placement.{Placement, Place, NewSegment, OverLimit, NoFreeRun}
use Rattle.mps_base.specs.Run.{Run, lowest_fitting}
use Rattle.mps_base.specs.Segment.{words_of_segment, gaps_of}
use Rattle.mps_base.specs.declared.moves.Move.{Move}
use Rattle.mps_base.specs.declared.names.Name.{Name}
use Rattle.mps_base.specs.declared.names.Rank.TheVariants as rank
use Rattle.mps_base.specs.declared.names.Slot.{Slot}
use Rattle.mps_base.specs.declared.refusal.Refusal.{Refusal}
use Rattle.mps_base.specs.declared.refusal.Refusal.TheVariants as refusal
use Rattle.mps_model.specs.declared.call.Call.TheVariants as call
use Rattle.mps_model.specs.Answer.{Answer}
use Rattle.mps_model.specs.Graph.{Cache, CacheClass, Manual, thing_in, with_last}
use Rattle.mps_model.specs.World.{World, Pool, PoolKind, Collected, OneSize, AnySize, Frames, covered, is_automatic_kind, is_copying_pool, pool_at, with_tail}
use Rattle.mps_model.specs.Checked.{Act, Checked, Found, Numbered, ◌>>=◌, ◌>>◌, required, refuse_when, done, numbered, as_cache, cache_named, pool_named, block_place_in, with_graph}
use Rattle.mps_model.specs.Caches.{act_cache_alloc, act_taken, graph_uncached, taken_from}
use Rattle.mps_model.specs.Making.{is_block_size}
use Rattle.mps_model.specs.Allocating.{act_alloc, allows_size, graph_allocated, refuse_without_place, address_of_placement, world_allocated}
use Rattle.mps_model.specs.Placement.{ForAlloc, placement_of, placement_in_gaps, new_segment_for}
use Rattle.mps_model.specs.Effect.{world_after_moves, after_segment, holding, segment_of_move}
use Rattle.mps_model.specs.LegalMove.{IsPlaceAt}
use Rattle.mps_model.specs.Reply.{answer_from, world_from}
use Rattle.mps_model.specs.Log.{records_of, records_of_step}
use Rattle.mps_model.specs.Replay.{Store, replay_from, after_making}
use Rattle.mps_model.specs.History.{world_after, alloc_at, moves_if_not_taken, moves_of_alloc, moves_of_cache_alloc, unless_refused}
use Rattle.mps_laws.proofs.Lookups.{map-with_last}
use Rattle.mps_laws.proofs.Positions.Occupancy.{Shape, shape_of, occupancy_of}
use Rattle.mps_laws.proofs.Positions.LaidOut.{IsLaidOut, IsRightShape}
use Rattle.mps_laws.proofs.Replays.Blocks.{replay-made}
use Rattle.mps_laws.proofs.Positions.Covered.{covered-shapes}
use Rattle.mps_laws.proofs.Positions.Gaps.{room_in_gap}
use Rattle.mps_laws.proofs.Positions.Holding.{fresh_unoccupied}
use Rattle.mps_laws.proofs.Positions.LegalMoves.{HasLayout, IsReplayed, blocks_of, no_place, fresh_segment, exact_ranked}
use Rattle.mps_laws.proofs.Positions.Making.{IsRoom, block_laid_out, room_free}
use Rattle.mps_laws.proofs.Sound.PoolKinds.{manual_not_copying}
use Rattle.mps_laws.proofs.Positions.Segments.{among_new}
use Rattle.mps_changes.proofs.ActChanges.{sized_is_manual}
use Rattle.mps_laws.proofs.Acts.{cleared_kept, pool_named-is, shapes_kept}
use Rattle.mps_laws.proofs.SameArena.{moved_alone}
use Rattle.mps_laws.proofs.Replays.Steps.{acted_step, as_replayed}

-- ---- what an alloc comes to

data AllocCase (w v : World) (pool : Name) (words : ℕ) : Checked Act → Type 0 where
  is_refusal : (why : Refusal) → AllocCase w v pool words (Err why)
  makes : (p : Numbered Pool) (place : Found (Option ℕ)) → pool_named w pool ≡ Ok p → is_automatic_kind p.value.kind ≡ false
      → allows_size p.value.kind words ≡ true → refuse_without_place (placement_of w (ForAlloc p.number words)) ≡ Ok tt
      → AllocCase w v pool words (done (record v {
        graph = graph_allocated v.graph p.number words place;
        addresses = with_last v.addresses (Some (address_of_placement (placement_of w (ForAlloc p.number words))));
      }))

module _ (w v : World) (pool : Name) (words : ℕ) where
  abbrev made_at : Numbered Pool → Found (Option ℕ) → Checked Act
  made_at p place = done (record v {
    graph = graph_allocated v.graph p.number words place;
    addresses = with_last v.addresses (Some (address_of_placement (placement_of w (ForAlloc p.number words))));
  })

  alloc_placed : (p : Numbered Pool) (place : Found (Option ℕ)) (x : Checked (Unit {0})) → pool_named w pool ≡ Ok p
      → is_automatic_kind p.value.kind ≡ false → allows_size p.value.kind words ≡ true
      → refuse_without_place (placement_of w (ForAlloc p.number words)) ≡ x → AllocCase w v pool words (x >> made_at p place)
  alloc_placed p place (Err why) e a s f = is_refusal why
  alloc_placed p place (Ok u) e a s f = makes p place e a s f

  alloc_sized : (p : Numbered Pool) (place : Found (Option ℕ)) (b c : Bool) → pool_named w pool ≡ Ok p
      → is_automatic_kind p.value.kind ≡ false
      → allows_size p.value.kind words ≡ b
      → AllocCase w v pool words (refuse_when (not b) refusal.BadSize
      >> (refuse_when c refusal.NameTaken >> (refuse_without_place (placement_of w (ForAlloc p.number words)) >> made_at p place)))
  alloc_sized p place false c e a s = is_refusal refusal.BadSize
  alloc_sized p place true true e a s = is_refusal refusal.NameTaken
  alloc_sized p place true false e a s = alloc_placed p place (refuse_without_place (placement_of w (ForAlloc p.number words))) e a s refl

  alloc_in : (p : Numbered Pool) (x : Checked (Found (Option ℕ))) → pool_named w pool ≡ Ok p → is_automatic_kind p.value.kind ≡ false
      → AllocCase w v pool words (x >>= (λ place. refuse_when (not (allows_size p.value.kind words)) refusal.BadSize
      >> (refuse_when (is_some place.value) refusal.NameTaken >>
      (refuse_without_place (placement_of w (ForAlloc p.number words)) >> made_at p place))))
  alloc_in p (Err why) e a = is_refusal why
  alloc_in p (Ok place) e a = alloc_sized p place (allows_size p.value.kind words) (is_some place.value) e a refl

  alloc_manual : (p : Numbered Pool) (into : Slot) (b : Bool) → pool_named w pool ≡ Ok p → is_automatic_kind p.value.kind ≡ b
      → AllocCase w v pool words (refuse_when b refusal.WrongPool >> (block_place_in w into >>= (λ place.
      refuse_when (not (allows_size p.value.kind words)) refusal.BadSize
      >> (refuse_when (is_some place.value) refusal.NameTaken >>
      (refuse_without_place (placement_of w (ForAlloc p.number words)) >> made_at p place)))))
  alloc_manual p into true e a = is_refusal refusal.WrongPool
  alloc_manual p into false e a = alloc_in p (block_place_in w into) e a

  alloc_case : (into : Slot) → AllocCase w v pool words (act_alloc w v pool words into)
  alloc_case into = of_pool (pool_named w pool) refl
    where
      of_pool : (x : Checked (Numbered Pool)) → pool_named w pool ≡ x
          → AllocCase w v pool words (x >>= (λ p. refuse_when (is_automatic_kind p.value.kind) refusal.WrongPool >>
          (block_place_in w into >>= (λ place.
          refuse_when (not (allows_size p.value.kind words)) refusal.BadSize
          >> (refuse_when (is_some place.value) refusal.NameTaken
          >> (refuse_without_place (placement_of w (ForAlloc p.number words)) >> made_at p place))))))
      of_pool (Err why) e = is_refusal why
      of_pool (Ok p) e = alloc_manual p into (is_automatic_kind p.value.kind) e refl

some_words : (k : PoolKind) (words : ℕ) → allows_size k words ≡ true → 0 < words
some_words (Collected kind) words h = absurd (false≢true h)
some_words (OneSize size) words h =
    let parts = and_parts (is_block_size words) (words == size) h in
    let sized = and_parts (nat_le 1 words) (nat_le words 65536) parts.0 in
    (let some = leb-true 1 words sized.0 in omega (arith, some))
some_words AnySize words h =
    let sized = and_parts (nat_le 1 words) (nat_le words 65536) h in (let some = leb-true 1 words sized.0 in omega (arith, some))
some_words Frames words h =
    let sized = and_parts (nat_le 1 words) (nat_le words 65536) h in (let some = leb-true 1 words sized.0 in omega (arith, some))

-- ---- a manual block is made

pub place_in_gaps : (w : World) (free : List Run) (words word : ℕ) → placement_in_gaps w free words ≡ Place word
    → lowest_fitting words free ≡ Some word
place_in_gaps w free words word e = of_one (lowest_fitting words free) refl e
  where
    place_is : (a b : ℕ) → Place a ≡ Place b → a ≡ b
    place_is a b f = cc

    of_one : (o : Option ℕ) → lowest_fitting words free ≡ o → option_map_or Place o (new_segment_for w words) ≡ Place word
        → lowest_fitting words free ≡ Some word
    of_one None f h =
        absurd (no_place w words (address_of_word word) (subst (λ p. IsPlaceAt p (address_of_word word)) (sym h) refl))
    of_one (Some n) f h = f ∙ ap Some (place_is n word h)

pub new_in_gaps : (w : World) (free : List Run) (words grain grains : ℕ) → placement_in_gaps w free words ≡ NewSegment grain grains
    → new_segment_for w words ≡ NewSegment grain grains
new_in_gaps w free words grain grains e = of_one (lowest_fitting words free) e
  where
    of_one : (o : Option ℕ) → option_map_or Place o (new_segment_for w words) ≡ NewSegment grain grains
        → new_segment_for w words ≡ NewSegment grain grains
    of_one None h = h
    of_one (Some n) h = absurd (cc)

module _ (limit : ℕ) (w : World) (p : Numbered Pool) (words : ℕ) (some : 0 < words) where
  -- n words of the pool
  abbrev block_shape : Shape
  block_shape = record { pool = p.number; words = words; is_weak = false }

  right_block : (w' : World) → IsRightShape w'.pools block_shape
  right_block w' = record { some = some; weak = λ h. absurd (false≢true h) }

  abbrev made_in : World → Found (Option ℕ) → Address → World
  made_in v place at = record v {
    graph = graph_allocated v.graph p.number words place;
    addresses = with_last v.addresses (Some at);
  }

  made_is : (v : World) (place : Found (Option ℕ)) (at : Address)
      → occupancy_of (made_in v place at) ≡ record (occupancy_of v) {
        shapes = with_last (map shape_of v.graph.objects) block_shape;
        addresses = with_last v.addresses (Some at);
      }
  made_is v place at =
      ap (λ ss. record (occupancy_of (made_in v place at)) { shapes = ss })
      (map-with_last shape_of v.graph.objects (record { pool = p.number; body = Manual (replicate words 0) }))
      ∙ ap (λ n. record (occupancy_of v) {
        shapes = with_last (map shape_of v.graph.objects) (record { pool = p.number; words = n; is_weak = false });
        addresses = with_last v.addresses (Some at);
      }) (length-replicate words 0)

  -- a block is made where there is room for it
  made_where : (v : World) (place : Found (Option ℕ)) (at : Address) (laid : HasLayout limit v)
      → IsRoom limit (occupancy_of v) laid block_shape at (right_block v)
      → IsReplayed limit v (made_in v place at) (after_making (blocks_of (occupancy_of v)) at words p.number)
  made_where v place at laid room = record {
    layout =
        subst (IsLaidOut limit) (sym (made_is v place at)) (block_laid_out limit (occupancy_of v) laid block_shape at (right_block v) room);
    blocks =
        replay-made (map shape_of v.graph.objects) v.addresses block_shape at laid.lengths
        (room_free limit (occupancy_of v) laid block_shape at (right_block v) room)
        ∙ ap (λ g. Some (blocks_of g)) (sym (made_is v place at));
  }

  -- in a gap
  made_in_gap : (place : Found (Option ℕ)) (word : ℕ) → HasLayout limit w → is_copying_pool w p.number ≡ false
      → placement_of w (ForAlloc p.number words) ≡ Place word
      → IsReplayed limit w (made_in w place (address_of_word word))
      (after_making (blocks_of (occupancy_of w)) (address_of_word word) words p.number)
  made_in_gap place word laid manual is =
      let found = place_in_gaps w (gaps_of (covered w) w.segments p.number rank.Exact) words word is in
      let room = room_in_gap limit (occupancy_of w) laid p.number rank.Exact words word some manual
      (ap (λ c. lowest_fitting words (gaps_of c w.segments p.number rank.Exact)) (sym (covered-shapes w)) ∙ found) in
      let at : word_of (address_of_word word) ≡ word = omega arith in
      made_where w place (address_of_word word) laid (record {
        segment = room.segment;
        held = room.held;
        of_pool = room.of_pool;
        of_rank = room.of_rank;
        above = omega (arith, room.above, at);
        below = omega (arith, room.below, at);
        unoccupied = λ o n c d. room.unoccupied o n c (omega (arith, d.0, at)) (omega (arith, d.1, at));
      })

  -- in a new segment
  made_in_segment : (place : Found (Option ℕ)) (grain grains : ℕ) → HasLayout limit w → is_copying_pool w p.number ≡ false
      → placement_of w (ForAlloc p.number words) ≡ NewSegment grain grains
      → IsReplayed limit w (made_in (after_segment w (segment_of_move (address_of_grain grain) grains p.number 0)) place
      (address_of_grain grain))
      (after_making (blocks_of (occupancy_of w)) (address_of_grain grain) words p.number)
  made_in_segment place grain grains laid manual is =
      let base = address_of_grain grain in
      let s = segment_of_move base grains p.number 0 in
      let new = new_in_gaps w (gaps_of (covered w) w.segments p.number rank.Exact) words grain grains is in
      let fresh = fresh_segment limit w words grain grains p.number 0 base laid some new refl in
      let counted = Rattle.mps_laws.proofs.Positions.Holding.need_of_placement w.grains w.limit
      (map Rattle.mps_base.specs.Segment.grains_of_segment w.segments) (grains_needed words) grain grains new in
      let held = Rattle.mps_laws.proofs.Positions.Holding.held_laid_out limit (occupancy_of w) s laid fresh
      (exact_ranked w base grains p.number 0) in
      let a = fresh.aligned in
      let at : word_of base ≡ (words_of_segment s).from = refl in
      let made = made_where (holding w s) place base held (record {
        segment = s;
        held = among_new s w.segments;
        of_pool = refl;
        of_rank = refl;
        above = omega arith;
        below = omega (arith, counted);
        unoccupied = λ o n c d. fresh_unoccupied limit (occupancy_of w) s laid fresh o n c
            (omega (arith, d.0), omega (arith, d.1, counted));
      }) in
      subst (λ b. IsReplayed limit w (made_in (if b then with_tail (holding w s) s.pool s.generation (words_of_segment s)
      else holding w s) place base)
      (after_making (blocks_of (occupancy_of w)) base words p.number)) (sym manual)
      (record { layout = made.layout; blocks = made.blocks })

  then_one : (v v' : World) (store : Option Store) → IsReplayed limit v v' store
      → IsReplayed limit v v' (option_and_then (λ s. Some s) store)
  then_one v v' store r = record { layout = r.layout; blocks = ap (λ o. option_and_then (λ s. Some s) o) r.blocks }

  -- at its placement, with the moves that tell it
  pub made_at_placement : (line : ℕ) (place : Found (Option ℕ)) (q : Placement) → HasLayout limit w → is_copying_pool w p.number ≡ false
      → placement_of w (ForAlloc p.number words) ≡ q → refuse_without_place q ≡ Ok tt
      → IsReplayed limit w (made_in (world_after_moves w (alloc_at p.number words q)) place (address_of_placement q))
      (replay_from (blocks_of (occupancy_of w)) (records_of (alloc_at p.number words q) line))
  made_at_placement line place (Place word) laid manual is room =
      then_one w (made_in w place (address_of_word word)) (after_making (blocks_of (occupancy_of w)) (address_of_word word) words p.number)
      (made_in_gap place word laid manual is)
  made_at_placement line place (NewSegment grain grains) laid manual is room =
      then_one w (made_in (after_segment w (segment_of_move (address_of_grain grain) grains p.number 0)) place (address_of_grain grain))
      (after_making (blocks_of (occupancy_of w)) (address_of_grain grain) words p.number)
      (made_in_segment place grain grains laid manual is)
  made_at_placement line place (OverLimit committed need most) laid manual is room = absurd (cc)
  made_at_placement line place (NoFreeRun need longest) laid manual is room = absurd (cc)

module _ (limit pools line : ℕ) (w : World) (laid : HasLayout limit w) where
  alloc_replayed : (pool : Name) (words : ℕ) (ms : List Move) (x : Checked Act) → AllocCase w (world_after_moves w ms) pool words x
      → ms ≡ unless_refused (answer_from x) (moves_of_alloc w (pool_named w pool) words)
      → IsReplayed limit w (world_from (world_after_moves w ms) x) (replay_from (blocks_of (occupancy_of w)) (records_of ms line))
  alloc_replayed pool words ms (Err _) (is_refusal why) due =
      subst (λ (ns : List Move). IsReplayed limit w (world_after_moves w ns)
      (replay_from (blocks_of (occupancy_of w)) (records_of ns line))) (sym due)
      (record { layout = laid; blocks = refl })
  alloc_replayed pool words ms (Ok _) (makes p place e a s f) due =
      let q = placement_of w (ForAlloc p.number words) in
      let is : ms ≡ alloc_at p.number words q = due ∙ ap (λ x. moves_of_alloc w x words) e in
      let some = some_words p.value.kind words s in
      subst (λ (ns : List Move). IsReplayed limit w (record (world_after_moves w ns) {
        graph = graph_allocated (world_after_moves w ns).graph p.number words place;
        addresses = with_last (world_after_moves w ns).addresses (Some (address_of_placement q));
      }) (replay_from (blocks_of (occupancy_of w)) (records_of ns line))) (sym is)
      (made_at_placement limit w p words some line place q laid
      (manual_not_copying w.pools p.number p.value (pool_named-is w pool p e) a) refl f)

  pub alloc_step : (pool : Name) (words : ℕ) (into : Slot) (ms : List Move) (answer : Answer)
      → ms ≡ unless_refused answer (moves_of_alloc w (pool_named w pool) words)
      → answer ≡ answer_from (act_alloc w (world_after_moves w ms) pool words into)
      → IsReplayed limit w (world_after w (record { line = line; call = call.Alloc pool words into; moves = ms; answer = answer }))
      (replay_from (blocks_of (occupancy_of w)) (records_of_step pools
      (record { line = line; call = call.Alloc pool words into; moves = ms; answer = answer })))
  alloc_step pool words into ms answer due is =
      acted_step limit pools line w (call.Alloc pool words into) ms answer
      (alloc_replayed pool words ms (act_alloc w (world_after_moves w ms) pool words into)
      (alloc_case w (world_after_moves w ms) pool words into)
      (due ∙ ap (λ b. unless_refused b (moves_of_alloc w (pool_named w pool) words)) is))

-- ---- a block from a cache

-- what it comes to
data TakeCase (w v : World) (cache : Name) (words : ℕ) : Checked Act → Type 0 where
  no_block : (why : Refusal) → TakeCase w v cache words (Err why)
  takes : (q : Numbered Cache) (place : Found (Option ℕ)) (taken : ℕ × List CacheClass) → cache_named v cache ≡ Ok q
      → taken_from q.value.classes words ≡ Some taken
      → TakeCase w v cache words (done (with_graph v (graph_uncached v.graph q taken.1 place taken.0)))
  makes_new : (q : Numbered Cache) (p : Pool) (place : Found (Option ℕ)) → cache_named v cache ≡ Ok q → pool_at w q.value.pool ≡ Some p
      → allows_size p.kind words ≡ true → taken_from q.value.classes words ≡ None
      → refuse_without_place (placement_of w (ForAlloc q.value.pool words)) ≡ Ok tt
      → TakeCase w v cache words (done (world_allocated w v q.value.pool words place))

module _ (w v : World) (cache : Name) (words : ℕ) where
  take_placed : (q : Numbered Cache) (p : Pool) (place : Found (Option ℕ)) (x : Checked (Unit {0})) → cache_named v cache ≡ Ok q
      → pool_at w q.value.pool ≡ Some p → allows_size p.kind words ≡ true → taken_from q.value.classes words ≡ None
      → refuse_without_place (placement_of w (ForAlloc q.value.pool words)) ≡ x
      → TakeCase w v cache words (x >> done (world_allocated w v q.value.pool words place))
  take_placed q p place (Err why) e f s n g = no_block why
  take_placed q p place (Ok u) e f s n g = makes_new q p place e f s n g

  take_class : (q : Numbered Cache) (p : Pool) (place : Found (Option ℕ)) (o : Option (ℕ × List CacheClass)) → cache_named v cache ≡ Ok q
      → pool_at w q.value.pool ≡ Some p → allows_size p.kind words ≡ true → taken_from q.value.classes words ≡ o
      → TakeCase w v cache words (act_taken w v q words place o)
  take_class q p place (Some taken) e f s n = takes q place taken e n
  take_class q p place None e f s n =
      take_placed q p place (refuse_without_place (placement_of w (ForAlloc q.value.pool words))) e f s n refl

  take_sized : (q : Numbered Cache) (p : Pool) (place : Found (Option ℕ)) (b c : Bool) → cache_named v cache ≡ Ok q
      → pool_at w q.value.pool ≡ Some p → allows_size p.kind words ≡ b
      → TakeCase w v cache words (refuse_when (not b) refusal.BadSize
      >> (refuse_when c refusal.NameTaken >> act_taken w v q words place (taken_from q.value.classes words)))
  take_sized q p place false c e f s = no_block refusal.BadSize
  take_sized q p place true true e f s = no_block refusal.NameTaken
  take_sized q p place true false e f s = take_class q p place (taken_from q.value.classes words) e f s refl

  take_in : (q : Numbered Cache) (p : Pool) (x : Checked (Found (Option ℕ))) → cache_named v cache ≡ Ok q
      → pool_at w q.value.pool ≡ Some p
      → TakeCase w v cache words (x >>= (λ place. refuse_when (not (allows_size p.kind words)) refusal.BadSize
      >> (refuse_when (is_some place.value) refusal.NameTaken >> act_taken w v q words place (taken_from q.value.classes words))))
  take_in q p (Err why) e f = no_block why
  take_in q p (Ok place) e f = take_sized q p place (allows_size p.kind words) (is_some place.value) e f refl

  take_pool : (q : Numbered Cache) (into : Slot) (o : Option Pool) → cache_named v cache ≡ Ok q → pool_at w q.value.pool ≡ o
      → TakeCase w v cache words (required o refusal.BadName >>= (λ p. block_place_in v into >>= (λ place.
      refuse_when (not (allows_size p.kind words)) refusal.BadSize
      >> (refuse_when (is_some place.value) refusal.NameTaken >> act_taken w v q words place (taken_from q.value.classes words)))))
  take_pool q into None e f = no_block refusal.BadName
  take_pool q into (Some p) e f = take_in q p (block_place_in v into) e f

  take_case : (into : Slot) → TakeCase w v cache words (act_cache_alloc w v cache words into)
  take_case into = of_cache (cache_named v cache) refl
    where
      of_cache : (x : Checked (Numbered Cache)) → cache_named v cache ≡ x
          → TakeCase w v cache words (x >>= (λ q. required (pool_at w q.value.pool) refusal.BadName >>= (λ p.
          block_place_in v into >>= (λ place. refuse_when (not (allows_size p.kind words)) refusal.BadSize
          >> (refuse_when (is_some place.value) refusal.NameTaken
          >> act_taken w v q words place (taken_from q.value.classes words))))))
      of_cache (Err why) e = no_block why
      of_cache (Ok q) e = take_pool q into (pool_at w q.value.pool) e refl

-- moves leave what a cache's name means
pub same_cache : (w : World) (ms : List Move) (cache : Name) → cache_named (world_after_moves w ms) cache ≡ cache_named w cache
same_cache w ms cache =
    let alone = moved_alone w call.Park ms in
    ap (λ names. required (option_and_then as_cache (thing_in names cache)) refusal.BadName
    >>= (λ number. numbered number (slice_get (world_after_moves w ms).graph.caches number))) alone.names
    ∙ ap (λ caches. required (option_and_then as_cache (thing_in w.graph.names cache)) refusal.BadName
    >>= (λ number. numbered number (slice_get caches number))) alone.caches

module _ (limit pools line : ℕ) (w : World) (laid : HasLayout limit w) where
  take_replayed : (cache : Name) (words : ℕ) (ms : List Move) (x : Checked Act) → TakeCase w (world_after_moves w ms) cache words x
      → ms ≡ unless_refused (answer_from x) (moves_of_cache_alloc w (cache_named w cache) words)
      → IsReplayed limit w (world_from (world_after_moves w ms) x) (replay_from (blocks_of (occupancy_of w)) (records_of ms line))
  take_replayed cache words ms (Err _) (no_block why) due =
      subst (λ (ns : List Move). IsReplayed limit w (world_after_moves w ns)
      (replay_from (blocks_of (occupancy_of w)) (records_of ns line))) (sym due)
      (record { layout = laid; blocks = refl })
  take_replayed cache words ms (Ok _) (takes q place taken e is) due =
      let none : ms ≡ [] = due ∙ ap (λ x. moves_of_cache_alloc w x words) (sym (same_cache w ms cache) ∙ e)
      ∙ ap (moves_if_not_taken w q.value.pool words) is in
      subst (λ (ns : List Move). IsReplayed limit w
      (with_graph (world_after_moves w ns) (graph_uncached (world_after_moves w ns).graph q taken.1 place taken.0))
      (replay_from (blocks_of (occupancy_of w)) (records_of ns line))) (sym none)
      (as_replayed limit w w (with_graph w (graph_uncached w.graph q taken.1 place taken.0)) (Some (blocks_of (occupancy_of w)))
      (shapes_kept limit w (graph_uncached w.graph q taken.1 place taken.0) (cleared_kept w.graph taken.0) refl)
      (record { layout = laid; blocks = refl }))
  take_replayed cache words ms (Ok _) (makes_new q p place e there size none room) due =
      let number = q.value.pool in
      let at = placement_of w (ForAlloc number words) in
      let is : ms ≡ alloc_at number words at = due ∙ ap (λ x. moves_of_cache_alloc w x words) (sym (same_cache w ms cache) ∙ e)
      ∙ ap (moves_if_not_taken w number words) none in
      let some = some_words p.kind words size in
      subst (λ (ns : List Move). IsReplayed limit w (record (world_after_moves w ns) {
        graph = graph_allocated (world_after_moves w ns).graph number words place;
        addresses = with_last (world_after_moves w ns).addresses (Some (address_of_placement at));
      }) (replay_from (blocks_of (occupancy_of w)) (records_of ns line))) (sym is)
      (made_at_placement limit w (record { number = number; value = p }) words some line place at laid
      (manual_not_copying w.pools number p there (sized_is_manual p.kind words size)) refl room)

  pub take_step : (cache : Name) (words : ℕ) (into : Slot) (ms : List Move) (answer : Answer)
      → ms ≡ unless_refused answer (moves_of_cache_alloc w (cache_named w cache) words)
      → answer ≡ answer_from (act_cache_alloc w (world_after_moves w ms) cache words into)
      → IsReplayed limit w (world_after w (record { line = line; call = call.CacheAlloc cache words into; moves = ms; answer = answer }))
      (replay_from (blocks_of (occupancy_of w)) (records_of_step pools
      (record { line = line; call = call.CacheAlloc cache words into; moves = ms; answer = answer })))
  take_step cache words into ms answer due is =
      acted_step limit pools line w (call.CacheAlloc cache words into) ms answer
      (take_replayed cache words ms (act_cache_alloc w (world_after_moves w ms) cache words into)
      (take_case w (world_after_moves w ms) cache words into)
      (due ∙ ap (λ b. unless_refused b (moves_of_cache_alloc w (cache_named w cache) words)) is))
