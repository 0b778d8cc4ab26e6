-- `calloc`: from its outcome to a right step. A cached block comes without a move; a new one with those of an `alloc`.
use Rattle.std.proofs.Common.{◌≡◌, ◌∙◌, ℕ, ◌+◌, ◌<◌, Bool, true, false, refl, sym, ap, subst, List, [], length, map, Option, Some, None, Ok, Err, is_some, arith}
use Rattle.std.proofs.lemmas.Bool.{and_parts, false≢true}
use Rattle.std.proofs.lemmas.Option.{slice_get-map}
use Rattle.std.specs.Prelude.{◌==◌, not, slice_get, slice_set, option_map, if◌then◌else◌}
use Rattle.std.specs.List.{list_all}
use Rattle.std.specs.Option.{option_map_or}
use Rattle.mps_seg.specs.Arena.{answer_of_placement}
use Rattle.mps_base.specs.Address.{Address, Id}
use Rattle.mps_base.specs.Placement.{Placement, Place, NewSegment, OverLimit, NoFreeRun}
use Rattle.mps_base.specs.Segment.{Segment}
use Rattle.mps_base.specs.Trail.{Moves, with_move}
use Rattle.mps_base.specs.declared.address.Addr.{Addr}
use Rattle.mps_base.specs.declared.moves.Move.TheVariants as moves
use Rattle.mps_base.specs.declared.names.Name.{Name}
use Rattle.mps_base.specs.declared.names.Rank.TheVariants as rank
use Rattle.mps_base.specs.declared.names.Slot.{Slot}
use Rattle.mps_base.specs.declared.refusal.Refusal.{Refusal}
use Rattle.mps_base.specs.declared.refusal.Refusal.TheVariants as refusal
use Rattle.mps_format.specs.Layout.{Layout}
use Rattle.mps_laws.proofs.Acts.{for_world}
use Rattle.mps_laws.proofs.Positions.LegalMoves.{HasLayout}
use Rattle.mps_laws.proofs.QuietSteps.{IsSound}
use Rattle.mps_laws.proofs.Same as same
use Rattle.mps_laws.proofs.Same.{Same, fits}
use Rattle.mps_laws.proofs.Sound.PoolKinds.{manual_not_copying}
use Rattle.mps_pools.specs.Manual.{any_size, has_blocks_of}
use Rattle.mps_model.specs.declared.call.Call.TheVariants as call
use Rattle.mps_model.specs.declared.reply.Reply.TheVariants as reply
use Rattle.mps_model.specs.Allocating.{address_of_placement, allows_size, graph_allocated, refuse_without_place, with_block_noted}
use Rattle.mps_model.specs.Answer.{Answer, Replied}
use Rattle.mps_model.specs.Caches as models
use Rattle.mps_model.specs.Caches.{act_cache_alloc, act_taken, taken_from}
use Rattle.mps_model.specs.Checked as checked
use Rattle.mps_model.specs.Checked.{Act, Checked, Found, Numbered, ◌>>=◌, ◌>>◌, done, refuse_when, required}
use Rattle.mps_model.specs.Effect.{world_after_moves}
use Rattle.mps_model.specs.Graph.{Cache, CacheClass, with_last}
use Rattle.mps_model.specs.History.{alloc_at, moves_if_not_taken, moves_of_cache_alloc, unless_refused}
use Rattle.mps_model.specs.Making.{is_block_size}
use Rattle.mps_model.specs.Placement.{ForAlloc, placement_of}
use Rattle.mps_model.specs.Reply.{act, world_from}
use Rattle.mps_model.specs.WellFormed.{is_right_cache, is_right_class}
use Rattle.mps_model.specs.World as world
use Rattle.mps_model.specs.World.{World, PoolKind, Collected, OneSize, AnySize, Frames, is_automatic_kind, is_copying_pool, pool_at, pool_is}
use Rattle.mps_neighbours.specs.Caches.{blocks_of_size, classes_of, last_of}
use Rattle.mps_heap_spec.specs.Caching.{block_from_cache, block_taken, cache_named, taken_into, with_block_taken}
use Rattle.mps_heap_spec.specs.Coming.{ComesMoving, Moved}
use Rattle.mps_heap_spec.specs.Finding.{block_place_in}
use Rattle.mps_heap_spec.specs.declared.found.Entry.{Entry}
use Rattle.mps_heap_spec.specs.declared.found.Kept.{Kept}
use Rattle.mps_heap_spec.specs.Manual.{with_block_place}
use Rattle.mps_heap_spec.specs.State.{HeapState}
use Rattle.mps_format.specs.Pools.{size_of_pool}
use Rattle.mps_format.specs.declared.pool.Pool.{Pool}
use Rattle.mps_format.specs.declared.pool.Pool.TheVariants as pool
use Rattle.mps_seg.specs.Placing.{placement_in_gaps}
use Rattle.mps_seg.specs.Segs.{moves_after, segments_after}
use Rattle.mps_trace_laws.proofs.Image.Shaped.{all_at}
use Rattle.mps_refinement.specs.Answering.{answer_to, says_ok}
use Rattle.mps_refinement.specs.Beside.{kept_class}
use Rattle.mps_snc.specs.State.{pool_at as framed_at}
use Rattle.mps_refinement.specs.Framed.{AreFramed}
use Rattle.mps_refinement.specs.RightStep.{IsRight, IsRightFrom, step_of}
use Rattle.mps_refinement.specs.StandsFor.{AreOfFlip, AreParts, IsInTime, IsPool, IsReached, Past, address_of_id, collector_of}
use Rattle.mps_refinement.proofs.Calls.BlockPlaced.{arena_is, empty_same, moves_are, none_where, placed_keeps, some_words, taken_where, untaken, with_true}
use Rattle.mps_refinement.proofs.Parts.CachedTaken.{taken_parts}
use Rattle.mps_refinement.proofs.Calls.RightOwn.{IsOwn, IsRightOutcome, done_is_right, outcome_is_right, refusal_is_right}
use Rattle.mps_refinement.proofs.Lookups.CachesFound.{IsCacheFound, IsTakenAlike, cache_same, classes_kept, taken_alike}
use Rattle.mps_refinement.proofs.Lookups.LiveObjects.{pool_kept}
use Rattle.mps_refinement.proofs.Lookups.Lookups.{IsPlaceEntry, IsPlaceFound, place_same}
use Rattle.mps_refinement.proofs.Lookups.ManualBlocks.{passes_there}
use Rattle.mps_refinement.proofs.Parts.AllocatedParts.{parts_made, segments_made}
use Rattle.mps_refinement.proofs.Parts.BlockParts.{parts_with_frames, world_with_frames}
use Rattle.mps_refinement.proofs.Parts.FramedParts.{changed_absent, listed_absent}
use Rattle.mps_refinement.proofs.Worlds.BlockMade as made
use Rattle.mps_refinement.proofs.Worlds.CachedBlocks.{blocks_taken, live_taken, taken_laid, world_taken}
use Rattle.mps_refinement.proofs.Worlds.FlipKept.{flips_kept}
use Rattle.mps_refinement.proofs.Worlds.Known.{IsKnown}
use Rattle.mps_refinement.proofs.Worlds.Placing.{gaps_agree}
use Rattle.mps_refinement.proofs.Worlds.RestingActs.{resting_sound}

abbrev ok : Answer
ok = Replied reply.Ok

-- ---- the pool of a cache

any_size_where : (k : PoolKind) → models.may_have_cache k ≡ true → k ≡ AnySize
any_size_where (Collected kind) e = absurd (false≢true e)
any_size_where (OneSize words) e = absurd (false≢true e)
any_size_where AnySize e = refl
any_size_where Frames e = absurd (false≢true e)

-- blocks of any sizes, where the model's pool has them
no_size : {F : Type 0} (layout : F → Layout) (formats : ℕ → Layout) (p : Pool F) (q : world.Pool) → IsPool layout formats p q
    → q.kind ≡ AnySize → size_of_pool p ≡ any_size
no_size layout formats (pool.Automatic kind format) q is any =
    let never : ◌≡◌ {A = Bool} true false =
    ap is_automatic_kind (sym (ap (λ (x : world.Pool). x.kind) is.0) ∙ any) in absurd cc
no_size layout formats (pool.OneSize words) q is any =
    let never : ◌≡◌ {A = Bool} false true =
    ap models.may_have_cache (sym (ap (λ (x : world.Pool). x.kind) is) ∙ any) in absurd cc
no_size layout formats pool.AnySize q is any = refl

-- ---- the checks of the model, from each on, where the call takes effect in a world

module _ (w v : World) (words : ℕ) (place : Slot) where
  abbrev take_empty : Numbered Cache → Found (Option ℕ) → (taken : Bool) → Checked Act
  take_empty q pl taken = refuse_when taken refusal.NameTaken >> act_taken w v q words pl (taken_from q.value.classes words)

  abbrev take_sized : Numbered Cache → Found (Option ℕ) → (allowed : Bool) → Checked Act
  take_sized q pl allowed = refuse_when (not allowed) refusal.BadSize >> take_empty q pl (is_some pl.value)

  abbrev take_placed : Numbered Cache → world.Pool → Checked (Found (Option ℕ)) → Checked Act
  take_placed q p x = x >>= (λ (pl : Found (Option ℕ)). take_sized q pl (allows_size p.kind words))

  abbrev take_pool : Numbered Cache → Option world.Pool → Checked Act
  take_pool q o = required o refusal.BadName >>= (λ (p : world.Pool). take_placed q p (checked.block_place_in v place))

  abbrev take_from : Checked (Numbered Cache) → Checked Act
  take_from x = x >>= (λ (q : Numbered Cache). take_pool q (pool_at w q.value.pool))

module _ {F : Type 0} (layout : F → Layout) (h : HeapState F) (trail : Moves) (none : trail.moves ≡ []) (name : Name) (words : ℕ)
    (place : Slot) where
  abbrev IsRightTake : World → ℕ → Checked (Moved F (Unit {0})) → Type 0
  IsRightTake w line o = IsRightOutcome layout h trail none (call.CacheAlloc name words place) w line o

  -- ---- the outcome, from each check on

  abbrev made_at : (number : ℕ) → Entry Address → Placement → Addr → Moved F (Unit {0})
  made_at number into q at = record {
    answer = tt;
    state = with_block_place (record h { segs = segments_made h.segs q number words at.0 }) into at.0;
    trail = with_move (moves_after q number 0 trail) (moves.Alloc at words number);
  }

  abbrev placed_at : (number : ℕ) → Entry Address → Placement → Checked (Moved F (Unit {0}))
  placed_at number into q = answer_of_placement q >>= (λ at. Ok (made_at number into q at))

  -- a new block, where the pool has blocks of the size
  abbrev sized_as : (number : ℕ) → Entry Address → (has : Bool) → Checked (Moved F (Unit {0}))
  sized_as number into has =
      (if has then answer_of_placement (placement_in_gaps h.segs number rank.Exact words) else Err refusal.BadSize)
      >>= (λ at. Ok (made_at number into (placement_in_gaps h.segs number rank.Exact words) at))

  abbrev from_size : Kept ℕ → Entry Address → (size : ℕ) → (has empty : Bool) → Option Address → Checked (Moved F (Unit {0}))
  from_size from into size has empty o =
      refuse_when (not has) refusal.BadSize >> (refuse_when (not empty) refusal.NameTaken >> block_taken h trail from size words into o)

  module _ (w : World) (line : ℕ) (past : Past) (parts : AreParts layout past h w) (own : IsKnown past.time w)
      (reach : IsReached w) (time : IsInTime past.time (collector_of h) w) where
    is_own : IsOwn w (call.CacheAlloc name words place)
    is_own = record {
      arena = refl;
      collected = λ ms answer. refl;
      legal = λ ms. tt;
      marked = λ y answer. tt;
      read = λ y. tt;
      possible = λ answer. tt;
      unasked = λ why. refl;
      still = refl;
      judged = λ ms. refl;
      taken = λ v. refl;
    }

    refused_outcome : (why : Refusal) → act_cache_alloc w w name words place ≡ Err why → IsRightTake w line (Err why)
    refused_outcome why e =
        refusal_is_right layout h trail none (call.CacheAlloc name words place) w line past parts own reach time is_own why e

    -- ---- where the cache is found

    module _ (from : Kept ℕ) (q : Numbered Cache) (found : IsCacheFound h w from q) (cache_is : checked.cache_named w name ≡ Ok q) where
      right : is_right_cache w q.value ≡ true
      right = all_at (is_right_cache w) w.graph.caches q.number q.value own.formed.caches found.has

      right_parts : (pool_is models.may_have_cache w q.value.pool ≡ true)
          × (list_all (is_right_class w q.value.pool) q.value.classes ≡ true)
      right_parts =
          and_parts (pool_is models.may_have_cache w q.value.pool) (list_all (is_right_class w q.value.pool) q.value.classes) right

      -- its pool
      p : (p : world.Pool) × (pool_at w q.value.pool ≡ Some p) × (models.may_have_cache p.kind ≡ true)
      p = passes_there (λ (x : world.Pool). models.may_have_cache x.kind) (pool_at w q.value.pool) right_parts.0

      kind : p.0.kind ≡ AnySize
      kind = any_size_where p.0.kind p.2

      manual : is_automatic_kind p.0.kind ≡ false
      manual = ap is_automatic_kind kind

      ours : (x : Pool F) × (slice_get h.pools q.value.pool ≡ Some x) × IsPool layout w.formats x p.0
      ours = pool_kept layout past h w parts q.value.pool p.0 p.1

      size_is : slice_get h.sizes from.value ≡ Some any_size
      size_is =
          ap (slice_get h.sizes) found.fit ∙ ap (λ xs. slice_get xs q.value.pool) parts.sizes
          ∙ slice_get-map size_of_pool h.pools q.value.pool ∙ ap (option_map size_of_pool) ours.1
          ∙ ap Some (no_size layout w.formats ours.0 p.0 ours.2 kind)

      has_same : has_blocks_of any_size words ≡ allows_size p.0.kind words
      has_same = with_true (is_block_size words) ∙ sym (ap (λ k. allows_size k words) kind)

      to_pool : act_cache_alloc w w name words place ≡ take_placed w w words place q p.0 (checked.block_place_in w place)
      to_pool = ap (take_from w w words place) cache_is ∙ ap (take_pool w w words place q) p.1

      -- ---- where the place is found

      module _ (into : Entry Address) (pl : Found (Option ℕ)) (is : IsPlaceEntry past h w place.index into pl)
          (place_is : checked.block_place_in w place ≡ Ok pl) where
        to_place : act_cache_alloc w w name words place ≡ take_sized w w words place q pl (allows_size p.0.kind words)
        to_place = to_pool ∙ ap (take_placed w w words place q p.0) place_is

        -- ---- where the size is allowed and the place empty

        module _ (allowed : allows_size p.0.kind words ≡ true) (empty : is_some pl.value ≡ false) where
          -- what the act comes to, where segments were taken before
          to_taken : (segments : List Segment)
              → act_cache_alloc w (record w { segments = segments }) name words place
              ≡ act_taken w (record w { segments = segments }) q words pl (taken_from q.value.classes words)
          to_taken segments =
              let u = record w { segments = segments } in
              ap (take_from w u words place) cache_is ∙ ap (take_pool w u words place q) p.1
              ∙ ap (take_placed w u words place q p.0) place_is ∙ ap (take_sized w u words place q pl) allowed
              ∙ ap (take_empty w u words place q pl) empty

          empty_entry : slice_get pl.list pl.index ≡ Some None
          empty_entry =
              ap (slice_get pl.list) is.found_index ∙ is.there ∙ ap Some (none_where pl.value empty)

          -- ---- a block of the class

          module _ (id : Id) (left : List CacheClass) (taken : taken_from q.value.classes words ≡ Some (id, left)) where
            block : (at : Address) × (address_of_id w.addresses id ≡ at)
                × AreParts layout past (with_block_taken h from.key words into at) (world_taken w q found.has pl is.has words id left taken)
            block = taken_parts layout past h w parts own from q found right_parts.1 words place.index into pl is empty_entry id left taken

            abbrev at : Address
            at = block.0

            abbrev v : World
            v = world_taken w q found.has pl is.has words id left taken

            due : [] ≡ unless_refused ok (moves_of_cache_alloc w (checked.cache_named w name) words)
            due = sym (ap (λ x. moves_of_cache_alloc w x words) cache_is ∙ ap (moves_if_not_taken w q.value.pool words) taken)

            comes : act_cache_alloc w w name words place ≡ done v
            comes = to_taken w.segments ∙ ap (act_taken w w q words pl) taken

            done_outcome : IsRightTake w line (block_taken h trail from any_size words into (Some at))
            done_outcome =
                subst (λ ns. IsRightFrom layout h w (step_of line (call.CacheAlloc name words place) ns ok)
                (with_block_taken h from.key words into at)) (sym none)
                (done_is_right layout h trail none (call.CacheAlloc name words place) w line past parts own reach time is_own []
                (with_block_taken h from.key words into at) v (record {
                  due = due;
                  comes = comes;
                  sound = λ rest. resting_sound v rest (live_taken w q found.has pl is.has words id left taken own.live empty_entry);
                  blocks = blocks_taken w q found.has pl is.has words id left taken own.live.blocks empty_entry;
                  laid = taken_laid w line own.laid name place v [] words due comes;
                  has = record { past = past; timed = refl; parts = block.2 };
                  keeps = record {
                    rest = λ rest. rest;
                    not_condemned = λ clear. clear;
                    not_kept = λ clear unmarked. unmarked;
                    running = refl;
                    tails = λ pool generation. refl;
                    world_tails = λ pool generation. refl;
                    ranked = λ y r ranked. record { exact = ranked.exact; weak = ranked.weak };
                    flip = λ of.
                        subst (λ x. AreOfFlip past.time.at_flip (world_from w x)) comes
                        (for_world (AreOfFlip past.time.at_flip) w (act false w w (call.CacheAlloc name words place))
                        (flips_kept false w w (call.CacheAlloc name words place) past.time.at_flip own.formed.addresses of) of);
                    condemned = λ y same run marked. marked;
                  };
                  formats = refl;
                }))

          -- ---- a new block

          module _ (missing : taken_from q.value.classes words ≡ None) where
            abbrev number : ℕ
            number = q.value.pool

            some : 0 < words
            some = some_words p.0.kind words allowed

            not_copying : is_copying_pool w q.value.pool ≡ false
            not_copying = manual_not_copying w.pools q.value.pool p.0 p.1 manual

            automatic : pool_is is_automatic_kind w q.value.pool ≡ false
            automatic = ap (λ o. option_map_or (λ (x : world.Pool). is_automatic_kind x.kind) o false) p.1 ∙ manual

            sound : w.collection ≡ None → IsSound w
            sound rest = resting_sound w rest own.live

            moved_is : (x : Placement) → world_after_moves w (alloc_at q.value.pool words x)
                ≡ record w { segments = segments_after x q.value.pool 0 rank.Exact w.segments }
            moved_is x =
                made.moved_at w sound own.live.blocks own.formed.addresses q.value.pool words not_copying pl is.has x x

            -- no block of it is noted
            unnoted : with_block_noted w.graph.frames q.value.pool (length w.graph.objects) ≡ w.graph.frames
            unnoted =
                changed_absent w.graph.frames q.value.pool (λ f. record f { blocks = with_last f.blocks (length w.graph.objects) })
                (listed_absent h.roots.blocks w.graph.blocks 0 h.beside.frames w.graph.frames q.value.pool q.value.pool (omega arith)
                (none_where (framed_at h.beside.frames q.value.pool) (parts.framed.kinds q.value.pool
                ∙ ap (λ o. option_map_or (λ (x : world.Pool). world.has_frames x.kind) o false) p.1 ∙ ap world.has_frames kind))
                parts.framed.listed)

            -- the world with the block at a placement
            abbrev models_made : World → Placement → World
            models_made u x = record u {
              graph = graph_allocated u.graph q.value.pool words pl;
              addresses = with_last u.addresses (Some (address_of_placement x));
            }

            to_new : act_cache_alloc w w name words place
                ≡ (refuse_without_place (placement_of w (ForAlloc q.value.pool words))
                >> done (models_made w (placement_of w (ForAlloc q.value.pool words))))
            to_new = to_taken w.segments ∙ ap (act_taken w w q words pl) missing

            accepted : (x : Placement) → placement_of w (ForAlloc q.value.pool words) ≡ x → refuse_without_place x ≡ Ok tt
                → IsRightTake w line (Ok (made_at q.value.pool into x (record { 0 = address_of_placement x })))
            accepted x x_is room =
                let v = made.world_made w sound own.live.blocks own.formed.addresses q.value.pool words not_copying pl is.has x in
                let ms = alloc_at q.value.pool words x in
                let due : ms ≡ unless_refused ok (moves_of_cache_alloc w (checked.cache_named w name) words) =
                sym (ap (λ c. moves_of_cache_alloc w c words) cache_is ∙ ap (moves_if_not_taken w q.value.pool words) missing
                ∙ ap (alloc_at q.value.pool words) x_is) in
                let u = record w { segments = segments_after x q.value.pool 0 rank.Exact w.segments } in
                let comes : act_cache_alloc w (world_after_moves w ms) name words place ≡ done v =
                ap (λ (m : World). act_cache_alloc w m name words place) (moved_is x)
                ∙ to_taken (segments_after x q.value.pool 0 rank.Exact w.segments) ∙ ap (act_taken w u q words pl) missing
                ∙ ap (λ y. refuse_without_place y >> done (models_made u y)) x_is
                ∙ ap (λ y. y >> done v) room in
                let after : HasLayout (w.grains + 1) v =
                taken_laid w line own.laid name place v ms words due comes in
                subst (λ ns. IsRightFrom layout h w (step_of line (call.CacheAlloc name words place) ns ok)
                (made_at q.value.pool into x (record { 0 = address_of_placement x })).state)
                (sym (moves_are trail x q.value.pool words none room))
                (done_is_right layout h trail none (call.CacheAlloc name words place) w line past parts own reach time is_own ms
                (made_at q.value.pool into x (record { 0 = address_of_placement x })).state v (record {
                  due = due;
                  comes = comes;
                  sound = made.sound_made w sound own.live.blocks own.formed.addresses q.value.pool words not_copying pl is.has x;
                  blocks = made.blocks_made w sound own.live.blocks own.formed.addresses q.value.pool words not_copying pl is.has x;
                  laid = after;
                  has = record {
                    past = past;
                    timed = refl;
                    parts =
                        let built = parts_made layout past h w parts own own.graph own.once q.value.pool words some x time automatic
                        not_copying place.index into pl is (none_where pl.value empty) own.laid after in
                        parts_with_frames layout past (made_at q.value.pool into x (record { 0 = address_of_placement x })).state
                        (world_with_frames v w.graph.frames) h.beside.frames v.graph.frames
                        (subst (AreFramed h.beside.frames
                        (with_block_place (record h { segs = segments_made h.segs x q.value.pool words (address_of_placement x) }) into
                        (address_of_placement x)).roots.blocks
                        (slice_set w.graph.blocks pl.number (slice_set pl.list pl.index (Some (length w.graph.objects)))) w.pools)
                        (sym unnoted) built.framed) built;
                  };
                  keeps =
                      placed_keeps layout past h w parts own (call.CacheAlloc name words place) q.value.pool words x v.graph v.addresses
                      (moved_is x) comes after;
                  formats = refl;
                }))

            of_placement : (x : Placement) → placement_of w (ForAlloc q.value.pool words) ≡ x
                → IsRightTake w line (placed_at q.value.pool into x)
            of_placement (Place word) e = accepted (Place word) e refl
            of_placement (NewSegment grain grains) e = accepted (NewSegment grain grains) e refl
            of_placement (OverLimit committed need limit) e =
                refused_outcome (refusal.CommitLimit committed need limit)
                (to_new ∙ ap (λ y. refuse_without_place y >> done (models_made w y)) e)
            of_placement (NoFreeRun need longest) e =
                refused_outcome (refusal.NoRun need longest)
                (to_new ∙ ap (λ y. refuse_without_place y >> done (models_made w y)) e)

            new_outcome : IsRightTake w line (block_taken h trail from any_size words into None)
            new_outcome =
                subst (λ n. IsRightTake w line (sized_as n into (has_blocks_of any_size words))) (sym found.fit)
                (subst (λ c. IsRightTake w line (sized_as q.value.pool into c)) (sym (has_same ∙ allowed))
                (subst (λ x. IsRightTake w line (placed_at q.value.pool into x))
                (sym (gaps_agree h.segs w (arena_is layout past h w parts own) q.value.pool rank.Exact words))
                (of_placement (placement_of w (ForAlloc q.value.pool words)) refl)))

          -- ---- either

          of_taken : (o : Option (Id × List CacheClass)) → taken_from q.value.classes words ≡ o
              → IsTakenAlike w.addresses words q.value.classes o
              → IsRightTake w line (block_taken h trail from any_size words into
              (last_of (blocks_of_size (classes_of h.beside.caches from.key) words)))
          of_taken None e alike =
              subst (λ x. IsRightTake w line (block_taken h trail from any_size words into x)) (sym (blocks_are ∙ alike)) (new_outcome e)
            where
              blocks_are : last_of (blocks_of_size (classes_of h.beside.caches from.key) words)
                  ≡ last_of (blocks_of_size (map (kept_class w.addresses) q.value.classes) words)
              blocks_are =
                  ap (λ n. last_of (blocks_of_size (classes_of h.beside.caches n) words)) (sym found.number)
                  ∙ ap (λ ks. last_of (blocks_of_size ks words)) (classes_kept layout past h w parts q.number q.value found.has)
          of_taken (Some taken) e alike =
              subst (λ x. IsRightTake w line (block_taken h trail from any_size words into x))
              (sym (blocks_are ∙ alike.0 ∙ ap Some (block taken.0 taken.1 e).1)) (done_outcome taken.0 taken.1 e)
            where
              blocks_are : last_of (blocks_of_size (classes_of h.beside.caches from.key) words)
                  ≡ last_of (blocks_of_size (map (kept_class w.addresses) q.value.classes) words)
              blocks_are =
                  ap (λ n. last_of (blocks_of_size (classes_of h.beside.caches n) words)) (sym found.number)
                  ∙ ap (λ ks. last_of (blocks_of_size ks words)) (classes_kept layout past h w parts q.number q.value found.has)

        of_size : (allowed empty : Bool) → allows_size p.0.kind words ≡ allowed → not (is_some pl.value) ≡ empty
            → IsRightTake w line (from_size from into any_size allowed empty
            (last_of (blocks_of_size (classes_of h.beside.caches from.key) words)))
        of_size false empty e f = refused_outcome refusal.BadSize (to_place ∙ ap (take_sized w w words place q pl) e)
        of_size true false e f =
            refused_outcome refusal.NameTaken
            (to_place ∙ ap (take_sized w w words place q pl) e
            ∙ ap (take_empty w w words place q pl) (taken_where (is_some pl.value) f))
        of_size true true e f =
            of_taken e (untaken (is_some pl.value) f) (taken_from q.value.classes words) refl
            (taken_alike w.addresses words q.value.classes)

        sized_outcome : IsRightTake w line (taken_into h trail from words into)
        sized_outcome =
            subst (IsRightTake w line) (sym (ap (λ o. required o refusal.BadName >>= (λ n.
            from_size from into n (has_blocks_of n words) (into.value == 0)
            (last_of (blocks_of_size (classes_of h.beside.caches from.key) words)))) size_is))
            (subst (λ c. IsRightTake w line (from_size from into any_size c (into.value == 0)
            (last_of (blocks_of_size (classes_of h.beside.caches from.key) words)))) (sym has_same)
            (subst (λ c. IsRightTake w line (from_size from into any_size (allows_size p.0.kind words) c
            (last_of (blocks_of_size (classes_of h.beside.caches from.key) words))))
            (sym (empty_same layout past h w parts own place.index into pl is))
            (of_size (allows_size p.0.kind words) (not (is_some pl.value)) refl refl)))

      of_place : (x : Checked (Entry Address)) (y : Checked (Found (Option ℕ))) → checked.block_place_in w place ≡ y
          → Same (IsPlaceFound past h w place) x y → IsRightTake w line (x >>= taken_into h trail from words)
      of_place x y theirs (fits {a = into} {b = pl} is) = sized_outcome into pl is.fit theirs
      of_place x y theirs (same.refused {why = why}) =
          refused_outcome why (to_pool ∙ ap (take_placed w w words place q p.0) theirs)

    -- ---- the checks

    of_cache : (x : Checked (Kept ℕ)) (y : Checked (Numbered Cache)) → checked.cache_named w name ≡ y → Same (IsCacheFound h w) x y
        → IsRightTake w line (x >>= (λ (from : Kept ℕ). block_place_in h place >>= taken_into h trail from words))
    of_cache x y theirs (fits {a = from} {b = q} found) =
        of_place from q found theirs (block_place_in h place) (checked.block_place_in w place) refl (place_same layout past h w parts place)
    of_cache x y theirs (same.refused {why = why}) = refused_outcome why (ap (take_from w w words place) theirs)

    taken_outcome : IsRightTake w line (block_from_cache h trail name words place)
    taken_outcome = of_cache (cache_named h name) (checked.cache_named w name) refl (cache_same layout past h w parts name)

  -- `calloc` is right, where the trail has no moves before it
  pub calloc_is_right : (result : Checked (Unit {0})) (after : HeapState F) (trail_after : Moves)
      → ComesMoving h trail (block_from_cache h trail name words place) result after trail_after
      → IsRight layout h (call.CacheAlloc name words place) trail_after.moves (answer_to says_ok result) after
  calloc_is_right result after trail_after comes =
      outcome_is_right layout h trail none (call.CacheAlloc name words place) (block_from_cache h trail name words place) result after
      trail_after comes taken_outcome
