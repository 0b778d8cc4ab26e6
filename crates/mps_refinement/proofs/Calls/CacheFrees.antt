-- `cfree`: from its outcome to a right step. A block that its class has room for is kept without a move; another is freed as by `free`.
use Rattle.std.proofs.Common.{◌≡◌, ◌∙◌, ℕ, ◌+◌, Bool, true, false, refl, sym, ap, subst, [], Option, Some, None, Ok, Err, List, Contains, map, arith}
use Rattle.std.proofs.lemmas.Bool.{and_parts, eq-eqb, eqb-true, false≢true}
use Rattle.std.proofs.lemmas.Option.{same_Some}
use Rattle.std.specs.Prelude.{◌==◌, not, slice_get, if◌then◌else◌}
use Rattle.std.specs.List.{list_all}
use Rattle.std.specs.Option.{option_map_or}
use Rattle.mps_base.specs.Address.{Address, Id, grain_of, word_of}
use Rattle.mps_base.specs.Segment.{Segment, without_segment}
use Rattle.mps_base.specs.Trail.{Moves}
use Rattle.mps_base.specs.declared.names.Name.{Name}
use Rattle.mps_base.specs.declared.names.Slot.{Slot}
use Rattle.mps_base.specs.declared.refusal.Refusal.{Refusal}
use Rattle.mps_base.specs.declared.refusal.Refusal.TheVariants as refusal
use Rattle.mps_extents.specs.Table.{bit}
use Rattle.mps_format.specs.Layout.{Layout}
use Rattle.mps_abstract.specs.Colours.{is_grey}
use Rattle.mps_laws.proofs.Acts.{required-is}
use Rattle.mps_laws.proofs.Lookups.{length-slice_set}
use Rattle.mps_laws.proofs.Positions.LegalMoves.{HasLayout}
use Rattle.mps_laws.proofs.Positions.Segments.{among_without}
use Rattle.mps_laws.proofs.QuietSteps.{IsSound}
use Rattle.mps_laws.proofs.Same as same
use Rattle.mps_laws.proofs.Same.{Same, fits}
use Rattle.mps_pools.specs.Manual.{segs_after_free}
use Rattle.mps_model.specs.declared.call.Call.TheVariants as call
use Rattle.mps_model.specs.declared.reply.Reply.TheVariants as reply
use Rattle.mps_model.specs.Accessing.{address_or_null}
use Rattle.mps_model.specs.Allocating as model
use Rattle.mps_model.specs.Answer.{Answer, Replied}
use Rattle.mps_model.specs.Caches as models
use Rattle.mps_model.specs.Caches.{act_cache_free, act_kept, kept_by, kept_in}
use Rattle.mps_model.specs.Checked as checked
use Rattle.mps_model.specs.Checked.{Act, Checked, Found, Numbered, ◌>>=◌, ◌>>◌, done, refuse_when, required}
use Rattle.mps_model.specs.Effect.{world_after_moves}
use Rattle.mps_model.specs.Graph.{Cache, CacheClass, Object, entry_at, size_of}
use Rattle.mps_model.specs.History.{free_of, moves_if_not_kept, moves_of_cache_free, moves_of_free, unless_refused}
use Rattle.mps_model.specs.WellFormed.{is_right_cache, is_right_class}
use Rattle.mps_model.specs.World as world
use Rattle.mps_model.specs.World.{World, object_is, pool_of, words_of}
use Rattle.mps_model.specs.Graph as graph
use Rattle.mps_neighbours.specs.Caches as caches
use Rattle.mps_neighbours.specs.Caches.{classes_of, keeps_size}
use Rattle.mps_heap_spec.specs.Caching.{IsCacheFree, block_kept, block_to_cache, cache_named, kept_from, with_block_kept}
use Rattle.mps_heap_spec.specs.Coming.{Moved}
use Rattle.mps_heap_spec.specs.Finding.{block_place_in}
use Rattle.mps_heap_spec.specs.declared.found.Entry.{Entry}
use Rattle.mps_heap_spec.specs.declared.found.Kept.{Kept}
use Rattle.mps_heap_spec.specs.Manual.{block_in, with_block_place}
use Rattle.mps_heap_spec.specs.State.{HeapState}
use Rattle.mps_trace_laws.proofs.Image.Shaped.{all_at}
use Rattle.mps_refinement.specs.Answering.{answer_to, says_ok}
use Rattle.mps_refinement.specs.Beside.{kept_cache}
use Rattle.mps_refinement.specs.RightStep.{IsRight, IsRightFrom, step_of}
use Rattle.mps_refinement.specs.StandsFor.{AreParts, IsInTime, IsReached, Past, address_of_id, collector_of}
use Rattle.mps_refinement.proofs.Calls.FreeingStep as freeing
use Rattle.mps_refinement.proofs.Calls.Frees as frees
use Rattle.mps_refinement.proofs.Calls.RightOwn.{IsOwn, IsRightOutcome, done_is_right, outcome_is_right, refusal_is_right}
use Rattle.mps_refinement.proofs.Lookups.BlockRuns.{run_is}
use Rattle.mps_refinement.proofs.Lookups.Blocks.{same_address}
use Rattle.mps_refinement.proofs.Lookups.CachesFound.{IsCacheFound, IsKeptAlike, cache_same, classes_kept, classes_written, kept_alike}
use Rattle.mps_refinement.proofs.Lookups.Lookups.{IsPlaceEntry, IsPlaceFound, place_same}
use Rattle.mps_refinement.proofs.Lookups.ManualBlocks.{IsBlock, block_same, passes_there, setting}
use Rattle.mps_refinement.proofs.Parts.ObjectKinds.{manual_unpaired}
use Rattle.mps_refinement.proofs.Parts.PairsKept.{none_ends}
use Rattle.mps_refinement.proofs.Parts.BlockParts.{parts_with_pairs, world_with_blocks}
use Rattle.mps_refinement.proofs.Parts.CachesWritten.{caches_written, heap_with_caches, world_with_caches}
use Rattle.mps_refinement.proofs.Parts.CommittedParts.{segment_there}
use Rattle.mps_refinement.proofs.Parts.FramedParts.{frames_others}
use Rattle.mps_refinement.proofs.Parts.FreedParts.{flip_after, freed_is, not_automatic, parts_freed, ranks_freed, segments_freed, segs_condemned, segs_kept}
use Rattle.mps_refinement.proofs.Parts.PlaceWritten.{block_place_written}
use Rattle.mps_refinement.proofs.Parts.PointWritten.{none_set}
use Rattle.mps_refinement.proofs.Parts.SegmentsTaken.{contained_among}
use Rattle.mps_refinement.proofs.Worlds.CachedBlocks.{blocks_kept, kept_laid, live_kept, world_kept}
use Rattle.mps_refinement.proofs.Worlds.Known.{IsKnown}
use Rattle.mps_refinement.proofs.Worlds.RestingActs.{resting_sound}

abbrev ok : Answer
ok = Replied reply.Ok

frameless_where : (k : world.PoolKind) → models.may_have_cache k ≡ true → world.has_frames k ≡ false
frameless_where (world.Collected kind) e = refl
frameless_where (world.OneSize words) e = refl
frameless_where world.AnySize e = refl
frameless_where world.Frames e = absurd (false≢true e)

-- ---- the checks of the model, from each on

module _ (w : World) (place : Slot) where
  abbrev keep_block : Numbered Cache → Found (Option ℕ) → Id → (own : Bool) → Checked Act
  keep_block q pl id own = refuse_when (not own) refusal.WrongPool >> act_kept w q pl (kept_by w q.value id)

  abbrev keep_in : Numbered Cache → Found (Option ℕ) → Checked ℕ → Checked Act
  keep_in q pl x = x >>= (λ (id : ℕ). keep_block q pl id (pool_of w id == q.value.pool))

  abbrev keep_placed : Numbered Cache → Checked (Found (Option ℕ)) → Checked Act
  keep_placed q x = x >>= (λ (pl : Found (Option ℕ)). keep_in q pl (model.block_in pl))

  abbrev keep_from : Checked (Numbered Cache) → Checked Act
  keep_from x = x >>= (λ (q : Numbered Cache). keep_placed q (checked.block_place_in w place))

module _ {F : Type 0} (layout : F → Layout) (h : HeapState F) (trail : Moves) (none : trail.moves ≡ []) (name : Name) (place : Slot)
    (words : ℕ)
    (block : (from : Entry Address) (at : Address) → block_place_in h place ≡ Ok from → block_in h from ≡ Ok at
    → Contains h.segs.blocks (record { from = word_of at; count = words })) where
  abbrev IsRightKeep : World → ℕ → Checked (Moved F (Unit {0})) → Type 0
  IsRightKeep w line o = IsRightOutcome layout h trail none (call.CacheFree name place) w line o

  -- from the segment on
  abbrev from_own : Kept ℕ → Entry Address → Address → Segment → (own : Bool) → Checked (Moved F (Unit {0}))
  from_own into from at s own =
      refuse_when (not own) refusal.WrongPool >> (required (slice_get h.sizes s.pool) refusal.NotABlock >>= (λ size.
      block_kept h trail into size words from at (keeps_size (classes_of h.beside.caches into.key) words)))

  module _ (w : World) (line : ℕ) (past : Past) (parts : AreParts layout past h w) (own : IsKnown past.time w)
      (reach : IsReached w) (time : IsInTime past.time (collector_of h) w) where
    is_own : IsOwn w (call.CacheFree name place)
    is_own = record {
      arena = refl;
      collected = λ ms answer. refl;
      legal = λ ms. tt;
      marked = λ y answer. tt;
      read = λ y. tt;
      possible = λ answer. tt;
      unasked = λ why. refl;
      still = refl;
      judged = λ ms. refl;
      taken = λ v. refl;
    }

    refused_outcome : (why : Refusal) → act_cache_free w name place ≡ Err why → IsRightKeep w line (Err why)
    refused_outcome why e =
        refusal_is_right layout h trail none (call.CacheFree name place) w line past parts own reach time is_own why e

    module _ (into : Kept ℕ) (q : Numbered Cache) (found : IsCacheFound h w into q) (cache_is : checked.cache_named w name ≡ Ok q)
        (from : Entry Address) (pl : Found (Option ℕ)) (is : IsPlaceEntry past h w place.index from pl)
        (place_is : checked.block_place_in w place ≡ Ok pl) (our_place : block_place_in h place ≡ Ok from) (at : Address) (id : Id)
        (b : IsBlock w at id) (value : pl.value ≡ Some id) (our_block : block_in h from ≡ Ok at) where
      abbrev t : Segment
      t = frees.t layout h trail none place w line past parts own reach time from pl is place_is at id b value

      abbrev size : ℕ
      size = frees.size layout h trail none place w line past parts own reach time from pl is place_is at id b value

      to_block : act_cache_free w name place ≡ keep_block w place q pl id (pool_of w id == q.value.pool)
      to_block =
          ap (keep_from w place) cache_is ∙ ap (keep_placed w place q) place_is
          ∙ ap (λ o. keep_in w place q pl (required o refusal.NotABlock)) value

      entry_full : slice_get pl.list pl.index ≡ Some (Some id)
      entry_full = ap (slice_get pl.list) is.found_index ∙ is.there ∙ ap Some value

      pool_is : pool_of w id ≡ b.object.pool
      pool_is = ap (λ o. option_map_or (λ (x : Object). x.pool) o 0) b.there

      live_pool : t.pool ≡ b.object.pool
      live_pool = (frees.live layout h trail none place w line past parts own reach time from pl is place_is at id b value).of

      -- it has as many words in both
      count_is : words ≡ size_of b.object
      count_is =
          run_is (setting layout past h w parts own) w.addresses parts.image.placed h.segs parts.image.runs.blocks id at b.object b.address
          b.there words (block from at our_place our_block)

      words_is : words_of w id ≡ words
      words_is = ap (λ o. option_map_or size_of o 0) b.there ∙ sym count_is

      address_is : address_of_id w.addresses id ≡ at
      address_is = ap (λ o. option_map_or (λ a. a) o 0) b.address

      key_is : into.key ≡ q.number
      key_is = sym found.number

      -- ---- the block is of the cache's pool

      module _ (same_pool : (pool_of w id == q.value.pool) ≡ true) where
        -- which has no frames
        frameless : world.pool_is world.has_frames w (pool_of w id) ≡ false
        frameless =
            let right : is_right_cache w q.value ≡ true =
            all_at (is_right_cache w) w.graph.caches q.number q.value own.formed.caches found.has in
            let may = and_parts (world.pool_is models.may_have_cache w q.value.pool)
            (list_all (is_right_class w q.value.pool) q.value.classes) right in
            let p = passes_there (λ (x : world.Pool). models.may_have_cache x.kind) (world.pool_at w q.value.pool) may.0 in
            ap (world.pool_is world.has_frames w) (eqb-true (pool_of w id) q.value.pool same_pool)
            ∙ ap (λ o. option_map_or (λ (x : world.Pool). world.has_frames x.kind) o false) p.1 ∙ frameless_where p.0.kind p.2

        module _ (now : List CacheClass) (kept : kept_in q.value.classes words id ≡ Some now) where
          abbrev v : World
          v = world_kept w q found.has pl is.has words id now kept entry_full

          kept_is : kept_by w q.value id ≡ Some now
          kept_is = ap (λ n. kept_in q.value.classes n id) words_is ∙ kept

          due : [] ≡ unless_refused ok (moves_of_cache_free w (checked.cache_named w name) (checked.block_place_in w place))
          due =
              sym (ap (λ x. moves_of_cache_free w x (checked.block_place_in w place)) cache_is
              ∙ ap (moves_of_cache_free w (Ok q)) place_is
              ∙ ap (λ o. option_map_or (λ n. moves_if_not_kept w n (kept_by w q.value n)) o []) value ∙ ap (moves_if_not_kept w id) kept_is)

          comes : act_cache_free w name place ≡ done v
          comes = to_block ∙ ap (keep_block w place q pl id) same_pool ∙ ap (act_kept w q pl) kept_is

          alike : IsKeptAlike w.addresses words q.value.classes id (Some now)
          alike = subst (IsKeptAlike w.addresses words q.value.classes id) kept (kept_alike w.addresses words q.value.classes id)

          abbrev caches_now : List caches.CacheState
          caches_now = caches.with_classes h.beside.caches into.key
              (caches.with_last_of_size (classes_of h.beside.caches into.key) words at)

          caches_fit : caches_now ≡ map (kept_cache w.addresses) (models.with_classes w.graph q now).caches
          caches_fit =
              ap (λ n. caches.with_classes h.beside.caches n (caches.with_last_of_size (classes_of h.beside.caches n) words at)) key_is
              ∙ ap (λ a. caches.with_classes h.beside.caches q.number
              (caches.with_last_of_size (classes_of h.beside.caches q.number) words a)) (sym address_is)
              ∙ classes_written layout past h w parts q.number q.value found.has
              (caches.with_last_of_size (classes_of h.beside.caches q.number) words (address_of_id w.addresses id)) now
              (ap (λ ks. caches.with_last_of_size ks words (address_of_id w.addresses id))
              (classes_kept layout past h w parts q.number q.value found.has) ∙ alike.1)

          parts_kept : AreParts layout past (with_block_kept h into.key words from at) v
          parts_kept =
              block_place_written layout past (heap_with_caches h caches_now)
              (world_with_caches w (models.with_classes w.graph q now).caches)
              (caches_written layout past h w parts caches_now (models.with_classes w.graph q now).caches caches_fit
              (let e = length-slice_set h.beside.caches into.key (record (caches.cache_at h.beside.caches into.key) {
                classes = caches.with_last_of_size (classes_of h.beside.caches into.key) words at;
              }) in omega (arith, e)))
              from pl is.number (is.index_is ∙ sym is.found_index) is.has 0 None refl (λ j. not (id == j))
              (frames_others w id frameless w.graph.frames own.formed.frames) (λ j entry passes.
              let same : id ≡ j = same_Some id j (same_Some (Some id) (Some j) (sym entry_full ∙ entry)) in
              false≢true (ap not (sym (eq-eqb id j same)) ∙ passes))

          kept_outcome : IsRightKeep w line (block_kept h trail into size words from at true)
          kept_outcome =
              subst (λ ns. IsRightFrom layout h w (step_of line (call.CacheFree name place) ns ok)
              (with_block_kept h into.key words from at)) (sym none)
              (done_is_right layout h trail none (call.CacheFree name place) w line past parts own reach time is_own []
              (with_block_kept h into.key words from at) v (record {
                due = due;
                comes = comes;
                sound = λ rest. resting_sound v rest (live_kept w q found.has pl is.has words id now kept entry_full own.live);
                blocks = blocks_kept w q found.has pl is.has words id now kept entry_full own.live.blocks;
                laid = kept_laid w line own.laid name place v [] due comes;
                has = record { past = past; timed = refl; parts = parts_kept };
                keeps = record {
                  rest = λ rest. rest;
                  not_condemned = λ clear. clear;
                  not_kept = λ clear unmarked. unmarked;
                  running = refl;
                  tails = λ pool generation. refl;
                  world_tails = λ pool generation. refl;
                  ranked = λ y r ranked. ranked;
                  flip = λ of. record { made = of.made; still = of.still };
                  condemned = λ y same run marked. marked;
                };
                formats = refl;
              }))

        -- ---- the class is missing or full

        module _ (missing : kept_in q.value.classes words id ≡ None) where
          sound : w.collection ≡ None → IsSound w
          sound rest = resting_sound w rest own.live

          abbrev differ : (i j : ℕ) (a : Address) → entry_at w.addresses i ≡ Some a → entry_at w.addresses j ≡ Some a → i ≡ j
          differ = same_address (setting layout past h w parts own) w.addresses parts.image.placed

          missing_is : kept_by w q.value id ≡ None
          missing_is = ap (λ n. kept_in q.value.classes n id) words_is ∙ missing

          gone_outcome : IsRightKeep w line (block_kept h trail into size words from at false)
          gone_outcome =
              let outside = frees.outside layout h trail none place w line past parts own reach time in
              let manual = not_automatic layout past h w parts own own.graph at id b time in
              let entry_there =
              frees.entry_there layout h trail none place w line past parts own reach time from pl is place_is at id b value in
              let over = frees.over layout h trail none place w line past parts own reach time from pl is place_is at id b value in
              let live = frees.live layout h trail none place w line past parts own reach time from pl is place_is at id b value in
              let among = frees.among layout h trail none place w line past parts own reach time from pl is place_is at id b value in
              let not_copying =
              frees.not_copying layout h trail none place w line past parts own reach time from pl is place_is at id b value in
              let is_given =
              frees.is_given layout h trail none place w line past parts own reach time from pl is place_is at id b value in
              let g = frees.given layout h trail none place w line past parts own reach time from pl is place_is at id b value in
              let v =
              freeing.world_freed w outside own.graph sound own.live.blocks own.once place pl place_is is.has entry_there id at value
              b.address manual differ t over g is_given in
              let ms =
              freeing.moves_freed w outside own.graph sound own.live.blocks own.once place pl place_is is.has entry_there id at value
              b.address manual differ t over g is_given in
              let m =
              freeing.world_moved w outside own.graph sound own.live.blocks own.once place pl place_is is.has entry_there id at value
              b.address manual differ t over g is_given in
              let due : ms ≡ unless_refused ok (moves_of_cache_free w (checked.cache_named w name) (checked.block_place_in w place)) =
              freeing.due w outside own.graph sound own.live.blocks own.once place pl place_is is.has entry_there id at value b.address
              manual differ t over g is_given
              ∙ ap (moves_of_free w) place_is ∙ ap (λ o. option_map_or (λ n. free_of w (address_or_null w n)) o []) value
              ∙ ap (λ o. free_of w (option_map_or (λ a. a) o 0)) b.address
              ∙ sym (ap (λ x. moves_of_cache_free w x (checked.block_place_in w place)) cache_is
              ∙ ap (moves_of_cache_free w (Ok q)) place_is
              ∙ ap (λ o. option_map_or (λ n. moves_if_not_kept w n (kept_by w q.value n)) o []) value
              ∙ ap (moves_if_not_kept w id) missing_is
              ∙ ap (λ o. option_map_or (free_of w) o []) b.address) in
              let comes : act_cache_free (world_after_moves w ms) name place ≡ done v =
              ap (λ (u : World). act_cache_free u name place)
              (freeing.moved_is w outside own.graph sound own.live.blocks own.once place pl place_is is.has entry_there
              id at value b.address
              manual differ t over g is_given)
              ∙ ap (keep_from m place) cache_is ∙ ap (keep_placed m place q) place_is
              ∙ ap (λ o. keep_in m place q pl (required o refusal.NotABlock)) value ∙ ap (keep_block m place q pl id) same_pool
              ∙ ap (act_kept m q pl) missing_is in
              let layout_freed : HasLayout (w.grains + 1) v = kept_laid w line own.laid name place v ms due comes in
              subst (λ ns. IsRightFrom layout h w (step_of line (call.CacheFree name place) ns ok)
              (with_block_place (record h { segs = segs_after_free size h.segs at }) from 0)) (sym
              (frees.moves_are size h.segs trail at t none live.over))
              (subst (λ segs. IsRightFrom layout h w (step_of line (call.CacheFree name place) ms ok)
              (with_block_place (record h { segs = segs }) from 0)) (sym (freed_is size h.segs at t live.over))
              (done_is_right layout h trail none (call.CacheFree name place) w line past parts own reach time is_own ms
              (with_block_place (record h { segs = segments_freed h.segs at t g }) from 0) v (record {
                due = due;
                comes = comes;
                sound =
                    freeing.sound_freed w outside own.graph sound own.live.blocks own.once place pl place_is is.has entry_there id at value
                    b.address manual differ t over g is_given (manual_unpaired w own.formed id manual);
                blocks =
                    freeing.blocks_freed w outside own.graph sound own.live.blocks own.once place pl place_is is.has entry_there id at value
                    b.address manual differ t over g is_given;
                laid = layout_freed;
                has = record {
                  past = past;
                  timed = refl;
                  parts = parts_with_pairs layout past (with_block_place (record h { segs = segments_freed h.segs at t g }) from 0)
                      (world_with_blocks w w.graph.objects v.addresses v.graph.blocks v.segments) v.graph.dependents
                      (none_ends w own.graph own.formed.dependents id manual)
                      (parts_freed layout past h w parts own own.graph at id b time place.index from pl is value own.once t g among
                      not_copying frameless own.laid layout_freed);
                };
                keeps = record {
                  rest = λ rest. rest;
                  not_condemned = λ clear grain. ap (λ bits. bit bits grain)
                      (segs_condemned layout past h w parts own own.graph at id b time t g) ∙ clear grain;
                  not_kept = λ clear unmarked n. ap (λ bits. bit bits n)
                      (segs_kept layout past h w parts own own.graph at id b time t g)
                      ∙ none_set h.segs.marks.kept (word_of at) n (unmarked n);
                  running = refl;
                  tails = λ pool generation. refl;
                  world_tails = λ pool generation. refl;
                  ranked = λ y r.
                      ranks_freed layout past h w parts own own.graph at id b time t g v refl refl refl own.laid layout_freed (λ j grey.
                      ap (λ (u : World). object_is graph.is_automatic u j) (sym r.world)
                      ∙ r.invariant.grey.grey_automatic j (ap (λ k. is_grey k j) (sym r.colours) ∙ grey));
                  flip = λ of_flip.
                      let after = flip_after layout past h w parts own own.graph at id b time v.graph.blocks v.segments of_flip in
                      record { made = after.made; still = after.still };
                  condemned = λ y same run marked u there.
                      ap (λ bits. bit bits (grain_of u.base)) (segs_condemned layout past h w parts own own.graph at id b time t g)
                      ∙ marked u (still_held g u there);
                };
                formats = refl;
              })))
            where
              still_held : (g : Bool) (u : Segment) → Contains (if g then without_segment w.segments t.base else w.segments) u
                  → Contains w.segments u
              still_held true u there =
                  segment_there u w.segments (among_without t.base u w.segments
                  (contained_among (without_segment w.segments t.base) u there))
              still_held false u there = there

        -- ---- either

        keeps_are : keeps_size (classes_of h.beside.caches into.key) words
            ≡ keeps_size (map (Rattle.mps_refinement.specs.Beside.kept_class w.addresses) q.value.classes) words
        keeps_are =
            ap (λ n. keeps_size (classes_of h.beside.caches n) words) key_is
            ∙ ap (λ ks. keeps_size ks words) (classes_kept layout past h w parts q.number q.value found.has)

        of_kept : (o : Option (List CacheClass)) → kept_in q.value.classes words id ≡ o
            → IsKeptAlike w.addresses words q.value.classes id o
            → IsRightKeep w line (block_kept h trail into size words from at (keeps_size (classes_of h.beside.caches into.key) words))
        of_kept None e alike =
            subst (λ k. IsRightKeep w line (block_kept h trail into size words from at k)) (sym (keeps_are ∙ alike)) (gone_outcome e)
        of_kept (Some now) e alike =
            subst (λ k. IsRightKeep w line (block_kept h trail into size words from at k)) (sym (keeps_are ∙ alike.0)) (kept_outcome now e)

      of_own : (own_pool : Bool) → (pool_of w id == q.value.pool) ≡ own_pool → IsRightKeep w line (from_own into from at t own_pool)
      of_own false e = refused_outcome refusal.WrongPool (to_block ∙ ap (keep_block w place q pl id) e)
      of_own true e =
          subst (λ o. IsRightKeep w line (required o refusal.NotABlock >>= (λ n.
          block_kept h trail into n words from at (keeps_size (classes_of h.beside.caches into.key) words))))
          (sym (frees.size_is layout h trail none place w line past parts own reach time from pl is place_is at id b value))
          (of_kept e (kept_in q.value.classes words id) refl (kept_alike w.addresses words q.value.classes id))

      block_outcome : IsRightKeep w line (kept_from h trail into words from at)
      block_outcome =
          subst (λ o. IsRightKeep w line (required o refusal.NotABlock >>= (λ (s : Segment).
          from_own into from at s (s.pool == into.value))))
          (sym (frees.live layout h trail none place w line past parts own reach time from pl is place_is at id b value).over)
          (subst (λ c. IsRightKeep w line (from_own into from at t c))
          (ap (λ n. n == q.value.pool) (pool_is ∙ sym live_pool) ∙ ap (λ n. t.pool == n) (sym found.fit))
          (of_own (pool_of w id == q.value.pool) refl))

    -- ---- the checks

    of_block : (into : Kept ℕ) (q : Numbered Cache) (found : IsCacheFound h w into q) (cache_is : checked.cache_named w name ≡ Ok q)
        (from : Entry Address) (pl : Found (Option ℕ)) (is : IsPlaceEntry past h w place.index from pl)
        (place_is : checked.block_place_in w place ≡ Ok pl) (our_place : block_place_in h place ≡ Ok from)
        (x : Checked Address) (y : Checked ℕ) → block_in h from ≡ x → model.block_in pl ≡ y → Same (IsBlock w) x y
        → IsRightKeep w line (x >>= kept_from h trail into words from)
    of_block into q found cache_is from pl is place_is our_place x y our_block theirs (fits {a = at} {b = id} b) =
        block_outcome into q found cache_is from pl is place_is our_place at id b (required-is pl.value refusal.NotABlock id theirs)
        our_block
    of_block into q found cache_is from pl is place_is our_place x y our_block theirs (same.refused {why = why}) =
        refused_outcome why
        (ap (keep_from w place) cache_is ∙ ap (keep_placed w place q) place_is ∙ ap (keep_in w place q pl) theirs)

    of_place : (into : Kept ℕ) (q : Numbered Cache) (found : IsCacheFound h w into q) (cache_is : checked.cache_named w name ≡ Ok q)
        (x : Checked (Entry Address)) (y : Checked (Found (Option ℕ))) → block_place_in h place ≡ x → checked.block_place_in w place ≡ y
        → Same (IsPlaceFound past h w place) x y
        → IsRightKeep w line (x >>= (λ from. block_in h from >>= kept_from h trail into words from))
    of_place into q found cache_is x y ours theirs (fits {a = from} {b = pl} is) =
        of_block into q found cache_is from pl is.fit theirs ours (block_in h from) (model.block_in pl) refl refl
        (block_same layout past h w parts own place.index from pl is.fit)
    of_place into q found cache_is x y ours theirs (same.refused {why = why}) =
        refused_outcome why (ap (keep_from w place) cache_is ∙ ap (keep_placed w place q) theirs)

    of_cache : (x : Checked (Kept ℕ)) (y : Checked (Numbered Cache)) → checked.cache_named w name ≡ y → Same (IsCacheFound h w) x y
        → IsRightKeep w line (x >>= (λ (into : Kept ℕ). block_place_in h place >>= (λ from.
        block_in h from >>= kept_from h trail into words from)))
    of_cache x y theirs (fits {a = into} {b = q} found) =
        of_place into q found theirs (block_place_in h place) (checked.block_place_in w place) refl refl
        (place_same layout past h w parts place)
    of_cache x y theirs (same.refused {why = why}) = refused_outcome why (ap (keep_from w place) theirs)

    freed_outcome : IsRightKeep w line (block_to_cache h trail name place words)
    freed_outcome = of_cache (cache_named h name) (checked.cache_named w name) refl (cache_same layout past h w parts name)

-- `cfree` is right, where the trail has no moves before it
pub cfree_is_right : {F : Type 0} (layout : F → Layout) (h : HeapState F) (trail : Moves) (none : trail.moves ≡ []) (name : Name)
    (place : Slot) (result : Checked (Unit {0})) (after : HeapState F) (trail_after : Moves)
    → IsCacheFree h trail name place result after trail_after
    → IsRight layout h (call.CacheFree name place) trail_after.moves (answer_to says_ok result) after
cfree_is_right layout h trail none name place result after trail_after is =
    outcome_is_right layout h trail none (call.CacheFree name place) (block_to_cache h trail name place is.words) result after trail_after
    is.comes (freed_outcome layout h trail none name place is.words is.block)
