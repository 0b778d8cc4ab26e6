-- `cflush`: from its outcome to a right step. The blocks leave the cache first, and then are freed one after the other.
use Rattle.std.proofs.Common.{◌≡◌, ◌∙◌, ℕ, ◌+◌, ◌≤◌, Bool, true, false, refl, sym, ap, subst, List, [], ◌∷◌, ◌++◌, map, Option, Some, None, Ok, Err, arith}
use Rattle.std.proofs.lemmas.Bool.{and_parts, eqb-true, false≢true}
use Rattle.std.proofs.lemmas.List.{map-append}
use Rattle.std.specs.Prelude.{◌==◌, ◌&&◌, not, slice_get}
use Rattle.std.specs.List.{flat_map, list_all}
use Rattle.std.specs.Option.{option_map_or}
use Rattle.mps_base.specs.Address.{Address, Id}
use Rattle.mps_base.specs.Trail.{Moves}
use Rattle.mps_base.specs.declared.names.Name.{Name}
use Rattle.mps_base.specs.declared.refusal.Refusal.{Refusal}
use Rattle.mps_base.specs.declared.refusal.Refusal.TheVariants as refusal
use Rattle.mps_format.specs.Layout.{Layout}
use Rattle.mps_format.specs.Pools.{size_of_pool}
use Rattle.mps_changes.proofs.OneMore.{both_pass, cache_passes, flush_occurs, flush_passes, flushed_pass, occurrences-append, parts_pass}
use Rattle.mps_laws.proofs.Lookups.{length-slice_set}
use Rattle.mps_laws.proofs.OnePlace.{AreInOnePlace, in_one_place}
use Rattle.mps_laws.proofs.Same as same
use Rattle.mps_laws.proofs.Same.{Same, fits}
use Rattle.mps_laws.proofs.Sound.HeldIds.{All, all-append, all-weaker}
use Rattle.mps_laws.proofs.Sound.SoundGraph.{auto}
use Rattle.mps_trace_laws.proofs.Image.Shaped.{all_at}
use Rattle.mps_model.specs.declared.call.Call.TheVariants as call
use Rattle.mps_model.specs.declared.reply.Reply.TheVariants as reply
use Rattle.mps_model.proofs.Reaching.{list_all-contains}
use Rattle.mps_model.specs.Answer.{Answer, Replied}
use Rattle.mps_model.specs.Caches as models
use Rattle.mps_model.specs.Caches.{act_cache_flush, may_have_cache}
use Rattle.mps_model.specs.Checked as checked
use Rattle.mps_model.specs.Checked.{Checked, Numbered, ◌>>=◌, done, required, with_graph}
use Rattle.mps_model.specs.Graph.{Cache, CacheClass, Object, contains, from_last, ids_in_blocks, ids_in_caches, ids_in_places, is_automatic, is_automatic_body, occurrences, size_of}
use Rattle.mps_model.specs.History.{moves_of_cache_flush}
use Rattle.mps_model.specs.WellFormed.{is_right_cache, is_right_class}
use Rattle.mps_model.specs.World as world
use Rattle.mps_model.specs.World.{World, PoolKind, Collected, OneSize, AnySize, Frames, is_automatic_kind, is_live, object_is, pool_at, pool_is}
use Rattle.mps_neighbours.specs.Caches as caches
use Rattle.mps_neighbours.specs.Caches.{classes_of}
use Rattle.mps_heap_spec.specs.Caching as ours
use Rattle.mps_heap_spec.specs.Caching.{cache_flushed, cache_named, with_cache_flushed}
use Rattle.mps_heap_spec.specs.Coming.{ComesMoving, Moved}
use Rattle.mps_heap_spec.specs.Manual.{Freeing, row_freed}
use Rattle.mps_heap_spec.specs.State.{HeapState}
use Rattle.mps_heap_spec.specs.declared.found.Kept.{Kept}
use Rattle.mps_refinement.specs.Answering.{answer_to, says_ok}
use Rattle.mps_refinement.specs.Beside.{kept_cache, kept_class}
use Rattle.mps_refinement.specs.RightStep.{IsRight}
use Rattle.mps_refinement.specs.StandsFor.{AreParts, IsInTime, IsReached, Past, address_of_id, collector_of}
use Rattle.mps_refinement.proofs.Calls.RightOwn.{IsOwn, IsRightOutcome, outcome_is_right, refusal_is_right}
use Rattle.mps_refinement.proofs.Calls.RowsFreed.{AreUnheld, IsManualPool, frees_are_right, manual_pool, size_kept}
use Rattle.mps_refinement.proofs.Lookups.CachesFound.{IsCacheFound, cache_same, classes_kept, classes_written}
use Rattle.mps_refinement.proofs.Lookups.ManualBlocks.{IsBlock, block_is, passes_there}
use Rattle.mps_refinement.proofs.Parts.CachesStill.{none_equal, occurs_there, reversed_occurs}
use Rattle.mps_refinement.proofs.Parts.CachesWritten.{caches_written, heap_with_caches, world_with_caches}
use Rattle.mps_refinement.proofs.Worlds.Known.{IsKnown}
use Rattle.mps_refinement.proofs.Worlds.PlacedOnce.{is_sized}
use Rattle.mps_refinement.proofs.Worlds.RowOfFrees.{AreRow, row_of, world_row}

abbrev ok : Answer
ok = Replied reply.Ok

-- ---- the blocks of a cache, in both

module _ (f : Id → Address) where
  reversed_alike : (ids : List Id) → from_last (map f ids) ≡ map f (from_last ids)
  reversed_alike [] = refl
  reversed_alike (id ∷ ids) =
      ap (λ ats. ats ++ f id ∷ []) (reversed_alike ids) ∙ sym (map-append f (from_last ids) (id ∷ []))

module _ (addresses : List (Option Address)) where
  flushed_alike : (ks : List CacheClass)
      → ours.flushed (map (kept_class addresses) ks)
      ≡ map (address_of_id addresses) (flat_map (λ (k : CacheClass). from_last k.cached) ks)
  flushed_alike [] = refl
  flushed_alike (k ∷ ks) =
      ap (λ ats. ats ++ ours.flushed (map (kept_class addresses) ks)) (reversed_alike (address_of_id addresses) k.cached)
      ∙ ap (λ ats. map (address_of_id addresses) (from_last k.cached) ++ ats) (flushed_alike ks)
      ∙ sym (map-append (address_of_id addresses) (from_last k.cached)
      (flat_map (λ (k : CacheClass). from_last k.cached) ks))

  emptied_alike : (ks : List CacheClass) → map ours.emptied (map (kept_class addresses) ks) ≡ map (kept_class addresses)
      (map models.emptied ks)
  emptied_alike [] = refl
  emptied_alike (k ∷ ks) = ap (λ cs. kept_class addresses (models.emptied k) ∷ cs) (emptied_alike ks)

-- a block is freed as often as it is cached
flushed_occurs : (j : ℕ) (ks : List CacheClass)
    → occurrences (flat_map (λ (k : CacheClass). from_last k.cached) ks) j
    ≡ occurrences (flat_map (λ (k : CacheClass). k.cached) ks) j
flushed_occurs j [] = refl
flushed_occurs j (k ∷ ks) =
    let own = reversed_occurs j k.cached in
    let rest = flushed_occurs j ks in
    let left = occurrences-append j (from_last k.cached) (flat_map (λ (k : CacheClass). from_last k.cached) ks) in
    let right = occurrences-append j k.cached (flat_map (λ (k : CacheClass). k.cached) ks) in
    omega (arith, own, rest, left, right)

-- the pool of a cache has blocks of any sizes
any_size_pool : (kind : PoolKind) → may_have_cache kind ≡ true → (is_automatic_kind kind ≡ false) × (is_sized kind ≡ true)
any_size_pool (Collected kind) may = absurd (false≢true may)
any_size_pool (OneSize words) may = absurd (false≢true may)
any_size_pool AnySize may = (refl, refl)
any_size_pool Frames may = absurd (false≢true may)

of_classes : (w : World) (pool : ℕ) (ks : List CacheClass) → list_all (is_right_class w pool) ks ≡ true
    → All (object_is (λ o. o.pool == pool) w) (flat_map (λ (k : CacheClass). k.cached) ks)
of_classes w pool [] right = refl
of_classes w pool (k ∷ ks) right =
    let parts = and_parts (is_right_class w pool k) (list_all (is_right_class w pool) ks) right in
    all-append (object_is (λ o. o.pool == pool) w) k.cached (flat_map (λ (k : CacheClass). k.cached) ks)
    (all-weaker (object_is (λ o. o.pool == pool && size_of o == k.words) w)
    (object_is (λ o. o.pool == pool) w) (λ id passes. weaker (slice_get w.graph.objects id) passes) k.cached parts.0)
    (of_classes w pool ks parts.1)
  where
    weaker : (o : Option Object) → option_map_or (λ (x : Object). x.pool == pool && size_of x == k.words) o false
        ≡ true → option_map_or (λ (x : Object). x.pool == pool) o false ≡ true
    weaker None e = e
    weaker (Some x) e = (and_parts (x.pool == pool) (size_of x == k.words) e).0

module _ {F : Type 0} (layout : F → Layout) (h : HeapState F) (trail : Moves) (none : trail.moves ≡ []) (name : Name) where
  abbrev IsRightFlush : World → ℕ → Checked (Moved F (Unit {0})) → Type 0
  IsRightFlush w line o = IsRightOutcome layout h trail none (call.CacheFlush name) w line o

  module _ (w : World) (line : ℕ) (past : Past) (parts : AreParts layout past h w) (own : IsKnown past.time w)
      (reach : IsReached w) (time : IsInTime past.time (collector_of h) w) where
    is_own : IsOwn w (call.CacheFlush name)
    is_own = record {
      arena = refl;
      collected = λ ms answer. refl;
      legal = λ ms. tt;
      marked = λ y answer. tt;
      read = λ y. tt;
      possible = λ answer. tt;
      unasked = λ why. refl;
      still = refl;
      judged = λ ms. refl;
      taken = λ v. refl;
    }

    refused_outcome : (why : Refusal) → act_cache_flush w name ≡ Err why → IsRightFlush w line (Err why)
    refused_outcome why e =
        refusal_is_right layout h trail none (call.CacheFlush name) w line past parts own reach time is_own why e

    once : AreInOnePlace w
    once = subst AreInOnePlace (sym reach.is) (in_one_place w.formats reach.history reach.legal)

    module _ (of : Kept ℕ) (q : Numbered Cache) (found : IsCacheFound h w of q) (cache_is : checked.cache_named w name ≡ Ok q) where
      abbrev pool : ℕ
      pool = q.value.pool

      abbrev ids : List Id
      ids = models.flushed q.value

      abbrev f : Id → Address
      f id = address_of_id w.addresses id

      abbrev ats : List Address
      ats = map f ids

      key_is : of.key ≡ q.number
      key_is = sym found.number

      ats_are : ours.flushed (classes_of h.beside.caches of.key) ≡ ats
      ats_are =
          ap (λ n. ours.flushed (classes_of h.beside.caches n)) key_is
          ∙ ap ours.flushed (classes_kept layout past h w parts q.number q.value found.has)
          ∙ flushed_alike w.addresses q.value.classes

      -- ---- the pool

      right_cache : is_right_cache w q.value ≡ true
      right_cache = all_at (is_right_cache w) w.graph.caches q.number q.value own.formed.caches found.has

      right_parts : (pool_is may_have_cache w pool ≡ true) × (list_all (is_right_class w pool) q.value.classes ≡ true)
      right_parts = and_parts (pool_is may_have_cache w pool) (list_all (is_right_class w pool) q.value.classes) right_cache

      of_pool : (p : world.Pool) × (pool_at w pool ≡ Some p) × (may_have_cache p.kind ≡ true)
      of_pool = passes_there (λ (p : world.Pool). may_have_cache p.kind) (pool_at w pool) right_parts.0

      manual : IsManualPool layout h w pool
      manual =
          let kind = any_size_pool of_pool.0.kind of_pool.2 in
          manual_pool layout past h w parts pool of_pool.0 of_pool.1 kind.0 kind.1

      -- ---- the blocks

      placed_live : All (is_live w) (ids_in_places w.graph) × All (is_live w) (ids_in_caches w.graph)
      placed_live = parts_pass (is_live w) (ids_in_places w.graph) (ids_in_caches w.graph) own.live.blocks

      all_flushed : (test : ℕ → Bool) → All test (ids_in_caches w.graph) → All test ids
      all_flushed test all =
          flushed_pass test q.value.classes (cache_passes w.graph q found.has test all)

      abbrev is_manual : Id → Bool
      is_manual id = object_is (λ o. not (is_automatic o)) w id

      all_manual : All is_manual ids
      all_manual =
          all_flushed is_manual (parts_pass is_manual (ids_in_places w.graph) (ids_in_caches w.graph) own.formed.blocks).1

      all_of_pool : All (object_is (λ o. o.pool == pool) w) ids
      all_of_pool =
          flushed_pass (object_is (λ o. o.pool == pool) w) q.value.classes (of_classes w pool q.value.classes right_parts.1)

      block : (id : Id) → contains ids id ≡ true → (at : Address) × ((b : IsBlock w at id) × (b.object.pool ≡ pool))
      block id there =
          let b = block_is layout past h w parts own id (list_all-contains (is_live w) ids id (all_flushed (is_live w) placed_live.1) there)
          (list_all-contains is_manual ids id all_manual there) in (
            b.0,
            (
              b.1,
              eqb-true b.1.object.pool pool (sym (ap (λ o. option_map_or (λ (x : Object). x.pool == pool) o false) b.1.there)
                  ∙ list_all-contains (object_is (λ o. o.pool == pool) w) ids id all_of_pool there),
            ),
          )

      -- ---- without the blocks of the cache

      abbrev left_caches : List Cache
      left_caches = (models.with_classes w.graph q (map models.emptied q.value.classes)).caches

      abbrev u : World
      u = world_with_caches w left_caches

      -- each block is freed once, and then held nowhere
      counted : (id : Id) → occurrences (ids_in_blocks w.graph) id ≡ occurrences (ids_in_blocks u.graph) id + occurrences ids id
      counted id =
          let before = occurrences-append id (ids_in_places w.graph) (ids_in_caches w.graph) in
          let after = occurrences-append id (ids_in_places w.graph) (ids_in_caches u.graph) in
          let flush = flush_occurs w.graph q found.has id in
          let same = flushed_occurs id q.value.classes in
          omega (arith, before, after, flush, same)

      ids_once : (id : Id) → occurrences ids id ≤ 1
      ids_once id =
          let sum = counted id in
          let most : occurrences (ids_in_blocks w.graph) id ≤ 1 = once.once id in
          omega (arith, sum, most)

      row : AreRow w pool ids ats
      row = row_of w pool ids block ids_once

      manual_of : (id : Id) → contains ids id ≡ true → auto w id ≡ false
      manual_of id there =
          let b = block id there in
          ap (λ o. option_map_or is_automatic o false) b.1.0.there
          ∙ ap is_automatic_body b.1.0.right.body

      unheld : (id : Id) → contains ids id ≡ true → All (λ j. not (id == j)) (ids_in_blocks u.graph)
      unheld id there =
          let sum = counted id in
          let most : occurrences (ids_in_blocks w.graph) id ≤ 1 = once.once id in
          let some = occurs_there ids id there in
          let zero_left : occurrences (ids_in_blocks u.graph) id ≡ 0 = omega (arith, sum, most, some) in
          none_equal id (ids_in_blocks u.graph) zero_left

      caches_fit : caches.with_classes h.beside.caches of.key (map ours.emptied (classes_of h.beside.caches of.key))
          ≡ map (kept_cache w.addresses) left_caches
      caches_fit =
          ap (λ n. caches.with_classes h.beside.caches n (map ours.emptied (classes_of h.beside.caches n))) key_is
          ∙ classes_written layout past h w parts q.number q.value found.has
          (map ours.emptied (classes_of h.beside.caches q.number)) (map models.emptied q.value.classes)
          (ap (map ours.emptied) (classes_kept layout past h w parts q.number q.value found.has)
          ∙ emptied_alike w.addresses q.value.classes)

      abbrev caches_now : List caches.CacheState
      caches_now = caches.with_classes h.beside.caches of.key (map ours.emptied (classes_of h.beside.caches of.key))

      parts_left : AreParts layout past (heap_with_caches h caches_now) u
      parts_left =
          caches_written layout past h w parts caches_now left_caches caches_fit
          (let e = length-slice_set h.beside.caches of.key (record (caches.cache_at h.beside.caches of.key) {
            classes = map ours.emptied (classes_of h.beside.caches of.key);
          }) in omega (arith, e))

      -- ---- the frees

      passes : (test : Id → Bool) → All test (ids_in_blocks w.graph) → All test (ids_in_blocks u.graph)
      passes test all =
          let parts = parts_pass test (ids_in_places w.graph) (ids_in_caches w.graph) all in
          both_pass test (ids_in_places w.graph) (ids_in_caches u.graph) parts.0 (flush_passes w.graph q found.has test parts.1)

      are_unheld : AreUnheld layout past h w pool ids ats h.roots (record h.beside { caches = caches_now }) w.graph.blocks left_caches
          w.graph.frames
      are_unheld = record {
        of_pool = manual;
        row = row;
        manual = manual_of;
        unheld = unheld;
        passes = passes;
        parts = parts_left;
      }

      size_is : slice_get h.sizes of.value ≡ Some (size_of_pool are_unheld.of_pool.ours)
      size_is = ap (slice_get h.sizes) found.fit ∙ size_kept layout past h w parts pool are_unheld.of_pool

      abbrev start : Freeing
      start = record { segs = h.segs; trail = trail }

      done_outcome : IsRightFlush w line (Ok (with_cache_flushed h of.key (row_freed (size_of_pool are_unheld.of_pool.ours) start
          ats)))
      done_outcome =
          frees_are_right layout h trail none (call.CacheFlush name) w line past parts own reach time is_own pool ids ats h.roots
          (record h.beside { caches = caches_now }) w.graph.blocks left_caches w.graph.frames are_unheld
          (sym (ap (moves_of_cache_flush w) cache_is))
          (λ addresses segments pairs moved.
          ap (λ (x : World). act_cache_flush x name) moved
          ∙ ap (λ x. x >>= (λ (from : Numbered Cache). done (with_graph (world_row w addresses segments pairs)
          (models.with_classes (world_row w addresses segments pairs).graph from (map models.emptied from.value.classes))))) cache_is)

      flushed_outcome : IsRightFlush w line (required (slice_get h.sizes of.value) refusal.BadName >>= (λ n.
          Ok (with_cache_flushed h of.key (row_freed n start (ours.flushed (classes_of h.beside.caches of.key))))))
      flushed_outcome =
          subst (λ o. IsRightFlush w line (required o refusal.BadName >>= (λ n.
          Ok (with_cache_flushed h of.key (row_freed n start (ours.flushed (classes_of h.beside.caches of.key))))))) (sym size_is)
          (subst (λ xs. IsRightFlush w line (Ok (with_cache_flushed h of.key (row_freed (size_of_pool are_unheld.of_pool.ours) start
          xs))))
          (sym ats_are) done_outcome)

    -- ---- the check

    of_cache : (x : Checked (Kept ℕ)) (y : Checked (Numbered Cache)) → checked.cache_named w name ≡ y → Same (IsCacheFound h w) x y
        → IsRightFlush w line (x >>= (λ (of : Kept ℕ). required (slice_get h.sizes of.value) refusal.BadName >>= (λ n.
        Ok (with_cache_flushed h of.key (row_freed n (record { segs = h.segs; trail = trail })
        (ours.flushed (classes_of h.beside.caches of.key)))))))
    of_cache x y theirs (fits {a = of} {b = q} found) = flushed_outcome of q found theirs
    of_cache x y theirs (same.refused {why = why}) =
        refused_outcome why (ap (λ x. x >>= (λ (from : Numbered Cache). done (with_graph w (models.with_classes w.graph from
        (map models.emptied from.value.classes))))) theirs)

    flush_outcome : IsRightFlush w line (cache_flushed h trail name)
    flush_outcome = of_cache (cache_named h name) (checked.cache_named w name) refl (cache_same layout past h w parts name)

-- `cflush` is right, where the trail has no moves before it
pub cflush_is_right : {F : Type 0} (layout : F → Layout) (h : HeapState F) (trail : Moves) (none : trail.moves ≡ []) (name : Name)
    (result : Checked (Unit {0})) (after : HeapState F) (trail_after : Moves)
    → ComesMoving h trail (cache_flushed h trail name) result after trail_after
    → IsRight layout h (call.CacheFlush name) trail_after.moves (answer_to says_ok result) after
cflush_is_right layout h trail none name result after trail_after comes =
    outcome_is_right layout h trail none (call.CacheFlush name) (cache_flushed h trail name) result after trail_after comes
    (flush_outcome layout h trail none name)
