-- The parts of a heap stand for those of a world after a block was taken from a cache in both: it is cleared, leaves the cache and
-- stands in a place.
use Rattle.std.proofs.Common.{◌≡◌, ◌∙◌, ℕ, ◌+◌, true, false, sym, ap, subst, List, length, map, Option, Some, None, arith}
use Rattle.std.proofs.lemmas.Bool.{and_parts, eqb-true, le-leb}
use Rattle.std.proofs.lemmas.Option.{none-some, same_Some}
use Rattle.std.specs.Prelude.{◌==◌, ◌&&◌, not, slice_get, if◌then◌else◌}
use Rattle.std.specs.List.{list_all}
use Rattle.std.specs.Option.{option_map_or}
use Rattle.mps_seg.specs.Arena.{cleared_words}
use Rattle.mps_base.specs.Address.{Address, Id, word_of}
use Rattle.mps_format.specs.Layout.{Layout}
use Rattle.mps_changes.proofs.Frames.{blocks_in}
use Rattle.mps_changes.proofs.OneMore.{parts_pass}
use Rattle.mps_laws.proofs.Lookups.{length-slice_set}
use Rattle.mps_model.specs.Caches as models
use Rattle.mps_model.specs.Caches.{graph_cleared, taken_from}
use Rattle.mps_model.specs.Checked.{Found, Numbered, with_graph}
use Rattle.mps_model.specs.Graph.{Cache, CacheClass, Object, ids_in_caches, ids_in_places, is_automatic, size_of, size_of_body}
use Rattle.mps_model.specs.WellFormed.{is_right_class}
use Rattle.mps_model.specs.World.{World, is_live, object_is}
use Rattle.mps_neighbours.specs.Caches as caches
use Rattle.mps_neighbours.specs.Caches.{classes_of}
use Rattle.mps_heap_spec.specs.Caching.{with_block_taken, words_cleared}
use Rattle.mps_heap_spec.specs.Finding.{with_words}
use Rattle.mps_heap_spec.specs.declared.found.Entry.{Entry}
use Rattle.mps_heap_spec.specs.declared.found.Kept.{Kept}
use Rattle.mps_heap_spec.specs.State.{HeapState}
use Rattle.mps_refinement.specs.Beside.{kept_cache}
use Rattle.mps_refinement.specs.StandsFor.{AreParts, Past, address_of_id}
use Rattle.mps_refinement.proofs.Lookups.CachesFound.{IsCacheFound, IsTakenAlike, classes_kept, classes_written, taken_alike}
use Rattle.mps_refinement.proofs.Lookups.Lookups.{IsPlaceEntry}
use Rattle.mps_refinement.proofs.Lookups.ManualBlocks.{IsBlock, block_is}
use Rattle.mps_refinement.proofs.Parts.BlockWritten.{block_cleared, block_within}
use Rattle.mps_refinement.proofs.Parts.CachesWritten.{caches_written, heap_with_caches, world_with_caches}
use Rattle.mps_refinement.proofs.Parts.FramedParts.{all_true}
use Rattle.mps_refinement.proofs.Parts.PlaceWritten.{block_place_written}
use Rattle.mps_laws.proofs.TakenBlocks.{taken_right}
use Rattle.mps_refinement.proofs.Worlds.CachedBlocks.{taken_passes, world_taken}
use Rattle.mps_refinement.proofs.Worlds.Known.{IsKnown}
use Rattle.mps_refinement.proofs.Worlds.ZeroedWords.{zeroed_cleared}

module _ {F : Type 0} (layout : F → Layout) (past : Past) (h : HeapState F) (w : World) (parts : AreParts layout past h w)
    (own : IsKnown past.time w) (from : Kept ℕ) (q : Numbered Cache) (found : IsCacheFound h w from q)
    (right : list_all (is_right_class w q.value.pool) q.value.classes ≡ true) (words index : ℕ) (into : Entry Address)
    (pl : Found (Option ℕ)) (is : IsPlaceEntry past h w index into pl) (empty_entry : slice_get pl.list pl.index ≡ Some None) (id : Id)
    (left : List CacheClass) (taken : taken_from q.value.classes words ≡ Some (id, left)) where
  block : (at : Address) × IsBlock w at id
  block =
      block_is layout past h w parts own id
      (taken_passes w q found.has pl is.has words id left taken (is_live w)
      (parts_pass (is_live w) (ids_in_places w.graph) (ids_in_caches w.graph) own.live.blocks).1)
      (taken_passes w q found.has pl is.has words id left taken (object_is (λ o. not (is_automatic o)) w)
      (parts_pass (object_is (λ o. not (is_automatic o)) w) (ids_in_places w.graph) (ids_in_caches w.graph)
      own.formed.blocks).1)

  abbrev at : Address
  at = block.0

  abbrev b : IsBlock w block.0 id
  b = block.1

  address_is : address_of_id w.addresses id ≡ at
  address_is = ap (λ o. option_map_or (λ a. a) o 0) b.address

  -- it has the words of its class
  count_is : length b.right.words ≡ words
  count_is =
      let right_block = taken_right w q.value.pool words q.value.classes id left right taken in
      let of_object : (b.object.pool == q.value.pool && size_of b.object == words) ≡ true =
      sym (ap (λ o. option_map_or (λ (x : Object). x.pool == q.value.pool && size_of x == words) o false)
      b.there) ∙ right_block in
      sym (ap (λ body. size_of_body body) b.right.body)
      ∙ eqb-true (size_of b.object) words (and_parts (b.object.pool == q.value.pool) (size_of b.object == words) of_object).1

  cleared : words_cleared h.segs.words at words ≡ cleared_words h.segs.words (word_of at) (length b.right.words)
  cleared =
      let within = block_within layout past h w parts own.laid at id b in
      let few = count_is in
      ap (λ c. if c then cleared_words h.segs.words (word_of at) words else h.segs.words)
      (le-leb (word_of at + words) (length h.segs.words) (omega (arith, within, few)))
      ∙ ap (cleared_words h.segs.words (word_of at)) (sym few)

  abbrev heap_cleared : HeapState F
  heap_cleared = with_words h (words_cleared h.segs.words at words)

  abbrev world_cleared : World
  world_cleared = with_graph w (graph_cleared w.graph id)

  parts_cleared : AreParts layout past heap_cleared world_cleared
  parts_cleared =
      subst (λ ws. AreParts layout past (with_words h ws) world_cleared) (sym cleared)
      (subst (λ os. AreParts layout past (with_words h (cleared_words h.segs.words (word_of at) (length b.right.words)))
      (with_graph w (record w.graph { objects = os })))
      (zeroed_cleared w.graph id b.object b.right.words b.there b.right.body)
      (block_cleared layout past h w parts own.laid at id b))

  taken_same : IsTakenAlike w.addresses words q.value.classes (Some (id, left))
  taken_same = subst (IsTakenAlike w.addresses words q.value.classes) taken (taken_alike w.addresses words q.value.classes)

  abbrev caches_now : List caches.CacheState
  caches_now = caches.with_classes h.beside.caches from.key
      (caches.without_last_of_size (classes_of h.beside.caches from.key) words)

  caches_fit : caches_now
      ≡ map (kept_cache w.addresses) (models.with_classes w.graph q left).caches
  caches_fit =
      ap (λ n. caches.with_classes h.beside.caches n
      (caches.without_last_of_size (classes_of h.beside.caches n) words)) (sym found.number)
      ∙ classes_written layout past h w parts q.number q.value found.has
      (caches.without_last_of_size (classes_of h.beside.caches q.number) words) left
      (ap (λ ks. caches.without_last_of_size ks words)
      (classes_kept layout past h w parts q.number q.value found.has) ∙ taken_same.1)

  parts_taken : AreParts layout past (with_block_taken h from.key words into at) (world_taken w q found.has pl is.has words id left taken)
  parts_taken =
      block_place_written layout past (heap_with_caches heap_cleared caches_now)
      (world_with_caches world_cleared (models.with_classes w.graph q left).caches)
      (caches_written layout past heap_cleared world_cleared parts_cleared caches_now (models.with_classes w.graph q left).caches
      caches_fit
      (let e = length-slice_set h.beside.caches from.key
      (record (caches.cache_at h.beside.caches from.key) {
        classes = caches.without_last_of_size (classes_of h.beside.caches from.key) words;
      }) in omega (arith, e)))
      into pl (is.number) (is.index_is ∙ sym is.found_index) is.has at (Some id) (sym address_is) (λ j. true)
      (all_true (blocks_in w.graph.frames)) (λ j entry passes. none-some j (same_Some None (Some j) (sym empty_entry ∙ entry)))

  pub taken_parts : (at : Address) × (address_of_id w.addresses id ≡ at)
      × AreParts layout past (with_block_taken h from.key words into at) (world_taken w q found.has pl is.has words id left taken)
  taken_parts = (at, address_is, parts_taken)
