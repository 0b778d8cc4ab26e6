-- `calloc` and `cfree` over a trail that has moves: they append theirs, rightly, and the trail keeps its room.
use Rattle.std.proofs.Common.{ℕ, ◌<◌, Bool, true, false, refl}
use Rattle.std.specs.Prelude.{◌==◌, not, slice_get, Option, Some, None}
use Rattle.mps_base.specs.Address.{Address}
use Rattle.mps_base.specs.Segment.{segment_over}
use Rattle.mps_base.specs.Trail.{Moves}
use Rattle.mps_base.specs.declared.moves.Move.TheVariants as moves
use Rattle.mps_base.specs.declared.names.Name.{Name}
use Rattle.mps_base.specs.declared.names.Rank.TheVariants as rank
use Rattle.mps_base.specs.declared.names.Slot.{Slot}
use Rattle.mps_base.specs.declared.refusal.Refusal.TheVariants as refusal
use Rattle.mps_format.specs.Layout.{Layout}
use Rattle.mps_pools.specs.Manual.{answer_of_alloc, has_blocks_of, segs_after_alloc}
use Rattle.mps_model.specs.declared.call.Call.TheVariants as call
use Rattle.mps_model.specs.Checked.{Checked, refuse_when, required}
use Rattle.mps_neighbours.specs.Caches.{blocks_of_size, classes_of, keeps_size, last_of}
use Rattle.mps_seg.specs.Placing.{placement_in_gaps}
use Rattle.mps_heap_spec.specs.Caching.{IsCacheFree, block_from_cache, block_kept, block_taken, block_to_cache, cache_named, with_block_kept, with_block_taken}
use Rattle.mps_heap_spec.specs.Coming.{ComesMoving}
use Rattle.mps_heap_spec.specs.Finding.{block_place_in}
use Rattle.mps_heap_spec.specs.Manual.{block_in, with_block_place}
use Rattle.mps_heap_spec.specs.State.{HeapState}
use Rattle.mps_heap_spec.specs.declared.found.Entry.{Entry}
use Rattle.mps_heap_spec.specs.declared.found.Kept.{Kept}
use Rattle.mps_refinement.specs.Answering.{answer_to, says_ok}
use Rattle.mps_refinement.specs.RightMoving.{IsRightMoving}
use Rattle.mps_refinement.proofs.Calls.CacheAllocs.{calloc_is_right}
use Rattle.mps_refinement.proofs.Calls.CacheFrees.{cfree_is_right}
use Rattle.mps_refinement.proofs.Worlds.Appending.{Appends, after_check, after_refusal, appended_right, freed_appends, fresh, move_appends, moves_after-appends, ok_appends, unmoved}
use Rattle.mps_refinement.proofs.Worlds.Room.{Keeps, alloc_keeps, freed_keeps}
use Rattle.mps_refinement.proofs.Worlds.Room as room

module _ {F : Type 0} (layout : F → Layout) (h : HeapState F) (trail : Moves) where
  taken_appends : (from : Kept ℕ) (size words : ℕ) (into : Entry Address) (o : Option Address)
      → Appends trail.moves (block_taken h trail from size words into o) (block_taken h (fresh trail) from size words into o)
  taken_appends from size words into (Some at) =
      ok_appends trail.moves tt (with_block_taken h from.key words into at) trail (fresh trail) (unmoved trail)
  taken_appends from size words into None =
      after_check trail.moves (answer_of_alloc size h.segs from.value words) _ _ (λ at.
      ok_appends trail.moves tt (with_block_place (record h { segs = segs_after_alloc h.segs from.value words at }) into at.0) _ _
      (move_appends trail.moves _ _ (moves.Alloc at words from.value)
      (moves_after-appends (placement_in_gaps h.segs from.value rank.Exact words) from.value 0 trail.moves trail (fresh trail)
      (unmoved trail))))

  calloc_appends : (name : Name) (words : ℕ) (place : Slot)
      → Appends trail.moves (block_from_cache h trail name words place) (block_from_cache h (fresh trail) name words place)
  calloc_appends name words place =
      after_check trail.moves (cache_named h name) _ _ (λ from.
      after_check trail.moves (block_place_in h place) _ _ (λ into.
      after_check trail.moves (required (slice_get h.sizes from.value) refusal.BadName) _ _ (λ size.
      after_refusal trail.moves (refuse_when (not (has_blocks_of size words)) refusal.BadSize) _ _ (
      after_refusal trail.moves (refuse_when (not (into.value == 0)) refusal.NameTaken) _ _
      (taken_appends from size words into (last_of (blocks_of_size (classes_of h.beside.caches from.key) words)))))))

  pub calloc_is_right_after : (name : Name) (words : ℕ) (place : Slot) (result : Checked (Unit {0})) (after : HeapState F)
      (trail_after : Moves) → ComesMoving h trail (block_from_cache h trail name words place) result after trail_after
      → IsRightMoving layout h (call.CacheAlloc name words place) trail.moves trail_after.moves (answer_to says_ok result) after
  calloc_is_right_after name words place =
      appended_right layout h (call.CacheAlloc name words place) trail says_ok (block_from_cache h trail name words place)
      (block_from_cache h (fresh trail) name words place) (calloc_appends name words place)
      (calloc_is_right layout h (fresh trail) refl name words place)

  kept_appends : (into : Kept ℕ) (size words : ℕ) (from : Entry Address) (at : Address) (keeps : Bool)
      → Appends trail.moves (block_kept h trail into size words from at keeps) (block_kept h (fresh trail) into size words from at keeps)
  kept_appends into size words from at true =
      ok_appends trail.moves tt (with_block_kept h into.key words from at) trail (fresh trail) (unmoved trail)
  kept_appends into size words from at false =
      ok_appends trail.moves tt _ _ _ (freed_appends size h.segs trail (record { 0 = at }))

  cfree_appends : (name : Name) (place : Slot) (words : ℕ)
      → Appends trail.moves (block_to_cache h trail name place words) (block_to_cache h (fresh trail) name place words)
  cfree_appends name place words =
      after_check trail.moves (cache_named h name) _ _ (λ into.
      after_check trail.moves (block_place_in h place) _ _ (λ from.
      after_check trail.moves (block_in h from) _ _ (λ at.
      after_check trail.moves (required (segment_over h.segs.segments at) refusal.NotABlock) _ _ (λ s.
      after_refusal trail.moves (refuse_when (not (s.pool == into.value)) refusal.WrongPool) _ _ (
      after_check trail.moves (required (slice_get h.sizes s.pool) refusal.NotABlock) _ _ (λ size.
      kept_appends into size words from at (keeps_size (classes_of h.beside.caches into.key) words)))))))

  pub cfree_is_right_after : (name : Name) (place : Slot) (result : Checked (Unit {0})) (after : HeapState F) (trail_after : Moves)
      → IsCacheFree h trail name place result after trail_after
      → IsRightMoving layout h (call.CacheFree name place) trail.moves trail_after.moves (answer_to says_ok result) after
  cfree_is_right_after name place result after trail_after is =
      appended_right layout h (call.CacheFree name place) trail says_ok (block_to_cache h trail name place is.words)
      (block_to_cache h (fresh trail) name place is.words) (cfree_appends name place is.words)
      (λ r s t comes. cfree_is_right layout h (fresh trail) refl name place r s t
      (record { words = is.words; block = is.block; comes = comes })) result after trail_after is.comes

  -- ---- room

  taken_keeps : (from : Kept ℕ) (size words : ℕ) (into : Entry Address) (o : Option Address) → 1 < trail.spare
      → Keeps trail (block_taken h trail from size words into o)
  taken_keeps from size words into (Some at) some = refl
  taken_keeps from size words into None some =
      room.after_check trail (answer_of_alloc size h.segs from.value words) _ (λ at. alloc_keeps h.segs trail from.value words at some)

  pub calloc_keeps_room : (name : Name) (words : ℕ) (place : Slot) → 1 < trail.spare
      → Keeps trail (block_from_cache h trail name words place)
  calloc_keeps_room name words place some =
      room.after_check trail (cache_named h name) _ (λ from.
      room.after_check trail (block_place_in h place) _ (λ into.
      room.after_check trail (required (slice_get h.sizes from.value) refusal.BadName) _ (λ size.
      room.after_refusal trail (refuse_when (not (has_blocks_of size words)) refusal.BadSize) _ (
      room.after_refusal trail (refuse_when (not (into.value == 0)) refusal.NameTaken) _
      (taken_keeps from size words into (last_of (blocks_of_size (classes_of h.beside.caches from.key) words)) some)))))

  kept_keeps : (into : Kept ℕ) (size words : ℕ) (from : Entry Address) (at : Address) (keeps : Bool) → 1 < trail.spare
      → Keeps trail (block_kept h trail into size words from at keeps)
  kept_keeps into size words from at true some = refl
  kept_keeps into size words from at false some = freed_keeps size h.segs trail (record { 0 = at }) some

  pub cfree_keeps_room : (name : Name) (place : Slot) (words : ℕ) → 1 < trail.spare
      → Keeps trail (block_to_cache h trail name place words)
  cfree_keeps_room name place words some =
      room.after_check trail (cache_named h name) _ (λ into.
      room.after_check trail (block_place_in h place) _ (λ from.
      room.after_check trail (block_in h from) _ (λ at.
      room.after_check trail (required (segment_over h.segs.segments at) refusal.NotABlock) _ (λ s.
      room.after_refusal trail (refuse_when (not (s.pool == into.value)) refusal.WrongPool) _ (
      room.after_check trail (required (slice_get h.sizes s.pool) refusal.NotABlock) _ (λ size.
      kept_keeps into size words from at (keeps_size (classes_of h.beside.caches into.key) words) some))))))
