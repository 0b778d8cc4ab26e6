-- The moves of the calls of a client that free manual blocks. What holds after no moves, after the moves that free one manual block and
-- after those that free several, holds after the moves of such a call.
use Rattle.std.proofs.Common.{◌≡◌, ℕ, Bool, true, false, refl, sym, subst, List, [], Option, Some, None, Ok, Err}
use Rattle.std.proofs.lemmas.Bool.{false≢true}
use Rattle.std.specs.Prelude.{if◌then◌else◌, is_some, slice_get}
use Rattle.std.specs.Option.{option_map_or}
use Rattle.mps_base.specs.declared.moves.Move.{Move}
use Rattle.mps_base.specs.declared.names.Name.{Name}
use Rattle.mps_base.specs.declared.names.Slot.{Slot}
use Rattle.mps_model.specs.declared.call.Call.{Call}
use Rattle.mps_model.specs.declared.call.Call.TheVariants as call
use Rattle.mps_model.specs.Accessing.{address_or_null}
use Rattle.mps_model.specs.Answer.{Answer, is_refused}
use Rattle.mps_model.specs.Caches.{flushed, kept_by}
use Rattle.mps_model.specs.Checked.{Checked, Found, Numbered, as_blocks, block_place_in, cache_named, number_named}
use Rattle.mps_model.specs.Frames.{blocks_popped, frame_in, frames_named}
use Rattle.mps_model.specs.Graph.{Cache, CacheClass, PoolFrames, entries, entry_at, ids_in_frames, ids_of_cache}
use Rattle.mps_model.specs.History.{AreMovesOf, free_of, free_of_object, moves_if_not_kept, moves_of_cache_flush, moves_of_cache_free, moves_of_frame, moves_of_free, moves_of_frees, moves_of_pop, unless_refused}
use Rattle.mps_model.specs.World.{World}
use Rattle.mps_changes.proofs.Checks.{cache_named-is, frames_named-is}
use Rattle.mps_changes.proofs.Frames.{found_blocks_pass, popped_pass}
use Rattle.mps_changes.proofs.OneMore.{flushed_pass}
use Rattle.mps_laws.proofs.FoundBy.{found_by}
use Rattle.mps_laws.proofs.Replays.FreeSteps.{BlocksAreLive, block_is_live}
use Rattle.mps_laws.proofs.Sound.SoundGraph.{All, IsSoundGraph, PassesOrNull, all-at, entry-passes, manual, manual_parts}
use Rattle.mps_client_laws.specs.Addresses.{frees_blocks}

-- the block in a place is manual
placed_is_manual : (w : World) (place : Slot) (found : Found (Option ℕ)) (id : ℕ) → IsSoundGraph w → block_place_in w place ≡ Ok found
    → found.value ≡ Some id → manual w id ≡ true
placed_is_manual w place found id s e f =
    let g = found_by (number_named w place.name as_blocks) (λ n. slice_get w.graph.blocks n) place.index found e in
    subst (PassesOrNull (manual w)) f (entry-passes (manual w) found.list found.index found.value
    (all-at (manual w) entries w.graph.blocks found.number found.list (manual_parts w s).0 g.0) g.1)

module _ (w : World) (sound : IsSoundGraph w) (Left : List Move → Type 0) (none : Left [])
    (one : (id : ℕ) → manual w id ≡ true → Left (free_of_object w id))
    (several : (ids : List ℕ) → All (manual w) ids → Left (moves_of_frees w ids)) where
  unless_left : (answer : Answer) (ms : List Move) → Left ms → Left (unless_refused answer ms)
  unless_left answer ms left = by_case (is_refused answer)
    where
      by_case : (b : Bool) → Left (if b then [] else ms)
      by_case true = none
      by_case false = left

  free_left : (place : Slot) → BlocksAreLive w → Left (moves_of_free w (block_place_in w place))
  free_left place live = of_place (block_place_in w place) refl
    where
      of_live : (id : ℕ) → (o : Option ℕ) → is_some o ≡ true → Left (option_map_or (free_of w) o [])
          → Left (free_of w (option_map_or (λ at. at) o 0))
      of_live id None some left = absurd (false≢true some)
      of_live id (Some at) some left = left

      of_value : (found : Found (Option ℕ)) (o : Option ℕ) → block_place_in w place ≡ Ok found → found.value ≡ o
          → Left (option_map_or (λ id. free_of w (address_or_null w id)) o [])
      of_value found None e f = none
      of_value found (Some id) e f =
          of_live id (entry_at w.addresses id) (block_is_live w place found id live e f)
          (one id (placed_is_manual w place found id sound e f))

      of_place : (x : Checked (Found (Option ℕ))) → block_place_in w place ≡ x → Left (moves_of_free w x)
      of_place (Err why) e = none
      of_place (Ok found) e = of_value found found.value e refl

  cache_free_left : (q : Checked (Numbered Cache)) (place : Slot) → Left (moves_of_cache_free w q (block_place_in w place))
  cache_free_left q place = of_both q (block_place_in w place) refl
    where
      of_kept : (id : ℕ) → manual w id ≡ true → (o : Option (List CacheClass)) → Left (moves_if_not_kept w id o)
      of_kept id kind None = one id kind
      of_kept id kind (Some classes) = none

      of_value : (q : Numbered Cache) (found : Found (Option ℕ)) (o : Option ℕ) → block_place_in w place ≡ Ok found → found.value ≡ o
          → Left (option_map_or (λ id. moves_if_not_kept w id (kept_by w q.value id)) o [])
      of_value q found None e f = none
      of_value q found (Some id) e f = of_kept id (placed_is_manual w place found id sound e f) (kept_by w q.value id)

      of_both : (q : Checked (Numbered Cache)) (x : Checked (Found (Option ℕ))) → block_place_in w place ≡ x
          → Left (moves_of_cache_free w q x)
      of_both (Ok q) (Ok found) e = of_value q found found.value e refl
      of_both (Ok q) (Err why) e = none
      of_both (Err why) x e = none

  cache_flush_left : (name : Name) → Left (moves_of_cache_flush w (cache_named w name))
  cache_flush_left name = of_cache (cache_named w name) refl
    where
      of_cache : (x : Checked (Numbered Cache)) → cache_named w name ≡ x → Left (moves_of_cache_flush w x)
      of_cache (Err why) e = none
      of_cache (Ok q) e =
          several (flushed q.value)
          (flushed_pass (manual w) q.value.classes
          (all-at (manual w) ids_of_cache w.graph.caches q.number q.value (manual_parts w sound).1 (cache_named-is w name q e)))

  pop_left : (pool : Name) (frame : ℕ) → All (manual w) (ids_in_frames w.graph) → Left (moves_of_pop w (frames_named w pool) frame)
  pop_left pool frame framed = of_pool (frames_named w pool) refl
    where
      of_frame : (f : PoolFrames) → All (manual w) f.blocks → (y : Checked ℕ) → Left (moves_of_frame w f y)
      of_frame f kind (Ok before) = several (blocks_popped f before) (popped_pass (manual w) f before kind)
      of_frame f kind (Err why) = none

      of_pool : (x : Checked PoolFrames) → frames_named w pool ≡ x → Left (moves_of_pop w x frame)
      of_pool (Err why) e = none
      of_pool (Ok f) e =
          of_frame f (found_blocks_pass (manual w) w.graph.frames f.pool f (frames_named-is w pool f e) framed) (frame_in f frame)

  pub left_by_frees : (c : Call) (ms : List Move) (answer : Answer) → frees_blocks c ≡ true → BlocksAreLive w
      → All (manual w) (ids_in_frames w.graph) → AreMovesOf w c answer ms → Left ms
  left_by_frees (call.Free place) ms answer frees live framed due =
      subst Left (sym due) (unless_left answer (moves_of_free w (block_place_in w place)) (free_left place live))
  left_by_frees (call.CacheFree cache place) ms answer frees live framed due =
      subst Left (sym due)
      (unless_left answer (moves_of_cache_free w (cache_named w cache) (block_place_in w place))
      (cache_free_left (cache_named w cache) place))
  left_by_frees (call.CacheFlush cache) ms answer frees live framed due =
      subst Left (sym due) (unless_left answer (moves_of_cache_flush w (cache_named w cache)) (cache_flush_left cache))
  left_by_frees (call.Pop pool frame) ms answer frees live framed due =
      subst Left (sym due) (unless_left answer (moves_of_pop w (frames_named w pool) frame) (pop_left pool frame framed))
  left_by_frees _ ms answer frees live framed due = absurd (false≢true frees)
