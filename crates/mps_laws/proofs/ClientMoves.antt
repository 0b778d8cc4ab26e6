-- What holds of each free, each segment given back and each commit holds of the moves by which a client frees blocks and commits.
use Rattle.std.proofs.Common.{◌≡◌, ℕ, Bool, true, false, refl, List, [], ◌∷◌, ◌++◌, length, Option, Some, None, Ok, Err}
use Rattle.std.proofs.lemmas.Bool.{and_parts, and_from}
use Rattle.std.specs.Prelude.{◌&&◌, if◌then◌else◌}
use Rattle.std.specs.List.{list_all}
use Rattle.std.specs.Option.{option_map_or}
use Rattle.mps_base.specs.Address.{Address}
use Rattle.mps_base.specs.Segment.{Segment}
use Rattle.mps_base.specs.declared.address.Addr.{Addr}
use Rattle.mps_base.specs.declared.moves.Move.{Move}
use Rattle.mps_base.specs.declared.moves.Move.TheVariants as moves
use Rattle.mps_model.specs.Graph.{Cache, CacheClass, Point, PoolFrames, Reservation}
use Rattle.mps_model.specs.World.{World, address_of, is_any_size_kind, is_empty_segment, pool_is, segment_of}
use Rattle.mps_model.specs.Accessing.{address_or_null}
use Rattle.mps_model.specs.Allocating.{reserved_address}
use Rattle.mps_model.specs.Caches.{flushed, kept_by}
use Rattle.mps_model.specs.Checked.{Checked, Found, Numbered}
use Rattle.mps_model.specs.Effect.{world_after_moves}
use Rattle.mps_model.specs.Flip.{at_address}
use Rattle.mps_model.specs.Frames.{blocks_popped, frame_in}
use Rattle.mps_model.specs.History.{commit_of, free_at, free_of, free_of_object, give_back_empty, moves_if_not_kept, moves_of_cache_flush, moves_of_cache_free, moves_of_commit, moves_of_frame, moves_of_free, moves_of_frees, moves_of_pop}

pub record HoldsOfFrees (test : Move → Bool) : Type 0 where
  pub unseg : (base : Addr) → test (moves.Unseg base) ≡ true
  pub free : (at : Addr) → test (moves.Free at) ≡ true
  pub commit : (at : Addr) (words pool : ℕ) → test (moves.Commit at words pool) ≡ true

module _ (test : Move → Bool) (of : HoldsOfFrees test) where
  appended : (ms ns : List Move) → list_all test ms ≡ true → list_all test ns ≡ true → list_all test (ms ++ ns) ≡ true
  appended [] ns h k = k
  appended (m ∷ ms) ns h k =
      let parts = and_parts (test m) (list_all test ms) h in
      and_from (test m) (list_all test (ms ++ ns)) parts.0 (appended ms ns parts.1 k)

  back_passes : (w : World) (o : Option Segment) → list_all test (give_back_empty w o) ≡ true
  back_passes w None = refl
  back_passes w (Some s) =
      elim (pool_is is_any_size_kind w s.pool && is_empty_segment w s) as (λ b. list_all test
      (if b then moves.Unseg (at_address s.base) ∷ [] else []) ≡ true) [
        | true ↦ and_from (test (moves.Unseg (at_address s.base))) true (of.unseg (at_address s.base)) refl
        | false ↦ refl
      ]

  free_passes : (w : World) (at : Address) → list_all test (free_of w at) ≡ true
  free_passes w at =
      let back = give_back_empty (world_after_moves w (free_at at)) (segment_of w at) in
      and_from (test (moves.Free (at_address at))) (list_all test back) (of.free (at_address at))
      (back_passes (world_after_moves w (free_at at)) (segment_of w at))

  object_passes : (w : World) (id : ℕ) → list_all test (free_of_object w id) ≡ true
  object_passes w id = of_address (address_of w id)
    where
      of_address : (o : Option ℕ) → list_all test (option_map_or (free_of w) o []) ≡ true
      of_address None = refl
      of_address (Some at) = free_passes w at

  frees_pass : (w : World) (ids : List ℕ) → list_all test (moves_of_frees w ids) ≡ true
  frees_pass w [] = refl
  frees_pass w (id ∷ ids) =
      appended (free_of_object w id) (moves_of_frees (world_after_moves w (free_of_object w id)) ids) (object_passes w id)
      (frees_pass (world_after_moves w (free_of_object w id)) ids)

  pub place_passes : (w : World) (x : Checked (Found (Option ℕ))) → list_all test (moves_of_free w x) ≡ true
  place_passes w (Err why) = refl
  place_passes w (Ok found) = of_value found.value
    where
      of_value : (o : Option ℕ) → list_all test (option_map_or (λ id. free_of w (address_or_null w id)) o []) ≡ true
      of_value None = refl
      of_value (Some id) = free_passes w (address_or_null w id)

  pub cache_passes : (w : World) (x : Checked (Numbered Cache)) (y : Checked (Found (Option ℕ)))
      → list_all test (moves_of_cache_free w x y) ≡ true
  cache_passes w (Err why) y = refl
  cache_passes w (Ok q) (Err why) = refl
  cache_passes w (Ok q) (Ok found) = of_value found.value
    where
      of_kept : (id : ℕ) (o : Option (List CacheClass)) → list_all test (moves_if_not_kept w id o) ≡ true
      of_kept id (Some classes) = refl
      of_kept id None = object_passes w id

      of_value : (o : Option ℕ) → list_all test (option_map_or (λ id. moves_if_not_kept w id (kept_by w q.value id)) o []) ≡ true
      of_value None = refl
      of_value (Some id) = of_kept id (kept_by w q.value id)

  pub flush_passes : (w : World) (x : Checked (Numbered Cache)) → list_all test (moves_of_cache_flush w x) ≡ true
  flush_passes w (Err why) = refl
  flush_passes w (Ok q) = frees_pass w (flushed q.value)

  pub pop_passes : (w : World) (x : Checked PoolFrames) (frame : ℕ) → list_all test (moves_of_pop w x frame) ≡ true
  pop_passes w (Err why) frame = refl
  pop_passes w (Ok f) frame = of_frame (frame_in f frame)
    where
      of_frame : (x : Checked ℕ) → list_all test (moves_of_frame w f x) ≡ true
      of_frame (Err why) = refl
      of_frame (Ok before) = frees_pass w (blocks_popped f before)

  pub commit_passes : (w : World) (x : Checked (Numbered Point)) → list_all test (moves_of_commit w x) ≡ true
  commit_passes w (Err why) = refl
  commit_passes w (Ok p) = of_one p.value.reservation
    where
      of_one : (o : Option Reservation) → list_all test (commit_of w p o) ≡ true
      of_one None = refl
      of_one (Some r) =
          let at = at_address (reserved_address w p.number) in
          and_from (test (moves.Commit at (length r.cells) p.value.pool)) true (of.commit at (length r.cells) p.value.pool) refl
