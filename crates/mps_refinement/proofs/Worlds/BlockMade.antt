-- The world with a new manual block of a pool, at its placement in that world: it is sound where no collection runs, and its blocks are
-- live.
use Rattle.std.proofs.Common.{◌≡◌, ◌∙◌, ℕ, true, false, refl, sym, ap, length, Option, Some, None, is_some, replicate}
use Rattle.std.proofs.lemmas.Option.{none-some}
use Rattle.std.specs.Prelude.{slice_get, if◌then◌else◌}
use Rattle.std.specs.List.{list_all}
use Rattle.mps_base.specs.Address.{Address, address_of_grain}
use Rattle.mps_base.specs.Placement.{Placement, Place, NewSegment, OverLimit, NoFreeRun}
use Rattle.mps_base.specs.Segment.{words_of_segment}
use Rattle.mps_base.specs.declared.names.Rank.TheVariants as rank
use Rattle.mps_seg.specs.Segs.{segments_after}
use Rattle.mps_laws.proofs.Lookups.{entry_at-at_last}
use Rattle.mps_laws.proofs.QuietSteps.{IsSound}
use Rattle.mps_laws.proofs.Sound.HeldIds.{all-weaker, place_written}
use Rattle.mps_laws.proofs.Sound.SoundChanges.{made_lives, made_sound, sound_again, with_made}
use Rattle.mps_laws.proofs.Sound.SoundEffects.{place_sound}
use Rattle.mps_model.specs.Allocating.{address_of_placement, graph_allocated}
use Rattle.mps_model.specs.Checked.{Found}
use Rattle.mps_model.specs.Effect.{holding, segment_of_move, world_after_moves}
use Rattle.mps_model.specs.Graph.{Manual, Object, entry_at, ids_in_blocks, with_last}
use Rattle.mps_model.specs.History.{alloc_at}
use Rattle.mps_model.specs.World.{World, is_copying_pool, is_live, with_tail}

module _ (w : World) (sound : w.collection ≡ None → IsSound w) (blocks : list_all (is_live w) (ids_in_blocks w.graph) ≡ true)
    (lengths : length w.addresses ≡ length w.graph.objects) (pool words : ℕ) (not_copying : is_copying_pool w pool ≡ false)
    (found : Found (Option ℕ)) (has : slice_get w.graph.blocks found.number ≡ Some found.list) (q : Placement) where
  abbrev pub at : Address
  at = address_of_placement q

  abbrev pub new_object : Object
  new_object = record { pool = pool; body = Manual (replicate words 0) }

  abbrev pub world_moved : World
  world_moved = record w { segments = segments_after q pool 0 rank.Exact w.segments }

  -- the world after the call
  abbrev pub world_made : World
  world_made = record world_moved {
    graph = graph_allocated w.graph pool words found;
    addresses = with_last w.addresses (Some at);
  }

  pub moved_at : (x : Placement) → world_after_moves w (alloc_at pool words x)
      ≡ record w { segments = segments_after x pool 0 rank.Exact w.segments }
  moved_at (Place word) = refl
  moved_at (NewSegment grain grains) =
      let s = segment_of_move (address_of_grain grain) grains pool 0 in
      ap (λ b. if b then with_tail (holding w s) s.pool s.generation (words_of_segment s) else holding w s) not_copying
  moved_at (OverLimit committed need limit) = refl
  moved_at (NoFreeRun need longest) = refl

  new_lives : is_live (with_made w new_object at) (length w.graph.objects) ≡ true
  new_lives =
      ap (λ n. is_some (entry_at (with_last w.addresses (Some at)) n)) (sym lengths) ∙ ap is_some (entry_at-at_last w.addresses
      (Some at))

  pub sound_made : w.collection ≡ None → IsSound world_made
  sound_made rest =
      let made = with_made w new_object at in
      let first : IsSound made =
      made_sound w new_object at (sound rest) lengths (λ r. refl) (λ c e. absurd (none-some c (sym rest ∙ e))) in
      let placed = place_sound made first found (Some (length w.graph.objects)) has new_lives in
      let noted = record made { graph = world_made.graph } in
      let kept : IsSound noted = record {
        live = record {
          client = placed.live.client;
          blocks = placed.live.blocks;
          referred = placed.live.referred;
          transforms = placed.live.transforms;
        };
        kept = placed.kept;
        units = placed.units;
      } in
      sound_again noted world_made refl refl refl refl refl kept

  -- blocks in places are live
  pub blocks_made : list_all (is_live world_made) (ids_in_blocks world_made.graph) ≡ true
  blocks_made =
      place_written (is_live (with_made w new_object at)) w.graph
      (all-weaker (is_live w) (is_live (with_made w new_object at)) (made_lives w new_object at) (ids_in_blocks w.graph) blocks) found
      (Some (length w.graph.objects)) has new_lives
