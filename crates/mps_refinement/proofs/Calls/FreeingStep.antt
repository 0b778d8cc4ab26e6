-- A `free` where no collection runs: a legal step, whose moves free the block, and give its segment back where nothing is left in it.
use Rattle.std.proofs.Common.{◌≡◌, ◌∙◌, ℕ, zero, suc, Bool, true, false, refl, sym, ap, List, [], ◌∷◌, Option, Some, None, Ok, inl, inr}
use Rattle.std.proofs.lemmas.Bool.{ne_eqb, and_from}
use Rattle.std.proofs.lemmas.Option.{none-some}
use Rattle.std.specs.Prelude.{◌==◌, ◌&&◌, not, slice_get, if◌then◌else◌}
use Rattle.std.specs.List.{flat_map, list_all}
use Rattle.std.specs.Option.{option_map_or}
use Rattle.mps_base.specs.Address.{Address, Id}
use Rattle.mps_base.specs.Segment.{Segment, segment_over, without_segment}
use Rattle.mps_base.specs.declared.moves.Move.{Move}
use Rattle.mps_base.specs.declared.moves.Move.TheVariants as moves
use Rattle.mps_base.specs.declared.names.Slot.{Slot}
use Rattle.mps_laws.proofs.Sound.HeldIds.{All, all-append, held_again, all-weaker, place_written}
use Rattle.mps_laws.proofs.QuietSteps.{IsSound}
use Rattle.mps_laws.proofs.Sound.SoundChanges.{gone_sound, sound_again, lives_otherwise, others_live}
use Rattle.mps_laws.proofs.Sound.SoundEffects.{place_sound}
use Rattle.mps_laws.proofs.Sound.SoundGraph.{IsSoundGraph, all-both, auto}
use Rattle.mps_model.specs.declared.reply.Reply.TheVariants as reply
use Rattle.mps_model.specs.Answer.{Answer, Replied}
use Rattle.mps_model.specs.Graph.{Slots, entries, entry_at, ids_in_blocks, contains, ids_in_caches, ids_in_places}
use Rattle.mps_model.specs.World.{World, is_any_size_kind, is_empty_segment, has_frames, pool_is, pool_of, is_live, ids_in_pairs}
use Rattle.mps_model.specs.Checked.{Found, ◌>>=◌, ◌>>◌, block_place_in, done, with_graph, refuse_when, required}
use Rattle.mps_model.specs.Allocating.{act_free, block_in, with_block_place}
use Rattle.mps_model.specs.Accessing.{address_or_null}
use Rattle.mps_model.specs.Effect.{with_address, world_after_moves, without_object}
use Rattle.mps_model.specs.Flip.{at_address}
use Rattle.mps_model.specs.History.{free_of, moves_of_free, unless_refused}
use Rattle.mps_refinement.proofs.Worlds.OneFree as one
use Rattle.mps_refinement.proofs.Worlds.PlacedOnce.{ArePlacedOnce, IsIn, written_cases}
use Rattle.mps_refinement.proofs.Worlds.PlacesByMoves.{places_of}
use Rattle.mps_refinement.proofs.Parts.StillHeld.{held_others, target_others}
use Rattle.mps_base.specs.declared.refusal.Refusal.TheVariants as refusal
use Rattle.mps_laws.proofs.Positions.Segments.{IsAmong}
use Rattle.mps_model.specs.Collection.{Collection}
use Rattle.mps_refinement.proofs.Parts.CachesStill.{none_equal}

abbrev ok : Answer
ok = Replied reply.Ok

-- a fact of each block in a place is one of all
pub all_in_places : (test : ℕ → Bool) (blocks : List Slots) → ((n i id : ℕ) → IsIn blocks n i id → test id ≡ true)
    → All test (flat_map entries blocks)
all_in_places test [] each = refl
all_in_places test (row ∷ rows) each =
    all-append test (entries row) (flat_map entries rows)
    (in_row row (λ i id e. each zero i id (record { row = row; table = refl; entry = e })))
    (all_in_places test rows (λ n i id is. each (suc n) i id (record { row = is.row; table = is.table; entry = is.entry })))
  where
    in_row : (xs : Slots) → ((i id : ℕ) → slice_get xs i ≡ Some (Some id) → test id ≡ true) → All test (entries xs)
    in_row [] f = refl
    in_row (None ∷ xs) f = in_row xs (λ i id e. f (suc i) id e)
    in_row (Some id ∷ xs) f =
        and_from (test id) (list_all test (entries xs)) (f zero id refl)
        (in_row xs (λ i j e. f (suc i) j e))

module _ (w : World) (outside : (c : Collection) → w.collection ≡ Some c → (t : Segment) → IsAmong t w.segments
    → pool_is is_any_size_kind w t.pool ≡ true → contains c.condemned_segments t.base ≡ false)
    (graph : IsSoundGraph w) (sound : w.collection ≡ None → IsSound w) (blocks : list_all (is_live w) (ids_in_blocks w.graph) ≡ true)
    (once : ArePlacedOnce (places_of w))
    (place : Slot) (found : Found (Option ℕ)) (place_is : block_place_in w place ≡ Ok found)
    (has : slice_get w.graph.blocks found.number ≡ Some found.list) (entry : slice_get found.list found.index ≡ Some found.value) (id : Id)
    (at : Address) (value : found.value ≡ Some id) (there : entry_at w.addresses id ≡ Some at) (manual : auto w id ≡ false)
    (different : (i j : ℕ) (a : Address) → entry_at w.addresses i ≡ Some a → entry_at w.addresses j ≡ Some a → i ≡ j) (t : Segment)
    (over : segment_over w.segments at ≡ Some t) (given : Bool)
    (is_given : (pool_is is_any_size_kind w t.pool && is_empty_segment (with_address w id None) t) ≡ given) where
  -- the moves
  abbrev pub moves_freed : List Move
  moves_freed = moves.Free (at_address at) ∷ (if given then moves.Unseg (at_address t.base) ∷ [] else [])

  abbrev pub segments_after : List Segment
  segments_after = if given then without_segment w.segments t.base else w.segments

  -- the world after them
  abbrev pub world_moved : World
  world_moved = record (without_object w id) { segments = segments_after }

  -- and after the call
  abbrev pub world_freed : World
  world_freed = with_graph world_moved (with_block_place world_moved.graph found None)

  pub moved_is : world_after_moves w moves_freed ≡ world_moved
  moved_is = one.moved_is w outside id at there manual different t over given is_given

  pub due : moves_freed ≡ unless_refused ok (moves_of_free w (block_place_in w place))
  due = sym (ap (moves_of_free w) place_is ∙ ap (λ o. option_map_or (λ n. free_of w (address_or_null w n)) o []) value
      ∙ ap (λ o. free_of w (option_map_or (λ a. a) o 0)) there
      ∙ one.free_is w outside id at there manual different t over given is_given)

  pub comes : pool_is has_frames w (pool_of w id) ≡ false → act_free (world_after_moves w moves_freed) place ≡ done world_freed
  comes frameless =
      ap (λ v. act_free v place) moved_is
      ∙ ap (λ x. x >>= (λ (p : Found (Option ℕ)). block_in p >>= (λ (n : ℕ).
      refuse_when (pool_is has_frames w (pool_of w n)) refusal.WrongPool
      >> done (with_graph world_moved (with_block_place world_moved.graph p None))))) place_is
      ∙ ap (λ o. required o refusal.NotABlock >>= (λ (n : ℕ).
      refuse_when (pool_is has_frames w (pool_of w n)) refusal.WrongPool >> done world_freed)) value
      ∙ ap (λ b. refuse_when b refusal.WrongPool >> done world_freed) frameless

  -- no other place has the block
  place_others : All (λ j. not (id == j)) (ids_in_blocks (with_block_place w.graph found None))
  place_others = all-append (λ j. not (id == j)) (ids_in_places (with_block_place w.graph found None)) (ids_in_caches w.graph)
      (all_in_places (λ j. not (id == j)) (with_block_place w.graph found None).blocks (λ n i j is.
      elim (written_cases w.graph.blocks found.number found.index found.list None n i j has is) [
        | inl here ↦ absurd (none-some j here.2)
        | inr other ↦
            ap not (ne_eqb id j (λ same. other.1 (once.once n i found.number found.index j other.0 (record {
              row = found.list;
              table = has;
              entry = entry ∙ ap Some (value ∙ ap Some same);
            }))))
      ])) (none_equal id (ids_in_caches w.graph) (once.not_cached found.number found.index id
      (record { row = found.list; table = has; entry = entry ∙ ap Some value })))

  pub sound_freed : list_all (λ j. not (id == j)) (ids_in_pairs w.state) ≡ true → w.collection ≡ None → IsSound world_freed
  sound_freed apart rest =
      let placed = with_graph w (with_block_place w.graph found None) in
      let emptied = place_sound w (sound rest) found None has tt in
      let gone = gone_sound placed id emptied
      (held_again (λ j. not (id == j)) w.graph placed.graph refl refl refl refl (held_others w graph id manual)) place_others
      (λ r j live. target_others w graph id manual j)
      (λ r. apart) in
      let unlinked = record (with_address placed id None) { graph = world_freed.graph } in
      let kept : IsSound unlinked = record {
        live = record {
          client = gone.live.client;
          blocks = gone.live.blocks;
          referred = gone.live.referred;
          transforms = gone.live.transforms;
        };
        kept = gone.kept;
        units = gone.units;
      } in
      sound_again unlinked world_freed refl refl refl refl refl kept

  -- blocks in places are live
  pub blocks_freed : list_all (is_live world_freed) (ids_in_blocks world_freed.graph) ≡ true
  blocks_freed =
      all-weaker (lives_otherwise w id) (is_live (with_address w id None)) (others_live w id)
      (ids_in_blocks (with_block_place w.graph found None))
      (all-both (is_live w) (λ j. not (id == j)) (ids_in_blocks (with_block_place w.graph found None))
      (place_written (is_live w) w.graph blocks found None has tt) place_others)
