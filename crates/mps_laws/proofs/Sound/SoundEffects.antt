-- A world stays sound through each effect of a call on its graph: what is written must be live, and be held rightly where a
-- collection runs.
use Rattle.std.proofs.Common.{◌≡◌, ◌∙◌, ℕ, Bool, true, false, refl, sym, ap, List, Option, Some, None, Ok}
use Rattle.std.proofs.lemmas.Option.{slice_get-map}
use Rattle.std.specs.Prelude.{◌&&◌, ◌||◌, not, option_map, slice_get}
use Rattle.std.specs.Option.{option_map_or}
use Rattle.mps_base.specs.declared.names.Slot.{Slot}
use Rattle.mps_model.proofs.Reaching.{list_all-contains}
use Rattle.mps_model.specs.Graph.{Graph, Object, Cell, Point, Reservation, AreaWord, contains, entry_at, graph_with_cells, held_by_word, ids_in_blocks, ids_of_client, object_at, object_with_cells, targets_of, targets_of_reservation}
use Rattle.mps_model.specs.Collection.{Collection, is_condemned, is_kept_in_place}
use Rattle.mps_model.specs.World.{World, is_copying_object, is_copying_pool, is_live, is_running}
use Rattle.mps_model.specs.Checked.{Found, Numbered, slot_in, with_graph}
use Rattle.mps_model.specs.Allocating.{with_block_place, with_reservation, with_slot}
use Rattle.mps_model.specs.Accessing.{with_word}
use Rattle.mps_model.specs.History.{is_held_rightly}
use Rattle.mps_laws.specs.Held.{target_found}
use Rattle.mps_laws.proofs.LeftByActs.{owners, owners-graph_with_cells}
use Rattle.mps_laws.proofs.Reading.{slot_is_held}
use Rattle.mps_laws.proofs.QuietSteps.{IsSound}
use Rattle.mps_laws.proofs.Sound.HeldIds.{All, AreHeld, PassesOrNull, for_client, place_written, reservation_ended, reservation_written, slot_written, weaker_test, word_written, held_again}
use Rattle.mps_laws.proofs.Sound.Referred.{AreReferred, SoundParts, cells_written, sound_parts, sound_world}

-- ---- what is held already

-- an id that a client holds passes each test that all such ids pass
pub held_passes : (test : ℕ → Bool) (g : Graph) (id : ℕ) → AreHeld test g → contains (ids_of_client g) id ≡ true → test id ≡ true
held_passes test g id held among = list_all-contains test (ids_of_client g) id (for_client test g held) among

-- so what a slot refers to may be written anywhere
pub slot_passes : (test : ℕ → Bool) (w : World) (slot : Slot) (found : Found (Option ℕ)) → slot_in w slot ≡ Ok found → AreHeld test w.graph
    → PassesOrNull test found.value
slot_passes test w slot found is held = by_value found.value refl
  where
    by_value : (o : Option ℕ) → found.value ≡ o → PassesOrNull test o
    by_value None e = tt
    by_value (Some id) e = held_passes test w.graph id held (slot_is_held w slot id (ap target_found is ∙ e))

-- ---- another graph

-- whether blocks of an object move, by the number of its pool
copying_by_owner : (w : World) (id : ℕ)
    → is_copying_object w id ≡ option_map_or (is_copying_pool w) (slice_get (owners w.graph) id) false
copying_by_owner w id =
    by_entry (slice_get w.graph.objects id)
    ∙ ap (λ o. option_map_or (is_copying_pool w) o false) (sym (slice_get-map (λ (o : Object). o.pool) w.graph.objects id))
  where
    by_entry : (o : Option Object) → option_map_or (λ (x : Object). is_copying_pool w x.pool) o false
        ≡ option_map_or (is_copying_pool w) (option_map (λ (x : Object). x.pool) o) false
    by_entry None = refl
    by_entry (Some x) = refl

-- the same objects are held rightly where objects keep their pools
held_rightly_again : (w : World) (h : Graph) (c : Collection) (id : ℕ) → owners h ≡ owners w.graph
    → is_held_rightly (with_graph w h) c id ≡ is_held_rightly w c id
held_rightly_again w h c id same =
    ap (λ b. not (is_condemned c id && b) || is_kept_in_place c id)
    (copying_by_owner (with_graph w h) id ∙ ap (λ xs. option_map_or (is_copying_pool w) (slice_get xs id) false) same
    ∙ sym (copying_by_owner w id))

module _ (w : World) (sound : IsSound w) where
  parts : SoundParts w
  parts = sound_parts w sound

  -- the world with another graph, whose objects are of the same pools
  pub graph_sound : (h : Graph) → owners h ≡ owners w.graph → AreHeld (is_live w) h → All (is_live w) (ids_in_blocks h)
      → (is_running w ≡ false → AreReferred (is_live w) (is_live w) h)
      → ((c : Collection) → w.collection ≡ Some c → AreHeld (is_held_rightly w c) h) → IsSound (with_graph w h)
  graph_sound h same held blocks referred kept =
      sound_world (with_graph w h) held blocks referred parts.pairs
      (λ c e. weaker_test (is_held_rightly w c) h (kept c e) (is_held_rightly (with_graph w h) c)
      (λ id passes. held_rightly_again w h c id same ∙ passes)) parts.units

  -- what is written into a place where ids are held: live, and held rightly
  pub record MayBeHeld (target : Option ℕ) : Type 0 where
    pub live : PassesOrNull (is_live w) target
    pub rightly : (c : Collection) → w.collection ≡ Some c → PassesOrNull (is_held_rightly w c) target

  -- a slot is written
  pub slot_sound : (found : Found (Option ℕ)) (target : Option ℕ) → entry_at w.graph.tables found.number ≡ Some found.list
      → MayBeHeld target
      → IsSound (with_graph w (with_slot w.graph found target))
  slot_sound found target there may =
      graph_sound (with_slot w.graph found target) refl (slot_written (is_live w) w.graph parts.held found target there may.live)
      parts.blocks parts.referred
      (λ c e. slot_written (is_held_rightly w c) w.graph (parts.kept c e) found target there (may.rightly c e))

  -- a word of an area is written
  pub word_sound : (found : Found AreaWord) (word : AreaWord) → entry_at w.graph.areas found.number ≡ Some found.list
      → MayBeHeld (held_by_word word) → IsSound (with_graph w (with_word w.graph found word))
  word_sound found word there may =
      graph_sound (with_word w.graph found word) refl (word_written (is_live w) w.graph parts.held found word there may.live)
      parts.blocks parts.referred
      (λ c e. word_written (is_held_rightly w c) w.graph (parts.kept c e) found word there (may.rightly c e))

  -- a place of a table of blocks is written
  pub place_sound : (found : Found (Option ℕ)) (block : Option ℕ) → slice_get w.graph.blocks found.number ≡ Some found.list
      → PassesOrNull (is_live w) block → IsSound (with_graph w (with_block_place w.graph found block))
  place_sound found block there passes =
      graph_sound (with_block_place w.graph found block) refl
      (held_again (is_live w) w.graph (with_block_place w.graph found block) refl refl refl refl parts.held)
      (place_written (is_live w) w.graph parts.blocks found block there passes) parts.referred
      (λ c e. held_again (is_held_rightly w c) w.graph (with_block_place w.graph found block) refl refl refl refl (parts.kept c e))

  -- a reservation is made or written: what it refers to may be held
  pub reservation_sound : (point : Numbered Point) (r : Reservation) → All (is_live w) (targets_of_reservation r)
      → ((c : Collection) → w.collection ≡ Some c → All (is_held_rightly w c) (targets_of_reservation r))
      → IsSound (with_graph w (with_reservation w.graph point (Some r)))
  reservation_sound point r live rightly =
      graph_sound (with_reservation w.graph point (Some r)) refl (reservation_written (is_live w) w.graph parts.held point r live)
      parts.blocks parts.referred (λ c e. reservation_written (is_held_rightly w c) w.graph (parts.kept c e) point r (rightly c e))

  -- a reservation is ended
  pub reservation_gone_sound : (point : Numbered Point) → IsSound (with_graph w (with_reservation w.graph point None))
  reservation_gone_sound point =
      graph_sound (with_reservation w.graph point None) refl (reservation_ended (is_live w) w.graph parts.held point)
      parts.blocks parts.referred (λ c e. reservation_ended (is_held_rightly w c) w.graph (parts.kept c e) point)

  -- cells of an object are written: at rest what they refer to is live
  pub cells_sound : (x : ℕ) (change : List Cell → List Cell)
      → (is_running w ≡ false → (o : Object) → object_at w.graph x ≡ Some o → All (is_live w) (targets_of (object_with_cells o change)))
      → IsSound (with_graph w (graph_with_cells w.graph x change))
  cells_sound x change live =
      graph_sound (graph_with_cells w.graph x change) (owners-graph_with_cells w.graph x change)
      (held_again (is_live w) w.graph (graph_with_cells w.graph x change) refl refl refl refl parts.held)
      parts.blocks (λ rest. cells_written (is_live w) w.graph (is_live w) x change (live rest) (parts.referred rest))
      (λ c e. held_again (is_held_rightly w c) w.graph (graph_with_cells w.graph x change) refl refl refl refl (parts.kept c e))
