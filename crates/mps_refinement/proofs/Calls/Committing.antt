-- What a `commit` of a heap at rest leaves: the parts of the heap stand for those of the world after it, and that is sound.
use Rattle.std.proofs.Common.{◌≡◌, ◌∙◌, ℕ, zero, suc, ◌+◌, true, false, refl, sym, ap, subst, List, [], ◌∷◌, ◌++◌, length, Option, Some, None, is_some, inl, inr}
use Rattle.std.proofs.lemmas.Bool.{cases_eq}
use Rattle.std.proofs.lemmas.Option.{none-some, same_Some}
use Rattle.std.specs.Prelude.{slice_get, slice_set, if◌then◌else◌}
use Rattle.std.specs.Option.{option_map_or}
use Rattle.mps_base.specs.Address.{Address}
use Rattle.mps_base.specs.declared.names.Slot.{Slot}
use Rattle.mps_buffer.specs.declared.point.Held.{Held}
use Rattle.mps_buffer.specs.declared.point.Point.{Point}
use Rattle.mps_buffer.specs.Points.{after_close, point_at, with_point}
use Rattle.mps_seg.specs.Collecting.{is_white_at}
use Rattle.mps_format.specs.Layout.{Layout}
use Rattle.mps_trace_laws.proofs.Image.ArenaLaws.{points_change}
use Rattle.mps_trace_laws.specs.Image.Image.{black_cells}
use Rattle.mps_trace_laws.specs.Image.Memory.{live_reservation, memory_in, words_of_arena}
use Rattle.mps_laws.proofs.Sound.HeldIds.{All}
use Rattle.mps_laws.proofs.Positions.LegalMoves.{HasLayout}
use Rattle.mps_laws.proofs.Lookups.{entry_at-set_other, entry_at-set_same, entry_is_there, entry_within}
use Rattle.mps_laws.proofs.QuietSteps.{IsSound}
use Rattle.mps_laws.proofs.Sound.SoundChanges.{made_sound, with_made, made_lives}
use Rattle.mps_laws.proofs.Sound.SoundEffects.{reservation_gone_sound, slot_sound}
use Rattle.mps_laws.proofs.Sound.SoundGraph.{PassesOrNull, all-at}
use Rattle.mps_model.specs.Allocating as model
use Rattle.mps_model.specs.Checked.{Found, Numbered, with_graph}
use Rattle.mps_model.specs.Graph as graph
use Rattle.mps_model.specs.Graph.{Object, Reservation, entry_at, slots_of, targets_of_point, with_last, ids_in_blocks}
use Rattle.mps_model.specs.World.{World, PointMemory, extent_of_reservation, is_copying_pool, is_live, reserved_extents}
use Rattle.mps_heap_spec.specs.Allocating.{with_closed}
use Rattle.mps_heap_spec.specs.declared.found.Entry.{Entry}
use Rattle.mps_heap_spec.specs.declared.found.Kept.{Kept}
use Rattle.mps_heap_spec.specs.Objects.{with_slot}
use Rattle.mps_heap_spec.specs.State.{HeapState}
use Rattle.mps_refinement.specs.StandsFor.{AreParts, IsHeld, IsPoint, NoneHeld, Past, address_of_target, StandsAt, setting_at}
use Rattle.mps_refinement.proofs.Parts.CommittedParts.{heap_made, made_parts, world_made}
use Rattle.mps_refinement.proofs.Parts.Counts.{reservation_written_points}
use Rattle.mps_refinement.proofs.Worlds.Known.{IsKnown}
use Rattle.mps_refinement.proofs.Lookups.Lookups.{IsPointFound, IsSlotEntry, IsSlotFound}
use Rattle.mps_refinement.proofs.Parts.Numbering.{numbered_written}
use Rattle.mps_refinement.proofs.Parts.ObjectMore.{id_still, slots_still}
use Rattle.mps_refinement.proofs.Parts.PartsWritten.{slot_written}
use Rattle.mps_refinement.proofs.Parts.PointWritten.{other_point, points_anew, points_there, resting_points, written_point}
use Rattle.std.specs.List.{list_all}

-- a point without a reservation that a flip had ended covers what it covered
extents_closed : (ps : List (Option graph.Point)) (ms : List PointMemory) (n : ℕ) (q : graph.Point) → entry_at ps n ≡ Some q
    → ((m : PointMemory) → extent_of_reservation q.reservation m ≡ [])
    → reserved_extents (slice_set ps n (Some (record q { reservation = None }))) ms ≡ reserved_extents ps ms
extents_closed [] ms n q e none = refl
extents_closed (p ∷ ps) [] zero q e none = refl
extents_closed (p ∷ ps) [] (suc n) q e none = refl
extents_closed (None ∷ ps) (m ∷ ms) zero q e none = absurd (none-some q e)
extents_closed (None ∷ ps) (m ∷ ms) (suc n) q e none = extents_closed ps ms n q e none
extents_closed (Some p ∷ ps) (m ∷ ms) zero q e none =
    ap (λ xs. xs ++ reserved_extents ps ms)
    (sym (ap (λ (x : graph.Point). extent_of_reservation x.reservation m) (same_Some p q e) ∙ none m))
extents_closed (Some p ∷ ps) (m ∷ ms) (suc n) q e none =
    ap (λ xs. extent_of_reservation p.reservation m ++ xs) (extents_closed ps ms n q e none)

module _ {F : Type 0} (layout : F → Layout) (past : Past) (h : HeapState F) (w : World) (parts : AreParts layout past h w)
    (laid : HasLayout (w.grains + 1) w) (knows : IsKnown past.time w) (sound : w.collection ≡ None → IsSound w) (k : Kept Point)
    (n : Numbered graph.Point)
    (found : IsPointFound past h w k n) (held : Held) (r : Reservation) (reserved : k.value.reservation ≡ Some held)
    (open_there : n.value.reservation ≡ Some r) (is : IsHeld (length w.flips) held r found.fit.memory.reserved_at) where
  -- ---- a flip ended the reservation

  abbrev points_closed : List (Option graph.Point)
  points_closed = slice_set w.graph.points n.number (Some (record n.value { reservation = None }))

  no_extent : r.is_doomed ≡ true → (m : PointMemory) → extent_of_reservation n.value.reservation m ≡ []
  no_extent doomed m =
      ap (λ o. extent_of_reservation o m) open_there
      ∙ ap (λ b. if (if b then false else true) then Rattle.mps_model.specs.World.extent m.reserved_at (length r.cells) ∷ [] else []) doomed

  was_live : (i : ℕ) (x : Reservation) → live_reservation (entry_at points_closed i) ≡ Some x
      → live_reservation (entry_at w.graph.points i) ≡ Some x
  was_live i x e =
      elim (cases_eq i n.number) [
        | inl same ↦
            absurd (none-some x (sym (ap (λ j. live_reservation (entry_at points_closed j)) same
            ∙ ap live_reservation (entry_at-set_same w.graph.points n.number (Some (record n.value { reservation = None }))
            (entry_within w.graph.points n.number n.value found.has))) ∙ e))
        | inr apart ↦
            sym (ap live_reservation (entry_at-set_other w.graph.points n.number i (Some (record n.value { reservation = None }))
            (λ f. apart (sym f)))) ∙ e
      ]

  image_closed : r.is_doomed ≡ true → StandsAt past.time h.segs (with_graph w (model.with_reservation w.graph n None))
  image_closed doomed =
      points_change (setting_at past.time h.segs w) (memory_in h.segs) w.addresses
      past.time.colours (black_cells past.time.condemned past.time.colours) points_closed w.point_memories parts.image
      (λ i x m e has. (was_live i x e, has)) was_live
      (extents_closed w.graph.points w.point_memories n.number n.value found.has (no_extent doomed))

  fit_closed : IsPoint (length w.flips) (is_copying_pool w) w.point_memories (past.point_number k.key) (after_close k.value)
      (record n.value { reservation = None })
  fit_closed = record {
    pool = found.fit.pool;
    rank = found.fit.rank;
    copying = found.fit.copying;
    memory = found.fit.memory;
    has = ap (slice_get w.point_memories) (sym found.number) ∙ found.fit.has;
    buffer = found.fit.buffer;
    reservation = NoneHeld;
  }

  pub closed_parts : r.is_doomed ≡ true → AreParts layout past (with_closed h k) (with_graph w (model.with_reservation w.graph n None))
  closed_parts doomed =
      points_anew layout past h w parts h.segs (with_point h.points k.key (Some (after_close k.value))) points_closed w.segments
      w.point_memories
      (record {
        grains = refl;
        limit = refl;
        segments_are = parts.segments;
        image = image_closed doomed;
        summed = parts.summed;
        arena =
            resting_points h.segs.grains h.points
            (with_point h.points k.key (Some (after_close k.value))) parts.arena (λ key x other e f.
            elim (cases_eq key k.key) [
              | inl here ↦
                  let own : after_close k.value ≡ x =
                  same_Some (after_close k.value) x (sym (ap (point_at (with_point h.points k.key (Some (after_close k.value)))) here
                  ∙ written_point h.points k.key k.value (Some (after_close k.value)) found.kept) ∙ e) in
                  absurd (none-some other (ap (λ (y : Point). y.reservation) own ∙ f))
              | inr apart ↦ sym (other_point h.points k.key key (Some (after_close k.value)) apart) ∙ e
            ]);
        are = subst (λ j. Rattle.mps_refinement.specs.Numbering.AreNumbered
            (IsPoint (length w.flips) (is_copying_pool w) w.point_memories) past.point_number
            (point_at (with_point h.points k.key (Some (after_close k.value))))
            (slice_set w.graph.points j (Some (record n.value { reservation = None })))) (sym found.number)
            (numbered_written (IsPoint (length w.flips) (is_copying_pool w) w.point_memories) past.point_number (point_at h.points)
            (point_at (with_point h.points k.key (Some (after_close k.value)))) w.graph.points parts.points k.key
            (λ other apart. other_point h.points k.key other (Some (after_close k.value)) apart) k.value (after_close k.value)
            (record n.value { reservation = None }) found.kept
            (written_point h.points k.key k.value (Some (after_close k.value)) found.kept) fit_closed);
        counted = reservation_written_points w.graph n None found.has;
        flips = refl;
        there = points_there h.points k.key k.value (after_close k.value) found.kept;
      })

  -- ---- it becomes a block

  -- what its cells refer to is live
  targets_live : r.is_doomed ≡ false → All (is_live w) (graph.targets_of_cells r.cells)
  targets_live live =
      let all = all-at (is_live w) targets_of_point w.graph.points n.number (Some n.value) knows.held.reservations
      (entry_is_there w.graph.points n.number n.value found.has) in
      subst (λ (ids : List ℕ). All (is_live w) ids)
      (ap (λ o. option_map_or graph.targets_of_reservation o []) open_there
      ∙ ap (λ b. if b then [] else graph.targets_of_cells r.cells) live) all

  module _ (live : r.is_doomed ≡ false) (wide : is_white_at h.segs held.at.0 ≡ true
      → length h.segs.marks.kept ≡ words_of_arena h.segs.grains)
      (target : Slot) (entry : Entry Address) (slot : Found (Option ℕ))
      (slot_is : IsSlotFound past h w target entry slot) where
    abbrev pub made_heap : HeapState F
    made_heap =
        heap_made layout past h w parts laid knows k.key n found.number k.value found.kept found.has found.fit held r reserved open_there is
        live wide

    abbrev pub made_world : World
    made_world =
        world_made layout past h w parts laid knows k.key n found.number k.value found.kept found.has found.fit held r reserved
        open_there is
        live wide

    abbrev pub at : Address
    at = found.fit.memory.reserved_at

    -- the slot, as the heap with the new object has it
    slot_there : IsSlotEntry past made_heap made_world target.index entry slot
    slot_there =
        let old = slot_is.fit in
        let all = all-at (is_live w) slots_of w.graph.tables slot.number (Some slot.list) knows.held.slots
        (entry_is_there w.graph.tables slot.number slot.list old.has) in
        record {
          list = old.list;
          kept = old.kept;
          lists = old.lists ∙ sym (slots_still w.addresses at slot.list all);
          number = old.number;
          has = old.has;
          index_is = old.index_is;
          found_index = old.found_index;
          there = old.there;
          value = old.value ∙ sym (value_still slot.value (Rattle.mps_laws.proofs.Sound.SoundGraph.entry-passes
              (is_live w) slot.list target.index
              slot.value all old.there));
        }
      where
        value_still : (o : Option ℕ) → PassesOrNull (is_live w) o
            → address_of_target (with_last w.addresses (Some at)) o ≡ address_of_target w.addresses o
        value_still None alive = refl
        value_still (Some id) alive = id_still w.addresses at id alive

    numbered : length w.addresses ≡ length w.graph.objects
    numbered = knows.formed.addresses

    new_there : entry_at made_world.addresses (length w.graph.objects) ≡ Some at
    new_there =
        ap (entry_at (with_last w.addresses (Some at))) (sym numbered)
        ∙ Rattle.mps_refinement.proofs.Parts.ObjectMore.new_address w.addresses at

    pub block_parts : AreParts layout past (with_slot made_heap entry held.at.0)
        (with_graph made_world (model.with_slot made_world.graph slot (Some (length w.graph.objects))))
    block_parts =
        slot_written layout past made_heap made_world
        (made_parts layout past h w parts laid knows k.key n found.number k.value found.kept found.has found.fit held r reserved
        open_there is
        live wide)
        target.index entry slot held.at.0 (Some (length w.graph.objects)) slot_there
        (is.at ∙ sym (ap (λ o. option_map_or (λ (a : Address). a) o 0) new_there))

    -- ---- what is held is live

    abbrev ended : World
    ended = with_graph w (model.with_reservation w.graph n None)

    pub block_sound : w.collection ≡ None
        → IsSound (with_graph made_world (model.with_slot made_world.graph slot (Some (length w.graph.objects))))
    block_sound rest =
        let o : Object = model.committed_object n.value r in
        let first : IsSound ended = reservation_gone_sound w (sound rest) n in
        let second : IsSound (with_made ended o at) =
        made_sound ended o at first numbered (λ running. targets_live live) (λ c e. absurd (none-some c (sym rest ∙ e))) in
        slot_sound (with_made ended o at) second slot (Some (length w.graph.objects)) slot_is.fit.has
        (record {
          live = ap is_some new_there;
          rightly = λ c e. absurd (none-some c (sym rest ∙ e));
        })

    -- blocks in places are live after it
    pub blocks_live : list_all (is_live made_world) (ids_in_blocks w.graph) ≡ true
    blocks_live =
        Rattle.mps_laws.proofs.Sound.HeldIds.all-weaker (is_live w) (is_live (with_made ended (model.committed_object n.value r) at))
        (made_lives ended (model.committed_object n.value r) at) (ids_in_blocks w.graph) knows.live.blocks
