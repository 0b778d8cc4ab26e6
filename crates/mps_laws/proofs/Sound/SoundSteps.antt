-- Each change but a reservation leaves a sound graph, and so does each call but a reserve.
use Rattle.std.proofs.Common.{◌≡◌, ◌∙◌, ℕ, Bool, true, false, refl, sym, ap, subst, List, ◌++◌, length, Option, Some, None, Ok, inl, inr}
use Rattle.std.proofs.lemmas.Bool.{false≢true, true≢false, and_parts, and_from}
use Rattle.std.proofs.lemmas.Option.{none-some, same_Some}
use Rattle.std.proofs.lemmas.List.{length-replicate}
use Rattle.std.specs.Prelude.{map, slice_get, slice_set, option_map, not, ◌&&◌, ◌||◌, replicate, drop}
use Rattle.std.specs.Option.{option_map_or}
use Rattle.std.specs.List.{list_all, flat_map}
use Rattle.mps_base.specs.declared.names.Name.{Name}
use Rattle.mps_base.specs.declared.names.Rank.{Rank}
use Rattle.mps_base.specs.declared.names.Slot.{Slot}
use Rattle.mps_model.specs.declared.call.Call.{Call}
use Rattle.mps_model.specs.declared.call.Call.TheVariants as call
use Rattle.mps_model.specs.Graph.{Object, Automatic, Manual, Point, Reservation, AreaWord, entries, entry_at, is_automatic, ids_in_slots, slots_of, Cell, without_name, with_last, without_first, ids_in_blocks, ids_in_places, ids_in_caches}
use Rattle.mps_model.specs.World.{World, Pool, PoolKind, ids_in_pairs, is_live, is_automatic_kind, is_weak_kind, pool_at, words_of}
use Rattle.mps_model.specs.WellFormed.{are_right_cells, is_right_object, is_live_automatic}
use Rattle.mps_model.specs.Checked.{Found, Numbered, point_named, slot_in, block_place_in, object_in, cells_of_body, number_named, as_blocks, with_graph}
use Rattle.mps_model.specs.Making.{with_pool, is_weak_rank, may_have_point}
use Rattle.mps_model.specs.Allocating.{with_slot, with_block_place, allows_size, committed_object, graph_allocated, reserved_address, with_reservation, world_committed}
use Rattle.mps_model.specs.Caches.{emptied, graph_cleared, with_classes}
use Rattle.mps_model.specs.Frames.{graph_popped, places_without}
use Rattle.mps_model.specs.Collecting.{without_registration}
use Rattle.mps_model.specs.Transforms.{graph_substituted, pairs_of, world_substituted}
use Rattle.mps_model.specs.Reply.{act}
use Rattle.mps_laws.proofs.Lookups.{slice_get-kept, entry_within_set, slice_get-at_last}
use Rattle.mps_laws.proofs.Positions.LaidOut.{kind_in}
use Rattle.mps_laws.proofs.Sound.PoolKinds.{kind_of_pool}
use Rattle.mps_laws.proofs.Acts.{ForAct, point_named-is, pool_named-is}
use Rattle.mps_laws.proofs.Sound.SoundGraph.{All, PassesOrNull, AreRight, IsSoundGraph, Grows, auto, manual, is_sound_word, is_sound_reservation, all-weaker, all-at, all-written, all-without, all-ended, entries-written, each-at, grows_alike, edited, untouched, auto_kept, manual_kept, right_target_cell, right_tag_cell, right_number_cell, manual_parts, entry-passes}
use Rattle.mps_laws.proofs.Sound.SoundActs.{table_passes, slot_passes, object_cells, reference_passes, held_written, slot_written, word_written, cells_changed, reservation_written, object_added, place_written, block_word_written, pin_is_sound, block_lies, hold_is_sound, block_cleared, cached_written}
use Rattle.mps_changes.specs.Change.{IsFoundBy, Now, Before, IsGot, GotNull, FromSlot, FromCell, FromWord, FromMessage, IsShown, ShownPlain, ShownPinned, ShownPoked, IsWritten, WritesTag, WritesReference, WritesNumber, Change, Unchanged, Aside, SlotIs, WordIs, MessageTaken, TableMade, AreaMade, BlocksMade, TableDropped, AreaDropped, CellsAre, BlockWordIs, PlaceEmptied, Allocated, PoolMade, PointMade, PointDropped, Opened, Written, Closed, Committed, Substituted, Registered, Unregistered, CacheMade, BlockUncached, BlockCached, CacheFlushed, FramePushed, FramesPopped}
use Rattle.mps_changes.proofs.ActChanges.{but, of_changes}
use Rattle.mps_changes.proofs.Written.{written_length}
use Rattle.mps_changes.proofs.Checks.{cache_named-is}
use Rattle.mps_changes.proofs.OneMore.{cache_added, cache_less, cache_more, flush_passes, less_pass, more_pass, both_pass}
use Rattle.mps_changes.proofs.Frames.{places_pass}
use Rattle.mps_laws.proofs.FoundBy.{found_by, slot_found, word_found, object_found, number_found}
use Rattle.mps_laws.proofs.Sound.Substituting.{pairs_of_pass, substituted_sound}
use Rattle.mps_laws.proofs.Sound.SoundParts.{cells_sound, new_table, new_blocks, new_area, new_point, no_point, object_of_slot, id_of_slot, taken}

abbrev pub is_finalize : Call → Bool
is_finalize (call.Finalize slot) = true
is_finalize _ = false

abbrev pub is_substituting : Call → Bool
is_substituting (call.TransformApply transform) = true
is_substituting _ = false

module _ (judged v : World) (j : IsSoundGraph judged) (grown : Grows judged v) (s : IsSoundGraph v) where
  slot_judged : (slot : Slot) (into : Found (Option ℕ)) → slot_in judged slot ≡ Ok into → All (auto v) (entries into.list)
  slot_judged slot into e =
      all-weaker (auto judged) (auto v) (auto_kept judged v grown) (entries into.list)
      (table_passes (auto judged) judged.graph.tables into.number into.list j.slots (slot_found judged slot into e).0)

  place_judged : (place : Slot) (found : Found (Option ℕ)) → block_place_in judged place ≡ Ok found → All (manual v) (entries found.list)
  place_judged place found e =
      let f = found_by (number_named judged place.name as_blocks) (λ n. slice_get judged.graph.blocks n) place.index found e in
      all-weaker (manual judged) (manual v) (manual_kept judged v grown) (entries found.list)
      (all-at (manual judged) entries judged.graph.blocks found.number found.list (manual_parts judged j).0 f.0)

  place_own : (place : Slot) (found : Found (Option ℕ)) → block_place_in v place ≡ Ok found → All (manual v) (entries found.list)
  place_own place found e =
      let f = found_by (number_named v place.name as_blocks) (λ n. slice_get v.graph.blocks n) place.index found e in
      all-at (manual v) entries v.graph.blocks found.number found.list (manual_parts v s).0 f.0

  place_found : (found : Found (Option ℕ)) → IsFoundBy block_place_in judged v found → All (manual v) (entries found.list)
  place_found found (Now place e) = place_own place found e
  place_found found (Before place e) = place_judged place found e

  -- the block in a place is manual
  placed_manual : (place : Slot) (found : Found (Option ℕ)) (id : ℕ) → block_place_in v place ≡ Ok found → found.value ≡ Some id
      → manual v id ≡ true
  placed_manual place found id e has =
      let f = found_by (number_named v place.name as_blocks) (λ n. slice_get v.graph.blocks n) place.index found e in
      subst (PassesOrNull (manual v)) has (entry-passes (manual v) found.list found.index found.value (place_own place found e) f.1)

  -- an object is made of a reservation
  committed_right : (p : Numbered Point) (r : Reservation) → entry_at v.graph.points p.number ≡ Some p.value → p.value.reservation ≡ Some r
      → is_right_object v (committed_object p.value r) ≡ true
  committed_right p r there f = of_pool (pool_at v p.value.pool) refl (s.reservations p.number p.value r there f)
      (s.points p.number p.value there).0
    where
      weak : is_weak_rank p.value.rank ≡ true → kind_in is_weak_kind v.pools p.value.pool ≡ true
      weak h = (s.points p.number p.value there).1 h

      weak_or : (b : Bool) (q : Pool) → (b ≡ true → is_weak_kind q.kind ≡ true) → (not b || is_weak_kind q.kind) ≡ true
      weak_or true q h = h refl
      weak_or false q h = refl

      of_pool : (x : Option Pool) → pool_at v p.value.pool ≡ x → option_map_or (λ of. are_right_cells v of r.head r.cells) x false ≡ true
          → option_map_or (λ q. is_automatic_kind q.kind) x false ≡ true
          → option_map_or (λ q. Rattle.mps_model.specs.WellFormed.is_right_body v q
          (Automatic r.head r.cells (is_weak_rank p.value.rank))) x false ≡ true
      of_pool None e h k = absurd (false≢true h)
      of_pool (Some q) e h k =
          and_from (is_automatic_kind q.kind && are_right_cells v q r.head r.cells) (not (is_weak_rank p.value.rank) || is_weak_kind q.kind)
          (and_from (is_automatic_kind q.kind) (are_right_cells v q r.head r.cells) k h)
          (weak_or (is_weak_rank p.value.rank) q (λ w. sym (ap (λ x. option_map_or (λ (y : Pool). is_weak_kind y.kind) x false) e)
          ∙ weak w))

  manual_right : (p : Numbered Pool) (words : ℕ) → slice_get v.pools p.number ≡ Some p.value → is_automatic_kind p.value.kind ≡ false
      → allows_size p.value.kind words ≡ true → is_right_object v (record { pool = p.number; body = Manual (replicate words 0) }) ≡ true
  manual_right p words there kind size =
      ap (λ x. option_map_or (λ q. Rattle.mps_model.specs.WellFormed.is_right_body v q (Manual (replicate words 0))) x false) there
      ∙ and_from (not (is_automatic_kind p.value.kind)) (allows_size p.value.kind (length (replicate words 0))) (ap not kind)
      (ap (allows_size p.value.kind) (length-replicate words 0) ∙ size)

  allocated_sound : (p : Numbered Pool) (words : ℕ) (place : Found (Option ℕ)) (at : ℕ) → slice_get v.pools p.number ≡ Some p.value
      → is_automatic_kind p.value.kind ≡ false → allows_size p.value.kind words ≡ true → All (manual v) (entries place.list)
      → IsSoundGraph (record v { graph = graph_allocated v.graph p.number words place; addresses = with_last v.addresses (Some at) })
  allocated_sound p words place at there kind size others =
      let o : Object = record { pool = p.number; body = Manual (replicate words 0) } in
      let first = object_added v s o (Some at) (manual_right p words there kind size) in
      let v1 = record v { graph = record v.graph { objects = with_last v.graph.objects o }; addresses = with_last v.addresses (Some at) } in
      let grows : Grows v v1 = record {
        formats = refl;
        pools = λ n q e. e;
        objects = λ id x e. (x, slice_get-kept v.graph.objects o x id e, record { pool = refl; size = refl; kind = refl });
      } in
      let v2 = with_graph v1 (with_block_place v1.graph place (Some (length v.graph.objects))) in
      untouched v2 (record v { graph = graph_allocated v.graph p.number words place; addresses = with_last v.addresses (Some at) })
      (place_written v1 first place (Some (length v.graph.objects))
      (all-weaker (manual v) (manual v1) (manual_kept v v1 grows) (entries place.list) others)
      (ap (λ x. option_map_or (λ y. not (is_automatic y)) x false) (slice_get-at_last v.graph.objects o)))
      refl (λ n q h. h) refl refl refl refl refl refl refl refl

  not_not : (b : Bool) → not b ≡ false → b ≡ true
  not_not true h = refl
  not_not false h = absurd (true≢false h)

  may_is_automatic : (kind : PoolKind) (at_rank : Rank) → not (may_have_point kind at_rank) ≡ false → is_automatic_kind kind ≡ true
  may_is_automatic kind at_rank h = (and_parts (is_automatic_kind kind) (not (is_weak_rank at_rank) || is_weak_kind kind)
      (not_not (may_have_point kind at_rank) h)).0

  may_is_weak : (kind : PoolKind) (at_rank : Rank) → not (may_have_point kind at_rank) ≡ false → is_weak_rank at_rank ≡ true
      → is_weak_kind kind ≡ true
  may_is_weak kind at_rank h weak =
      of_rank (is_weak_rank at_rank) (is_weak_kind kind) weak
      (and_parts (is_automatic_kind kind) (not (is_weak_rank at_rank) || is_weak_kind kind) (not_not (may_have_point kind at_rank) h)).1
    where
      of_rank : (b c : Bool) → b ≡ true → (not b || c) ≡ true → c ≡ true
      of_rank true c e k = k
      of_rank false c e k = absurd (false≢true e)

  registered_sound : (slot : Slot) (from : Found (Option ℕ)) (object : Numbered Object) → All (is_live v) (ids_in_slots v.graph)
      → slot_in v slot ≡ Ok from
      → object_in v from.value ≡ Ok object
      → IsSoundGraph (with_graph v (record v.graph { registered = with_last v.graph.registered object.number }))
  registered_sound slot from object live e f =
      let o = object_of_slot v s slot from object e f in
      let alive = id_of_slot v s slot from object.number live e (object_found v from.value object f).0 in
      held_written v s (record v.graph { registered = with_last v.graph.registered object.number }) refl refl (inl refl) (inl refl)
      (inl refl)
      (inr (all-ended (is_live_automatic v) v.graph.registered object.number s.registered
      (and_from (is_live v object.number) (auto v object.number) alive o.0)))
      (inl refl)

  -- a world of which nothing that matters was touched
  as_it_was : {w : World} → w.formats ≡ v.formats → w.pools ≡ v.pools → w.graph.objects ≡ v.graph.objects → w.graph.points ≡ v.graph.points
      → w.graph.tables ≡ v.graph.tables → w.graph.areas ≡ v.graph.areas → ids_in_blocks w.graph ≡ ids_in_blocks v.graph
      → w.graph.registered ≡ v.graph.registered
      → w.graph.messages ≡ v.graph.messages → w.addresses ≡ v.addresses → IsSoundGraph w
  as_it_was {w} formats pools objects points tables areas blocks listed messages addresses =
      untouched v w s formats (λ n p e. ap (λ ps. slice_get ps n) pools
      ∙ e) objects points tables areas blocks listed messages addresses

  -- ---- what is written passes

  got_passes : {marked : Bool} {c : Call} {target : Option ℕ} → IsGot marked c judged v target → PassesOrNull (auto v) target
  got_passes GotNull = tt
  got_passes (FromSlot slot from e) = slot_passes v s slot from e
  got_passes (FromCell target source cell from seen read e f g h) =
      reference_passes v s (cells_of_body seen.value.body) cell read
      (object_cells v s seen.number seen.value (object_found v from.value seen g).1) h
  got_passes (FromWord place at id e f) =
      let w = word_found v place at e in
      taken v s at.value id f (each-at (is_sound_word v) at.list at.index at.value (s.words at.number at.list w.0) w.1)
  got_passes (FromMessage id ids e) = (and_parts (auto v id) (list_all (auto v) ids) (subst (All (auto v)) e s.messages)).0

  shown_sound : {marked : Bool} {c : Call} {word : AreaWord} → IsShown marked c judged v word → is_sound_word v word ≡ true
  shown_sound (ShownPlain number) = refl
  shown_sound (ShownPinned object held) =
      let o = object_of_slot v s held.slot held.from object held.there held.is in pin_is_sound v s object.number object.value o.1 o.0
  shown_sound (ShownPoked place id word e f fate) = hold_is_sound v s id word (block_lies v s word id f)

  written_right : {marked : Bool} {c : Call} {cells : List Cell} {change : List Cell → List Cell}
      → IsWritten marked c judged v cells change → (likes : List Cell)
      → AreRight (auto v) likes cells → AreRight (auto v) likes (change cells)
  written_right {cells = cells} (WritesReference k source from e) likes h =
      right_target_cell (auto v) likes cells k from.value (slot_passes v s source from e) h
  written_right {cells = cells} (WritesTag k tag low) likes h = right_tag_cell (auto v) likes cells k tag low h
  written_right {cells = cells} (WritesNumber k was value there) likes h =
      right_number_cell (auto v) likes cells k was value (number_found cells k was there) h

  slots_pass : (into : Found (Option ℕ)) → IsFoundBy slot_in judged v into → All (auto v) (entries into.list)
  slots_pass into (Now slot e) = table_passes (auto v) v.graph.tables into.number into.list s.slots (slot_found v slot into e).0
  slots_pass into (Before slot e) = slot_judged slot into e

  -- ---- changes

  committed_sound : (name : Name) (target : Slot) (p : Numbered Point) (slot : Found (Option ℕ)) (r : Reservation)
      → point_named v name ≡ Ok p → slot_in v target ≡ Ok slot → p.value.reservation ≡ Some r → IsSoundGraph (world_committed v p r slot)
  committed_sound name target p slot r e e' f =
      let there = (point_named-is v name p e).1 in
      let first = reservation_written v s p None there (λ x k. absurd (none-some x k)) in
      let v1 = with_graph v (with_reservation v.graph p None) in
      let o = committed_object p.value r in
      let right : is_right_object v1 o ≡ true =
      Rattle.mps_laws.proofs.Sound.SoundGraph.right_object_kept v v1 (grows_alike v v1 refl (λ n q h. h) refl) o
      (committed_right p r there f) in
      let second = object_added v1 first o (Some (reserved_address v p.number)) right in
      let v2 = record v1 {
        graph = record v1.graph { objects = with_last v.graph.objects o };
        addresses = with_last v.addresses (Some (reserved_address v p.number));
      } in
      slot_written v2 second slot (Some (length v.graph.objects))
      (table_passes (auto v2) v2.graph.tables slot.number slot.list second.slots (slot_found v target slot e').0)
      (ap (λ x. option_map_or is_automatic x false) (slice_get-at_last v.graph.objects o))

  pub change_sound : {marked : Bool} {c : Call} {u : World} → (is_finalize c ≡ true → All (is_live v) (ids_in_slots v.graph))
      → (is_substituting c ≡ true → All (auto v) (ids_in_pairs v.state))
      → Rattle.mps_laws.proofs.Replays.Steps.is_reserve c ≡ false → Change marked c judged v u → IsSoundGraph u
  change_sound live pairs other Unchanged = s
  change_sound live pairs other (Aside u what) =
      as_it_was refl refl refl refl refl refl refl refl refl refl
  change_sound live pairs other (SlotIs into target found got) = slot_written v s into target (slots_pass into found) (got_passes got)
  change_sound live pairs other (WordIs place at word e shown) = word_written v s place at word e (shown_sound shown)
  change_sound live pairs other (MessageTaken slot into id ids e are) =
      let parts = and_parts (auto v id) (list_all (auto v) ids) (subst (All (auto v)) are s.messages) in
      held_written v s (with_slot (record v.graph { messages = ids }) into (Some id)) refl refl
      (inr (all-written (auto v) slots_of v.graph.tables into.number (Some (slice_set into.list into.index (Some id))) s.slots
      (entries-written (auto v) into.list into.index (Some id) (slots_pass into (Now slot e)) parts.0)))
      (inl refl) (inl refl) (inl refl) (inr parts.1)
  change_sound live pairs other (TableMade name slots) = new_table v s name.name slots
  change_sound live pairs other (AreaMade name words) = new_area v s name.name words
  change_sound live pairs other (BlocksMade name places e) = new_blocks v s name.name places
  change_sound live pairs other (TableDropped name n named) =
      held_written v s (record v.graph { tables = slice_set v.graph.tables n None; names = without_name v.graph.names name }) refl refl
      (inr (all-written (auto v) slots_of v.graph.tables n None s.slots refl)) (inl refl) (inl refl) (inl refl) (inl refl)
  change_sound live pairs other (AreaDropped name n named) =
      held_written v s (record v.graph { areas = slice_set v.graph.areas n None; names = without_name v.graph.names name }) refl refl
      (inl refl)
      (inr (λ k area h. elim (entry_within_set v.graph.areas n k area None h) [
        | inl here ↦ absurd (none-some area here.1)
        | inr other ↦ s.words k area other.1
      ])) (inl refl) (inl refl) (inl refl)
  change_sound live pairs other (CellsAre object change held write) =
      let o = (object_found v held.from.value object held.is).1 in
      cells_changed v s object.number object.value change o (written_length write (cells_of_body object.value.body)) (written_right write)
  change_sound live pairs other (BlockWordIs id k value) = block_word_written v s id k value
  change_sound live pairs other (PlaceEmptied from place id e found has freed) =
      place_written v s place None (place_own from place found) tt
  change_sound live pairs other (Allocated p words place at is of kind size found empty) =
      allocated_sound p words place at (grown.pools p.number p.value of) kind size (place_found place found)
  change_sound live pairs other (CacheMade name pool of classes e may none) =
      as_it_was refl refl refl refl refl refl
      (ap (λ ids. ids_in_places v.graph ++ ids) (cache_added v.graph.caches (record { pool = of.number; classes = classes }) none))
      refl refl refl
  change_sound live pairs other (BlockUncached name cache words into place id classes e is taken found empty) =
      let v1 = with_graph v (graph_cleared v.graph id) in
      let s1 = block_cleared v s id in
      let less = less_pass (manual v1) (cache_less v.graph cache (cache_named-is v name cache is) words id classes taken)
      (manual_parts v1 s1).1 in
      let v2 = with_graph v (graph_cleared (with_classes v.graph cache classes) id) in
      let s2 = cached_written v1 s1 cache classes less.1 in
      let f = found_by (number_named v into.name as_blocks) (λ n. slice_get v.graph.blocks n) into.index place found in
      place_written v2 s2 place (Some id)
      (all-at (manual v2) entries v.graph.blocks place.number place.list (manual_parts v2 s2).0 f.0) less.0
  change_sound live pairs other (BlockCached name cache from place id classes e is found has own kept) =
      let v1 = with_graph v (with_block_place v.graph place None) in
      let s1 = place_written v s place None (place_own from place found) tt in
      cached_written v1 s1 cache classes
      (more_pass (manual v1) (cache_more v.graph cache (cache_named-is v name cache is) (words_of v id) id classes kept)
      (placed_manual from place id found has) (manual_parts v1 s1).1)
  change_sound live pairs other (CacheFlushed name cache e is) =
      cached_written v s cache (map emptied cache.value.classes)
      (flush_passes v.graph cache (cache_named-is v name cache is) (manual v) (manual_parts v s).1)
  change_sound live pairs other (FramePushed name f e found) = as_it_was refl refl refl refl refl refl refl refl refl refl
  change_sound live pairs other (FramesPopped name f frame before e found opened) =
      let gone = drop before f.blocks in
      let parts = manual_parts v s in
      let u = with_graph v (graph_popped v.graph f frame before) in
      edited v u (grows_alike v u refl (λ n q h. h) refl) s (record {
        live = λ id h. h;
        objects = λ id o h. inl h;
        reservations = λ n p r h k. inl (s.reservations n p r h k);
        points = λ n p h. inl (s.points n p h);
        slots = inl refl;
        words = inl refl;
        blocks = inr (both_pass (manual v) (flat_map entries (places_without gone v.graph.blocks)) (ids_in_caches v.graph)
            (places_pass gone (manual v) v.graph.blocks parts.0) parts.1);
        registered = inl refl;
        messages = inl refl;
      })
  change_sound live pairs other (PoolMade name p e made) =
      untouched v (with_pool v name.name p) s refl (λ n q h. slice_get-kept v.pools p q n h) refl refl refl refl refl refl refl refl
  change_sound live pairs other (PointMade name pool of at_rank e is may) = new_point v s name.name of.number at_rank (
    kind_of_pool is_automatic_kind v.pools of.number of.value (pool_named-is v pool of is) (may_is_automatic of.value.kind at_rank
        (ap not may)),
    (λ weak. kind_of_pool is_weak_kind v.pools of.number of.value (pool_named-is v pool of is)
        (may_is_weak of.value.kind at_rank (ap not may) weak)),
  )
  change_sound live pairs other (PointDropped name p e is none) = no_point v s name p.number
  change_sound live pairs other (Opened name head reserving p at e is there) =
      but Rattle.mps_laws.proofs.Replays.Steps.is_reserve e refl other
  change_sound live pairs other (Written name p r change e there has lives write) =
      let is = (point_named-is v name p there).1 in
      reservation_written v s p (Some (record r { cells = change r.cells })) is (λ x k.
      subst (λ (z : Reservation). is_sound_reservation v p.value.pool z ≡ true) (same_Some (record r { cells = change r.cells }) x k)
      (cells_sound v s p.value.pool r (change r.cells) (written_right write) (s.reservations p.number p.value r is has)))
  change_sound live pairs other (Closed name target p r e there has ended) =
      reservation_written v s p None (point_named-is v name p there).1 (λ x k. absurd (none-some x k))
  change_sound live pairs other (Committed name target p r slot e there found has lives) =
      committed_sound name target p slot r there found has
  change_sound live pairs other (Substituted name transform e is parked) =
      let replaced = pairs_of v.state transform in
      let u = with_graph v (graph_substituted v.graph replaced) in
      untouched u (world_substituted v name transform)
      (substituted_sound v s replaced (pairs_of_pass (auto v) v.state transform (pairs (ap is_substituting e))))
      refl (λ n p h. h) refl refl refl refl refl refl refl refl
  change_sound live pairs other (Registered object held e) =
      registered_sound held.slot held.from object (live (ap is_finalize e)) held.there held.is
  change_sound live pairs other (Unregistered slot from object position e there is at) =
      untouched (with_graph v (record v.graph { registered = without_first v.graph.registered object.number }))
      (record v {
        graph = record v.graph { registered = without_first v.graph.registered object.number };
        collection = option_map (without_registration position) v.collection;
      })
      (held_written v s (record v.graph { registered = without_first v.graph.registered object.number }) refl refl (inl refl) (inl refl)
      (inl refl)
      (inr (all-without (is_live_automatic v) v.graph.registered object.number s.registered)) (inl refl))
      refl (λ n p h. h) refl refl refl refl refl refl refl refl

pub act_sound : (marked : Bool) (judged v : World) (j : IsSoundGraph judged) (grown : Grows judged v) (s : IsSoundGraph v) (c : Call)
    → (is_finalize c ≡ true → All (is_live v) (ids_in_slots v.graph))
    → (is_substituting c ≡ true → All (auto v) (ids_in_pairs v.state)) → Rattle.mps_laws.proofs.Replays.Steps.is_reserve c ≡ false
    → ForAct IsSoundGraph (act marked judged v c)
act_sound marked judged v j grown s c live pairs other = of_changes marked judged v c (λ u change.
    change_sound judged v j grown s live pairs other change)
