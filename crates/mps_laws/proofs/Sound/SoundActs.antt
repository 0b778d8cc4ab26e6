-- What calls leave of a sound graph, but for those that make objects or reserve: a sound graph.
use Rattle.std.proofs.Common.{◌≡◌, ◌∙◌, ◌⊎◌, ℕ, ◌+◌, ◌-◌, ◌*◌, ◌<◌, Bool, true, false, refl, sym, ap, List, [], ◌∷◌, length, Option, Some, None, Ok, subst, inl, inr, arith}
use Rattle.std.proofs.lemmas.Bool.{false≢true, and_parts, and_from, cases_eq, leb-true, ltb-true, lt-ltb, eqb-true, eq-eqb}
use Rattle.std.proofs.lemmas.List.{length-replicate}
use Rattle.std.proofs.lemmas.Option.{none-some, same_Some}
use Rattle.std.specs.Prelude.{map, slice_get, slice_set, not, ◌&&◌, ◌||◌, ◌==◌, nat_lt, nat_le, if◌then◌else◌, is_some, find}
use Rattle.std.specs.Option.{option_map_or}
use Rattle.std.specs.List.{list_all, flat_map}
use Rattle.mps_base.specs.declared.names.Slot.{Slot}
use Rattle.mps_model.proofs.Taking.{sized_where_allowed}
use Rattle.mps_model.specs.Graph.{Graph, Object, Body, Automatic, Manual, Cell, HeadCell, Cache, CacheClass, ids_in_caches, ids_in_places, Point, Reservation, AreaWord, Hold, Slots, entries, entry_at, object_at, size_of, size_of_body, target_of_cell, targets_of_cells, slots_of, ids_in_blocks, with_last, body_with_cells, object_with_cells, graph_with_cells, new_cells}
use Rattle.mps_model.specs.World.{World, Pool, is_live, is_live_and, words_of, is_copying_object, is_word_in, lies_in, live_ids, block_of_word, pool_at, is_automatic_kind, is_weak_kind}
use Rattle.mps_model.specs.WellFormed.{are_shaped, are_right_cells, is_right_body, is_right_object, is_live_automatic}
use Rattle.mps_model.specs.Checked.{Found, Numbered, slot_in, word_in, cells_of_body, reference_at, with_graph}
use Rattle.mps_model.specs.Allocating.{with_slot, with_block_place, with_reservation, graph_with_word, body_with_word, takes_head, allows_size}
use Rattle.mps_model.specs.Accessing.{with_word, hold_of, address_or_null}
use Rattle.mps_model.specs.Caches.{body_cleared, graph_cleared, with_classes}
use Rattle.mps_laws.proofs.Lookups.{slice_get-set_same, slice_get-set_other, length-slice_set, entry_is_there, entry_within_set, entry_at-last, entry_within}
use Rattle.mps_laws.proofs.Sound.SoundGraph.{All, PassesOrNull, AreRight, IsSoundGraph, IsAlike, Grows, auto, manual, is_sound_word, is_sound_reservation, all-weaker, all-at, all-written, all-append, manual_parts, entries-written, entry-passes, each-written, edited, grows_alike}
use Rattle.mps_laws.proofs.FoundBy.{slot_found, word_found, reference_found}

-- ---- what is found passes

pub table_passes : (test : ℕ → Bool) (tables : List (Option Slots)) (n : ℕ) (list : Slots) → All test (flat_map slots_of tables)
    → entry_at tables n ≡ Some list → All test (entries list)
table_passes test tables n list h e = all-at test slots_of tables n (Some list) h (entry_is_there tables n list e)

module _ (v : World) (s : IsSoundGraph v) where
  pub slot_passes : (slot : Slot) (found : Found (Option ℕ)) → slot_in v slot ≡ Ok found → PassesOrNull (auto v) found.value
  slot_passes slot found e =
      let f = slot_found v slot found e in
      entry-passes (auto v) found.list found.index found.value
      (table_passes (auto v) v.graph.tables found.number found.list s.slots f.0) f.1

  -- the pool and cells of an object
  pub object_cells : (id : ℕ) (o : Object) → object_at v.graph id ≡ Some o → All (auto v) (targets_of_cells (cells_of_body o.body))
  object_cells id o e = of_pool (pool_at v o.pool) (s.objects id o e)
    where
      of_body : (p : Pool) (b : Body) → is_right_body v p b ≡ true → All (auto v) (targets_of_cells (cells_of_body b))
      of_body p (Manual words) h = refl
      of_body p (Automatic head cells is_weak) h =
          let outer = and_parts (is_automatic_kind p.kind && are_right_cells v p head cells) (not is_weak || is_weak_kind p.kind) h in
          let inner = and_parts (is_automatic_kind p.kind) (are_right_cells v p head cells) outer.0 in
          (and_parts (takes_head v p head && are_shaped (new_cells (v.formats p.format) head) cells)
          (list_all (auto v) (targets_of_cells cells)) inner.1).1

      of_pool : (x : Option Pool) → option_map_or (λ p. is_right_body v p o.body) x false ≡ true
          → All (auto v) (targets_of_cells (cells_of_body o.body))
      of_pool None h = absurd (false≢true h)
      of_pool (Some p) h = of_body p o.body h

  pub reference_passes : (cells : List Cell) (k : ℕ) (r : Option ℕ) → All (auto v) (targets_of_cells cells) → reference_at cells k ≡ Ok r
      → PassesOrNull (auto v) r
  reference_passes cells k r h e = entry-passes (auto v) (map target_of_cell cells) k r h (reference_found cells k r e)

  no_more : (n : ℕ) (p : Pool) → slice_get v.pools n ≡ Some p → slice_get v.pools n ≡ Some p
  no_more n p e = e

  -- ---- effects

  -- the graph with other tables, areas, blocks, registrations and messages, by what of them is new
  pub held_written : (g : Graph) → g.objects ≡ v.graph.objects → g.points ≡ v.graph.points
      → (g.tables ≡ v.graph.tables) ⊎ All (auto v) (flat_map slots_of g.tables)
      → (g.areas ≡ v.graph.areas) ⊎ ((n : ℕ) (area : List AreaWord) → entry_at g.areas n ≡ Some area
      → list_all (is_sound_word v) area ≡ true)
      → (ids_in_blocks g ≡ ids_in_blocks v.graph) ⊎ All (manual v) (ids_in_blocks g)
      → (g.registered ≡ v.graph.registered) ⊎ All (is_live_automatic v) g.registered
      → (g.messages ≡ v.graph.messages) ⊎ All (auto v) g.messages → IsSoundGraph (with_graph v g)
  held_written g objects points tables areas blocks registered messages =
      let w = with_graph v g in
      let grows = grows_alike v w refl no_more objects in
      edited v w grows s (record {
        live = λ id h. h;
        objects = λ id o h. inl (sym (ap (λ os. slice_get os id) objects) ∙ h);
        reservations = λ n p r h k. inl (s.reservations n p r (sym (ap (λ ps. entry_at ps n) points) ∙ h) k);
        points = λ n p h. inl (s.points n p (sym (ap (λ ps. entry_at ps n) points) ∙ h));
        slots =
            elim tables [
              | inl same ↦ inl same
              | inr new ↦ inr (all-weaker (auto v) (auto w) (Rattle.mps_laws.proofs.Sound.SoundGraph.auto_kept v w grows)
                  (flat_map slots_of g.tables) new)
            ];
        words =
            elim areas [
              | inl same ↦ inl same
              | inr new ↦
                  inr (λ n area h. Rattle.mps_laws.proofs.Sound.SoundGraph.each-weaker (is_sound_word v) (is_sound_word w)
                  (Rattle.mps_laws.proofs.Sound.SoundGraph.word_kept v w grows s.objects) area (new n area h))
            ];
        blocks =
            elim blocks [
              | inl same ↦ inl same
              | inr new ↦ inr (all-weaker (manual v) (manual w) (Rattle.mps_laws.proofs.Sound.SoundGraph.manual_kept v w grows)
                  (ids_in_blocks g) new)
            ];
        registered =
            elim registered [
              | inl same ↦ inl same
              | inr new ↦
                  inr (all-weaker (is_live_automatic v) (is_live_automatic w)
                  (Rattle.mps_laws.proofs.Sound.SoundGraph.live_auto_kept v w grows (λ id h. h)) g.registered new)
            ];
        messages =
            elim messages [
              | inl same ↦ inl same
              | inr new ↦ inr (all-weaker (auto v) (auto w) (Rattle.mps_laws.proofs.Sound.SoundGraph.auto_kept v w grows) g.messages new)
            ];
      })

  -- a slot is written, whose table's other slots pass
  pub slot_written : (into : Found (Option ℕ)) (target : Option ℕ) → All (auto v) (entries into.list) → PassesOrNull (auto v) target
      → IsSoundGraph (with_graph v (with_slot v.graph into target))
  slot_written into target others passes =
      held_written (with_slot v.graph into target) refl refl
      (inr (all-written (auto v) slots_of v.graph.tables into.number (Some (slice_set into.list into.index target)) s.slots
      (entries-written (auto v) into.list into.index target others passes))) (inl refl) (inl refl) (inl refl) (inl refl)

  -- a word of an area is written
  pub word_written : (place : Slot) (at : Found AreaWord) (word : AreaWord) → word_in v place ≡ Ok at → is_sound_word v word ≡ true
      → IsSoundGraph (with_graph v (with_word v.graph at word))
  word_written place at word e sound =
      held_written (with_word v.graph at word) refl refl (inl refl)
      (inr (λ n area h.
      elim (entry_within_set v.graph.areas at.number n area (Some (slice_set at.list at.index word)) h) [
        | inl here ↦
            subst (λ (x : List AreaWord). list_all (is_sound_word v) x ≡ true) (same_Some (slice_set at.list at.index word) area here.1)
            (each-written (is_sound_word v) at.list at.index word (s.words at.number at.list (word_found v place at e).0) sound)
        | inr there ↦ s.words n area there.1
      ]))
      (inl refl) (inl refl) (inl refl)

  -- ---- cells and words of objects

  -- an object is written over one that is alike
  pub object_written : (id : ℕ) (o new : Object) → object_at v.graph id ≡ Some o → IsAlike o new → is_right_object v new ≡ true
      → IsSoundGraph (with_graph v (record v.graph { objects = slice_set v.graph.objects id new }))
  object_written id o new e alike right =
      let w = with_graph v (record v.graph { objects = slice_set v.graph.objects id new }) in
      let within = Rattle.std.proofs.lemmas.Option.slice_get_within v.graph.objects id o e in
      let grows : Grows v w = record {
        formats = refl;
        pools = no_more;
        objects = λ j x h.
            elim (cases_eq id j) [
              | inl same ↦
                  subst (λ (k : ℕ). object_at v.graph k ≡ Some x → (y : Object) × (object_at w.graph k ≡ Some y) × IsAlike x y) same
                  (λ h'. (
                    new,
                    slice_get-set_same v.graph.objects id new within,
                    subst (λ (z : Object). IsAlike z new) (same_Some o x (sym e ∙ h')) alike,
                  )) h
              | inr other ↦ (x, slice_get-set_other v.graph.objects id j new other ∙ h, record { pool = refl; size = refl; kind = refl })
            ];
      } in
      edited v w grows s (record {
        live = λ j h. h;
        objects = λ j x h.
            elim (cases_eq id j) [
              | inl same ↦
                  inr (subst (λ (z : Object). is_right_object w z ≡ true)
                  (same_Some new x (sym (ap (λ (k : ℕ). slice_get (slice_set v.graph.objects id new) k) (sym same)
                  ∙ slice_get-set_same v.graph.objects id new within) ∙ h))
                  (Rattle.mps_laws.proofs.Sound.SoundGraph.right_object_kept v w grows new right))
              | inr other ↦ inl (sym (slice_get-set_other v.graph.objects id j new other) ∙ h)
            ];
        reservations = λ n p r h k. inl (s.reservations n p r h k);
        points = λ n p h. inl (s.points n p h);
        slots = inl refl;
        words = inl refl;
        blocks = inl refl;
        registered = inl refl;
        messages = inl refl;
      })

  right_with_cells : (o : Object) (change : List Cell → List Cell)
      → ((likes : List Cell) → AreRight (auto v) likes (cells_of_body o.body) → AreRight (auto v) likes (change (cells_of_body o.body)))
      → is_right_object v o ≡ true → is_right_object v (object_with_cells o change) ≡ true
  right_with_cells o change each h = of_pool (pool_at v o.pool) h
    where
      of_body : (p : Pool) (b : Body) → ((likes : List Cell) → AreRight (auto v) likes (cells_of_body b)
          → AreRight (auto v) likes (change (cells_of_body b)))
          → is_right_body v p b ≡ true → is_right_body v p (body_with_cells b change) ≡ true
      of_body p (Manual words) each h = h
      of_body p (Automatic head cells is_weak) each h =
          let outer = and_parts (is_automatic_kind p.kind && are_right_cells v p head cells) (not is_weak || is_weak_kind p.kind) h in
          let inner = and_parts (is_automatic_kind p.kind) (are_right_cells v p head cells) outer.0 in
          let parts = and_parts (takes_head v p head && are_shaped (new_cells (v.formats p.format) head) cells)
          (list_all (auto v) (targets_of_cells cells)) inner.1 in
          let first = and_parts (takes_head v p head) (are_shaped (new_cells (v.formats p.format) head) cells) parts.0 in
          let now = each (new_cells (v.formats p.format) head) (first.1, parts.1) in
          and_from (is_automatic_kind p.kind && are_right_cells v p head (change cells)) (not is_weak || is_weak_kind p.kind)
          (and_from (is_automatic_kind p.kind) (are_right_cells v p head (change cells)) inner.0
          (and_from (takes_head v p head && are_shaped (new_cells (v.formats p.format) head) (change cells))
          (list_all (auto v) (targets_of_cells (change cells)))
          (and_from (takes_head v p head) (are_shaped (new_cells (v.formats p.format) head)
          (change cells)) first.0 now.0) now.1))
          outer.1

      of_pool : (x : Option Pool) → option_map_or (λ p. is_right_body v p o.body) x false ≡ true
          → option_map_or (λ p. is_right_body v p (body_with_cells o.body change)) x false ≡ true
      of_pool None h = absurd (false≢true h)
      of_pool (Some p) h = of_body p o.body each h

  alike_cells : (o : Object) (change : List Cell → List Cell) → length (change (cells_of_body o.body)) ≡ length (cells_of_body o.body)
      → IsAlike o (object_with_cells o change)
  alike_cells o change same = record { pool = refl; size = size_kept o.body same; kind = kind_kept o.body }
    where
      size_kept : (b : Body) → length (change (cells_of_body b)) ≡ length (cells_of_body b)
          → size_of_body (body_with_cells b change) ≡ size_of_body b
      size_kept (Automatic head cells is_weak) h = h
      size_kept (Manual words) h = refl

      kind_kept : (b : Body) → Rattle.mps_model.specs.Graph.is_automatic_body
          (body_with_cells b change) ≡ Rattle.mps_model.specs.Graph.is_automatic_body b
      kind_kept (Automatic head cells is_weak) = refl
      kind_kept (Manual words) = refl

  pub cells_changed : (id : ℕ) (o : Object) (change : List Cell → List Cell) → object_at v.graph id ≡ Some o
      → length (change (cells_of_body o.body)) ≡ length (cells_of_body o.body)
      → ((likes : List Cell) → AreRight (auto v) likes (cells_of_body o.body) → AreRight (auto v) likes (change (cells_of_body o.body)))
      → IsSoundGraph (with_graph v (graph_with_cells v.graph id change))
  cells_changed id o change e same each =
      subst (λ os. IsSoundGraph (with_graph v (record v.graph { objects = os })))
      (sym (ap (λ x. option_map_or (λ y. slice_set v.graph.objects id (object_with_cells y change)) x v.graph.objects) e))
      (object_written id o (object_with_cells o change) e (alike_cells o change same) (right_with_cells o change each (s.objects id o e)))

-- ---- points and new objects

module _ (v : World) (s : IsSoundGraph v) where
  -- a point gets another reservation, or none
  pub reservation_written : (p : Numbered Point) (reservation : Option Reservation) → entry_at v.graph.points p.number ≡ Some p.value
      → ((r : Reservation) → reservation ≡ Some r → is_sound_reservation v p.value.pool r ≡ true)
      → IsSoundGraph (with_graph v (with_reservation v.graph p reservation))
  reservation_written p reservation there sound =
      let w = with_graph v (with_reservation v.graph p reservation) in
      let new : Point = record p.value { reservation = reservation } in
      edited v w (grows_alike v w refl (λ n q e. e) refl) s (record {
        live = λ id h. h;
        objects = λ id o h. inl h;
        reservations = λ n q r h k.
            elim (entry_within_set v.graph.points p.number n q (Some new) h) [
              | inl here ↦
                  let same : new ≡ q = same_Some new q here.1 in
                  inl (subst (λ (x : Point). is_sound_reservation v x.pool r ≡ true) same
                  (sound r (ap (λ (x : Point). x.reservation) same ∙ k)))
              | inr other ↦ inl (s.reservations n q r other.1 k)
            ];
        points = λ n q h.
            elim (entry_within_set v.graph.points p.number n q (Some new) h) [
              | inl here ↦
                  inl (subst (λ (x : Point). Rattle.mps_laws.proofs.Sound.SoundGraph.IsRightPoint v.pools x) (same_Some new q here.1)
                  (s.points p.number p.value there))
              | inr other ↦ inl (s.points n q other.1)
            ];
        slots = inl refl;
        words = inl refl;
        blocks = inl refl;
        registered = inl refl;
        messages = inl refl;
      })

  -- one object more
  pub object_added : (o : Object) (at : Option ℕ) → is_right_object v o ≡ true
      → IsSoundGraph (record v { graph = record v.graph { objects = with_last v.graph.objects o }; addresses = with_last v.addresses at })
  object_added o at right =
      let w = record v { graph = record v.graph { objects = with_last v.graph.objects o }; addresses = with_last v.addresses at } in
      let grows : Grows v w = record {
        formats = refl;
        pools = λ n p e. e;
        objects = λ id x e. (
          x,
          Rattle.mps_laws.proofs.Lookups.slice_get-kept v.graph.objects o x id e,
          record { pool = refl; size = refl; kind = refl },
        );
      } in
      edited v w grows s (record {
        live = λ id h. still_live id h;
        objects = λ id x h.
            elim (Rattle.std.proofs.lemmas.Bool.cases_order id (length v.graph.objects)) [
              | inl e ↦
                  inr (subst (λ (z : Object). is_right_object w z ≡ true)
                  (same_Some o x (sym (ap (slice_get (with_last v.graph.objects o)) e
                  ∙ Rattle.mps_laws.proofs.Lookups.slice_get-at_last v.graph.objects o) ∙ h))
                  (Rattle.mps_laws.proofs.Sound.SoundGraph.right_object_kept v w grows o right))
              | inr (inl low) ↦ inl (sym (Rattle.mps_laws.proofs.Lookups.slice_get-last v.graph.objects o id low) ∙ h)
              | inr (inr high) ↦
                  absurd (none-some x (sym (Rattle.mps_laws.proofs.Lookups.slice_get-after_last v.graph.objects o id high) ∙ h))
            ];
        reservations = λ n p r h k. inl (s.reservations n p r h k);
        points = λ n p h. inl (s.points n p h);
        slots = inl refl;
        words = inl refl;
        blocks = inl refl;
        registered = inl refl;
        messages = inl refl;
      })
    where
      still_live : (id : ℕ) → is_live v id ≡ true → is_some (entry_at (with_last v.addresses at) id) ≡ true
      still_live id h = of_one (entry_at v.addresses id) refl h
        where
          of_one : (x : Option ℕ) → entry_at v.addresses id ≡ x → is_some x ≡ true → is_some (entry_at (with_last v.addresses at) id) ≡ true
          of_one None e k = absurd (false≢true k)
          of_one (Some a) e k =
              ap is_some (entry_at-last v.addresses at id (entry_within v.addresses id a e) ∙ e)

  -- a place of a table of blocks is written
  pub place_written : (place : Found (Option ℕ)) (block : Option ℕ) → All (manual v) (entries place.list) → PassesOrNull (manual v) block
      → IsSoundGraph (with_graph v (with_block_place v.graph place block))
  place_written place block others passes =
      let parts = manual_parts v s in
      held_written v s (with_block_place v.graph place block) refl refl (inl refl) (inl refl)
      (inr (all-append (manual v) (ids_in_places (with_block_place v.graph place block)) (ids_in_caches v.graph)
      (all-written (manual v) entries v.graph.blocks place.number (slice_set place.list place.index block) parts.0
      (entries-written (manual v) place.list place.index block others passes)) parts.1)) (inl refl) (inl refl)

  -- caches have other blocks
  pub cached_written : (cache : Numbered Cache) (classes : List CacheClass)
      → All (manual v) (ids_in_caches (with_classes v.graph cache classes))
      → IsSoundGraph (with_graph v (with_classes v.graph cache classes))
  cached_written cache classes passes =
      held_written v s (with_classes v.graph cache classes) refl refl (inl refl) (inl refl)
      (inr (all-append (manual v) (ids_in_places v.graph) (ids_in_caches (with_classes v.graph cache classes))
      (manual_parts v s).0 passes)) (inl refl) (inl refl)

  -- a manual block is cleared
  pub block_cleared : (id : ℕ) → IsSoundGraph (with_graph v (graph_cleared v.graph id))
  block_cleared id = of_object (object_at v.graph id) refl
    where
      size_kept : (b : Body) → size_of_body (body_cleared b) ≡ size_of_body b
      size_kept (Automatic head cells is_weak) = refl
      size_kept (Manual words) = length-replicate (length words) 0

      kind_kept : (b : Body) → Rattle.mps_model.specs.Graph.is_automatic_body (body_cleared b)
          ≡ Rattle.mps_model.specs.Graph.is_automatic_body b
      kind_kept (Automatic head cells is_weak) = refl
      kind_kept (Manual words) = refl

      body_right : (p : Pool) (b : Body) → is_right_body v p b ≡ true → is_right_body v p (body_cleared b) ≡ true
      body_right p (Automatic head cells is_weak) h = h
      body_right p (Manual words) h =
          subst (λ (n : ℕ). (not (is_automatic_kind p.kind) && allows_size p.kind n) ≡ true) (sym (length-replicate (length words) 0)) h

      object_right : (o : Object) (x : Option Pool) → option_map_or (λ p. is_right_body v p o.body) x false ≡ true
          → option_map_or (λ p. is_right_body v p (body_cleared o.body)) x false ≡ true
      object_right o None h = absurd (false≢true h)
      object_right o (Some p) h = body_right p o.body h

      of_object : (x : Option Object) → object_at v.graph id ≡ x
          → IsSoundGraph (with_graph v (record v.graph {
            objects = option_map_or (λ o. slice_set v.graph.objects id (record o { body = body_cleared o.body })) x v.graph.objects;
          }))
      of_object None e = held_written v s v.graph refl refl (inl refl) (inl refl) (inl refl) (inl refl) (inl refl)
      of_object (Some o) e =
          object_written v s id o (record o { body = body_cleared o.body }) e
          (record { pool = refl; size = size_kept o.body; kind = kind_kept o.body })
          (object_right o (pool_at v o.pool) (s.objects id o e))

  -- a word of a manual block is written
  pub block_word_written : (id k value : ℕ) → IsSoundGraph (with_graph v (graph_with_word v.graph id k value))
  block_word_written id k value = of_object (object_at v.graph id) refl
    where
      size_kept : (b : Body) → size_of_body (body_with_word b k value) ≡ size_of_body b
      size_kept (Automatic head cells is_weak) = refl
      size_kept (Manual words) = length-slice_set words k value

      kind_kept : (b : Body) → Rattle.mps_model.specs.Graph.is_automatic_body
          (body_with_word b k value) ≡ Rattle.mps_model.specs.Graph.is_automatic_body b
      kind_kept (Automatic head cells is_weak) = refl
      kind_kept (Manual words) = refl

      body_right : (p : Pool) (b : Body) → is_right_body v p b ≡ true → is_right_body v p (body_with_word b k value) ≡ true
      body_right p (Automatic head cells is_weak) h = h
      body_right p (Manual words) h =
          subst (λ (n : ℕ). (not (is_automatic_kind p.kind) && allows_size p.kind n) ≡ true) (sym (length-slice_set words k value)) h

      object_right : (o : Object) (x : Option Pool) → option_map_or (λ p. is_right_body v p o.body) x false ≡ true
          → option_map_or (λ p. is_right_body v p (body_with_word o.body k value)) x false ≡ true
      object_right o None h = absurd (false≢true h)
      object_right o (Some p) h = body_right p o.body h

      of_object : (x : Option Object) → object_at v.graph id ≡ x
          → IsSoundGraph (with_graph v (record v.graph {
            objects = option_map_or (λ o. slice_set v.graph.objects id
                (record o { body = body_with_word o.body k value })) x v.graph.objects;
          }))
      of_object None e = held_written v s v.graph refl refl (inl refl) (inl refl) (inl refl) (inl refl) (inl refl)
      of_object (Some o) e =
          object_written v s id o (record o { body = body_with_word o.body k value }) e
          (record { pool = refl; size = size_kept o.body; kind = kind_kept o.body })
          (object_right o (pool_at v o.pool) (s.objects id o e))

  -- ---- words that hold objects

  find-passes : {X : Type 0} (p : X → Bool) (xs : List X) (x : X) → find p xs ≡ Some x → p x ≡ true
  find-passes p [] x h = absurd (none-some x h)
  find-passes p (y ∷ ys) x h =
      elim (p y) as (λ t. p y ≡ t → (if t then Some y else find p ys) ≡ Some x → p x ≡ true) [
        | true ↦ (λ t g. subst (λ n. p n ≡ true) (same_Some y x g) t)
        | false ↦ (λ t g. find-passes p ys x g)
      ] refl h

  pub block_lies : (word id : ℕ) → block_of_word v word ≡ Some id → lies_in v word id ≡ true
  block_lies word id e = find-passes (λ n. lies_in v word n) (live_ids v) id e

  in_words : (copying : Bool) (at words word : ℕ) → is_word_in copying at words word ≡ true
      → (if copying then nat_lt (word - at) (8 * words) else (word - at) == 0) ≡ true
  in_words true at words word h =
      let parts = and_parts (nat_le at word) (nat_lt word (at + 8 * words)) h in
      let low = leb-true at word parts.0 in
      let high = ltb-true word (at + 8 * words) parts.1 in
      lt-ltb (word - at) (8 * words) (omega (arith, low, high))
  in_words false at words word h =
      let same = eqb-true word at h in eq-eqb (word - at) 0 (omega (arith, same))

  pub hold_is_sound : (id word : ℕ) → lies_in v word id ≡ true → is_sound_word v (hold_of v id word) ≡ true
  hold_is_sound id word h =
      let parts = and_parts (auto v id) (is_live_and (λ at. is_word_in (is_copying_object v id) at (words_of v id) word) v id) h in
      and_from (auto v id)
      (if is_copying_object v id then nat_lt (word - address_or_null v id) (8 * words_of v id) else (word - address_or_null v id) ==
      0) parts.0 (of_address (entry_at v.addresses id) parts.1)
    where
      of_address : (x : Option ℕ) → option_map_or (λ at. is_word_in (is_copying_object v id) at (words_of v id) word) x false ≡ true
          → (if is_copying_object v id then nat_lt (word - option_map_or (λ at. at) x 0) (8 * words_of v id)
          else (word - option_map_or (λ at. at) x 0) == 0) ≡ true
      of_address None k = absurd (false≢true k)
      of_address (Some at) k = in_words (is_copying_object v id) at (words_of v id) word k

  -- an object is held by its address
  some_size : (o : Object) → is_right_object v o ≡ true → 0 < size_of o
  some_size o h = of_pool (pool_at v o.pool) h
    where
      of_cells : (likes cells : List Cell) (n : ℕ) → are_shaped (HeadCell ∷ likes) cells ≡ true → 0 < length cells
      of_cells likes [] n k = absurd (false≢true k)
      of_cells likes (c ∷ cs) n k = omega arith

      of_body : (p : Pool) (b : Body) → is_right_body v p b ≡ true → 0 < size_of_body b
      of_body p (Manual words) k =
          let parts = and_parts (not (is_automatic_kind p.kind)) (allows_size p.kind (length words)) k in
          let sized = and_parts (nat_le 1 (length words)) (nat_le (length words) 65536)
          (sized_where_allowed p.kind (length words) parts.1) in
          (let low = leb-true 1 (length words) sized.0 in omega (arith, low))
      of_body p (Automatic head cells is_weak) k =
          let outer = and_parts (is_automatic_kind p.kind && are_right_cells v p head cells) (not is_weak || is_weak_kind p.kind) k in
          let inner = and_parts (is_automatic_kind p.kind) (are_right_cells v p head cells) outer.0 in
          let parts = and_parts (takes_head v p head && are_shaped (new_cells (v.formats p.format) head) cells)
          (list_all (auto v) (targets_of_cells cells)) inner.1 in
          let first = and_parts (takes_head v p head) (are_shaped (new_cells (v.formats p.format) head) cells) parts.0 in
          of_cells (Rattle.mps_model.specs.Graph.new_cells_from (v.formats p.format) head 1
          ((v.formats p.format).size head - 1)) cells 0 first.1

      of_pool : (x : Option Pool) → option_map_or (λ p. is_right_body v p o.body) x false ≡ true → 0 < size_of o
      of_pool None k = absurd (false≢true k)
      of_pool (Some p) k = of_body p o.body k

  pub pin_is_sound : (id : ℕ) (o : Object) → object_at v.graph id ≡ Some o → auto v id ≡ true → is_sound_word v (Hold id 0) ≡ true
  pin_is_sound id o e h =
      and_from (auto v id) (if is_copying_object v id then nat_lt 0 (8 * words_of v id) else 0 == 0) h
      (of_kind (is_copying_object v id) (subst (λ (n : ℕ). 0 < n) (sym (ap (λ x. option_map_or size_of x 0) e))
      (some_size o (s.objects id o e))))
    where
      of_kind : (b : Bool) → 0 < words_of v id → (if b then nat_lt 0 (8 * words_of v id) else 0 == 0) ≡ true
      of_kind true k = lt-ltb 0 (8 * words_of v id) (omega (arith, k))
      of_kind false k = refl

-- objects whose cells are changed are alike
pub cells_alike : (v : World) (id : ℕ) (change : List Cell → List Cell) → ((cells : List Cell) → length (change cells) ≡ length cells)
    → (j : ℕ) (x : Object)
    → object_at v.graph j ≡ Some x → (y : Object) × (object_at (graph_with_cells v.graph id change) j ≡ Some y) × IsAlike x y
cells_alike v id change same j x e = of_object (object_at v.graph id) refl
  where
    size_kept : (b : Body) → size_of_body (body_with_cells b change) ≡ size_of_body b
    size_kept (Automatic head cells is_weak) = same cells
    size_kept (Manual words) = refl

    kind_kept : (b : Body) → Rattle.mps_model.specs.Graph.is_automatic_body
        (body_with_cells b change) ≡ Rattle.mps_model.specs.Graph.is_automatic_body b
    kind_kept (Automatic head cells is_weak) = refl
    kind_kept (Manual words) = refl

    of_object : (o : Option Object) → object_at v.graph id ≡ o
        → (y : Object) × (slice_get (option_map_or (λ z. slice_set v.graph.objects id (object_with_cells z change)) o v.graph.objects) j
        ≡ Some y) × IsAlike x y
    of_object None f = (x, e, record { pool = refl; size = refl; kind = refl })
    of_object (Some o) f =
        elim (cases_eq id j) [
          | inl here ↦
              let is : o ≡ x = same_Some o x (sym f ∙ ap (object_at v.graph) here ∙ e) in (
                object_with_cells o change,
                ap (slice_get (slice_set v.graph.objects id (object_with_cells o change))) (sym here)
                    ∙ slice_get-set_same v.graph.objects id (object_with_cells o change)
                    (Rattle.std.proofs.lemmas.Option.slice_get_within v.graph.objects id o f),
                subst (λ (z : Object). IsAlike z (object_with_cells o change)) is
                    (record { pool = refl; size = size_kept o.body; kind = kind_kept o.body }),
              )
          | inr other ↦ (
            x,
            slice_get-set_other v.graph.objects id j (object_with_cells o change) other ∙ e,
            record { pool = refl; size = refl; kind = refl },
          )
        ]
