-- What the parts of calls leave of a sound graph: reservations, roots, points, areas, messages and registrations.
use Rattle.std.proofs.Common.{◌≡◌, ◌∙◌, ℕ, ◌+◌, ◌-◌, Bool, true, false, refl, sym, ap, List, ◌∷◌, length, Option, Some, None, Ok, subst, inl, inr}
use Rattle.std.proofs.lemmas.Bool.{false≢true, and_parts, and_from}
use Rattle.std.proofs.lemmas.Option.{none-some, same_Some}
use Rattle.std.specs.Prelude.{◌&&◌, if◌then◌else◌, replicate}
use Rattle.std.specs.Option.{option_map_or}
use Rattle.std.specs.List.{list_all}
use Rattle.mps_base.specs.declared.names.Name.{Name}
use Rattle.mps_base.specs.declared.names.Rank.{Rank}
use Rattle.mps_base.specs.declared.names.Slot.{Slot}
use Rattle.mps_model.specs.Allocating.{takes_head}
use Rattle.mps_model.specs.Layout.{Layout}
use Rattle.mps_model.specs.Graph.{Object, Cell, NumberCell, ReferenceCell, Point, Reservation, AreaWord, PlainWord, Hold, entries, entry_at, object_at, slots_of, ids_in_caches, ids_in_places, ids_in_slots, targets_of_cells, with_last, new_cells, new_cells_from}
use Rattle.mps_model.specs.World.{World, Pool, is_live, pool_at}
use Rattle.mps_model.specs.WellFormed.{are_shaped, are_right_cells}
use Rattle.mps_model.specs.Checked.{Found, Numbered, slot_in, object_in, with_graph}
use Rattle.mps_model.specs.Making.{graph_with_table, graph_with_area, graph_with_blocks, with_point, without_point}
use Rattle.mps_model.specs.Accessing.{held_in}
use Rattle.mps_laws.proofs.Lookups.{entry_at-last, entry_at-at_last, entry_at-after_last, entry_within_set}
use Rattle.mps_laws.proofs.Sound.SoundGraph.{All, PassesOrNull, AreRight, IsSoundGraph, IsRightPoint, auto, manual, is_sound_word, is_sound_reservation, all-append, all-last, manual_parts, entry-passes, entries-none, each-replicated, edited, grows_alike}
use Rattle.mps_laws.proofs.Sound.SoundActs.{table_passes, slot_passes, held_written}
use Rattle.mps_laws.proofs.FoundBy.{slot_found, object_found}

-- ---- reservations

pub shaped_self : (f : Layout) (head k count : ℕ) → are_shaped (new_cells_from f head k count) (new_cells_from f head k count) ≡ true
shaped_self f head k Rattle.std.proofs.Common.zero = refl
shaped_self f head k (Rattle.std.proofs.Common.suc count) = of_cell (f.is_reference head k) (shaped_self f head (k + 1) count)
  where
    of_cell : (b : Bool) → are_shaped (new_cells_from f head (k + 1) count) (new_cells_from f head (k + 1) count) ≡ true
        → are_shaped ((if b then ReferenceCell None 0 else NumberCell 0) ∷ new_cells_from f head (k + 1) count)
        ((if b then ReferenceCell None 0 else NumberCell 0) ∷ new_cells_from f head (k + 1) count) ≡ true
    of_cell true rest = rest
    of_cell false rest = rest

pub no_targets : (test : ℕ → Bool) (f : Layout) (head k count : ℕ) → All test (targets_of_cells (new_cells_from f head k count))
no_targets test f head k Rattle.std.proofs.Common.zero = refl
no_targets test f head k (Rattle.std.proofs.Common.suc count) = of_cell (f.is_reference head k) (no_targets test f head (k + 1) count)
  where
    of_cell : (b : Bool) → All test (targets_of_cells (new_cells_from f head (k + 1) count))
        → All test (targets_of_cells ((if b then ReferenceCell None 0 else NumberCell 0) ∷ new_cells_from f head (k + 1) count))
    of_cell true rest = rest
    of_cell false rest = rest

pub new_is_sound : (v : World) (p : Pool) (head : ℕ) → takes_head v p head ≡ true
    → are_right_cells v p head (new_cells (v.formats p.format) head) ≡ true
new_is_sound v p head valid =
    let f = v.formats p.format in
    and_from (takes_head v p head && are_shaped (new_cells f head) (new_cells f head))
    (list_all (auto v) (targets_of_cells (new_cells f head)))
    (and_from (takes_head v p head) (are_shaped (new_cells f head) (new_cells f head)) valid (shaped_self f head 1 (f.size head - 1)))
    (no_targets (auto v) f head 1 (f.size head - 1))

module _ (v : World) (s : IsSoundGraph v) where
  -- cells of a reservation are written
  pub cells_sound : (pool : ℕ) (r : Reservation) (cells : List Cell)
      → ((likes : List Cell) → AreRight (auto v) likes r.cells → AreRight (auto v) likes cells) → is_sound_reservation v pool r ≡ true
      → is_sound_reservation v pool (record r { cells = cells }) ≡ true
  cells_sound pool r cells each h = of_pool (pool_at v pool) h
    where
      of_pool : (x : Option Pool) → option_map_or (λ of. are_right_cells v of r.head r.cells) x false ≡ true
          → option_map_or (λ of. are_right_cells v of r.head cells) x false ≡ true
      of_pool None k = absurd (false≢true k)
      of_pool (Some p) k =
          let f = v.formats p.format in
          let parts = and_parts (takes_head v p r.head && are_shaped (new_cells f r.head) r.cells)
          (list_all (auto v) (targets_of_cells r.cells)) k in
          let first = and_parts (takes_head v p r.head) (are_shaped (new_cells f r.head) r.cells) parts.0 in
          let now = each (new_cells f r.head) (first.1, parts.1) in
          and_from (takes_head v p r.head && are_shaped (new_cells f r.head) cells) (list_all (auto v) (targets_of_cells cells))
          (and_from (takes_head v p r.head) (are_shaped (new_cells f r.head) cells) first.0 now.0) now.1

  -- ---- roots

  pub new_table : (name : Name) (n : ℕ) → IsSoundGraph (with_graph v (graph_with_table v.graph name n))
  new_table name n =
      held_written v s (graph_with_table v.graph name n) refl refl
      (inr (all-last (auto v) slots_of v.graph.tables (Some (replicate n None)) s.slots (entries-none (auto v) n))) (inl refl) (inl refl)
      (inl refl) (inl refl)

  pub new_blocks : (name : Name) (n : ℕ) → IsSoundGraph (with_graph v (graph_with_blocks v.graph name n))
  new_blocks name n =
      held_written v s (graph_with_blocks v.graph name n) refl refl (inl refl) (inl refl)
      (inr (all-append (manual v) (ids_in_places (graph_with_blocks v.graph name n)) (ids_in_caches v.graph)
      (all-last (manual v) entries v.graph.blocks (replicate n None) (manual_parts v s).0 (entries-none (manual v) n))
      (manual_parts v s).1)) (inl refl) (inl refl)

  pub new_area : (name : Name) (n : ℕ) → IsSoundGraph (with_graph v (graph_with_area v.graph name n))
  new_area name n =
      held_written v s (graph_with_area v.graph name n) refl refl (inl refl)
      (inr (λ k area h.
      elim (Rattle.std.proofs.lemmas.Bool.cases_order k (length v.graph.areas)) [
        | inl e ↦
            subst (λ (x : List AreaWord). list_all (is_sound_word v) x ≡ true)
            (same_Some (replicate n (PlainWord 0)) area
            (sym (ap (entry_at (with_last v.graph.areas (Some (replicate n (PlainWord 0))))) e
            ∙ entry_at-at_last v.graph.areas (Some (replicate n (PlainWord 0)))) ∙ h))
            (each-replicated (is_sound_word v) n (PlainWord 0) refl)
        | inr (inl low) ↦ s.words k area (sym (entry_at-last v.graph.areas (Some (replicate n (PlainWord 0))) k low) ∙ h)
        | inr (inr high) ↦ absurd (none-some area (sym (entry_at-after_last v.graph.areas (Some (replicate n (PlainWord 0))) k high) ∙ h))
      ]))
      (inl refl) (inl refl) (inl refl)

  -- ---- points

  pub new_point : (name : Name) (pool : ℕ) (at_rank : Rank) → IsRightPoint v.pools
      (record { pool = pool; rank = at_rank; reservation = None }) → IsSoundGraph (with_point v name pool at_rank)
  new_point name pool at_rank right =
      let w = with_point v name pool at_rank in
      let new : Point = record { pool = pool; rank = at_rank; reservation = None } in
      edited v w (grows_alike v w refl (λ n q e. e) refl) s (record {
        live = λ id h. h;
        objects = λ id o h. inl h;
        reservations = λ n p r h k.
            elim (Rattle.std.proofs.lemmas.Bool.cases_order n (length v.graph.points)) [
              | inl e ↦
                  let same : new ≡ p =
                  same_Some new p (sym (ap (entry_at (with_last v.graph.points (Some new))) e
                  ∙ entry_at-at_last v.graph.points (Some new)) ∙ h) in
                  absurd (none-some r (ap (λ (x : Point). x.reservation) same ∙ k))
              | inr (inl low) ↦ inl (s.reservations n p r (sym (entry_at-last v.graph.points (Some new) n low) ∙ h) k)
              | inr (inr high) ↦ absurd (none-some p (sym (entry_at-after_last v.graph.points (Some new) n high) ∙ h))
            ];
        points = λ n p h.
            elim (Rattle.std.proofs.lemmas.Bool.cases_order n (length v.graph.points)) [
              | inl e ↦
                  inl (subst (IsRightPoint v.pools)
                  (same_Some new p (sym (ap (entry_at (with_last v.graph.points (Some new))) e
                  ∙ entry_at-at_last v.graph.points (Some new)) ∙ h)) right)
              | inr (inl low) ↦ inl (s.points n p (sym (entry_at-last v.graph.points (Some new) n low) ∙ h))
              | inr (inr high) ↦ absurd (none-some p (sym (entry_at-after_last v.graph.points (Some new) n high) ∙ h))
            ];
        slots = inl refl;
        words = inl refl;
        blocks = inl refl;
        registered = inl refl;
        messages = inl refl;
      })

  pub no_point : (name : Name) (number : ℕ) → IsSoundGraph (without_point v name number)
  no_point name number =
      let w = without_point v name number in
      edited v w (grows_alike v w refl (λ n q e. e) refl) s (record {
        live = λ id h. h;
        objects = λ id o h. inl h;
        reservations = λ n p r h k.
            elim (entry_within_set v.graph.points number n p None h) [
              | inl here ↦ absurd (none-some p here.1)
              | inr other ↦ inl (s.reservations n p r other.1 k)
            ];
        points = λ n p h.
            elim (entry_within_set v.graph.points number n p None h) [
              | inl here ↦ absurd (none-some p here.1)
              | inr other ↦ inl (s.points n p other.1)
            ];
        slots = inl refl;
        words = inl refl;
        blocks = inl refl;
        registered = inl refl;
        messages = inl refl;
      })

  -- ---- areas, messages and registrations

  pub object_of_slot : (slot : Slot) (from : Found (Option ℕ)) (object : Numbered Object) → slot_in v slot ≡ Ok from
      → object_in v from.value ≡ Ok object
      → (auto v object.number ≡ true) × (object_at v.graph object.number ≡ Some object.value)
  object_of_slot slot from object e f =
      let o = object_found v from.value object f in
      (subst (PassesOrNull (auto v)) o.0 (slot_passes v s slot from e), o.1)

  pub id_of_slot : (slot : Slot) (from : Found (Option ℕ)) (id : ℕ) → All (is_live v) (ids_in_slots v.graph) → slot_in v slot ≡ Ok from
      → from.value ≡ Some id → is_live v id ≡ true
  id_of_slot slot from id live e f =
      let t = slot_found v slot from e in
      subst (PassesOrNull (is_live v)) f
      (entry-passes (is_live v) from.list from.index from.value
      (table_passes (is_live v) v.graph.tables from.number from.list live t.0) t.1)

  pub taken : (word : AreaWord) (id : ℕ) → held_in word ≡ Ok id → is_sound_word v word ≡ true → auto v id ≡ true
  taken (PlainWord n) id e h = absurd (cc)
  taken (Hold other offset) id e h =
      let same : other ≡ id = cc in
      subst (λ (n : ℕ). auto v n ≡ true) same (and_parts (auto v other) _ h).0
