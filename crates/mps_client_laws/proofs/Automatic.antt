-- In a sound graph what the client holds is automatic, and so is whatever an object refers to.
use Rattle.std.proofs.Common.{◌≡◌, inl, inr, ℕ, Bool, true, false, refl, sym, ◌∙◌, ap, subst, List, [], ◌++◌, map, Option, Some, None}
use Rattle.std.proofs.lemmas.Bool.{true≢false, and_parts}
use Rattle.std.proofs.lemmas.Option.{none-some, same_Some, slice_get-map}
use Rattle.std.specs.Prelude.{not, ◌||◌, ◌&&◌, ◌*◌, ◌==◌, nat_lt, if◌then◌else◌, option_and_then, option_map, slice_get}
use Rattle.std.specs.Option.{option_map_or}
use Rattle.std.specs.List.{list_all}
use Rattle.mps_model.specs.Graph.{Object, Body, Automatic, Manual, AreaWord, PlainWord, Hold, Point, Reservation, contains, entry_at, held_by_word, holds_of, ids_in_slots, ids_in_holds, ids_in_reservations, ids_of_client, object_at, targets, targets_of, targets_of_body, targets_of_cells, targets_of_point, targets_of_reservation}
use Rattle.mps_model.specs.World.{World, Pool, is_automatic_kind, is_copying_object, is_weak_kind, pool_at, words_of}
use Rattle.mps_model.specs.Allocating.{takes_head}
use Rattle.mps_model.specs.WellFormed.{are_right_cells, are_shaped, is_right_body}
use Rattle.mps_laws.proofs.Sound.SoundGraph.{IsSoundGraph, all-contains, auto, each-at, is_sound_word}
use Rattle.mps_client_laws.proofs.Contained.{either_or, in_one_entry, in_one_list}

right_cells_targets : (w : World) (p : Pool) (head : ℕ) (cells : List Rattle.mps_model.specs.Graph.Cell) (id : ℕ)
    → are_right_cells w p head cells ≡ true → contains (targets_of_cells cells) id ≡ true → auto w id ≡ true
right_cells_targets w p head cells id right h =
    all-contains (auto w) (targets_of_cells cells) id
    (and_parts (takes_head w p head && are_shaped (Rattle.mps_model.specs.Graph.new_cells (w.formats p.format) head) cells)
    (list_all (auto w) (targets_of_cells cells)) right).1 h

module _ (w : World) (s : IsSoundGraph w) where
  pub target_is_automatic : (holder id : ℕ) → contains (targets w.graph holder) id ≡ true → auto w id ≡ true
  target_is_automatic holder id h = of_object (object_at w.graph holder) refl h
    where
      of_body : (p : Pool) (b : Body) → is_right_body w p b ≡ true → contains (targets_of_body b) id ≡ true → auto w id ≡ true
      of_body p (Automatic head cells is_weak) right h =
          right_cells_targets w p head cells id
          (and_parts (is_automatic_kind p.kind) (are_right_cells w p head cells)
          (and_parts (is_automatic_kind p.kind && are_right_cells w p head cells) (not is_weak || is_weak_kind p.kind) right).0).1 h
      of_body p (Manual words) right h = absurd (true≢false (sym h))

      of_pool : (o : Object) (p : Option Pool) → option_map_or (λ q. is_right_body w q o.body) p false ≡ true
          → contains (targets_of o) id ≡ true → auto w id ≡ true
      of_pool o None right h = absurd (true≢false (sym right))
      of_pool o (Some p) right h = of_body p o.body right h

      of_object : (o : Option Object) → object_at w.graph holder ≡ o → contains (option_map_or targets_of o []) id ≡ true
          → auto w id ≡ true
      of_object None there h = absurd (true≢false (sym h))
      of_object (Some o) there h = of_pool o (pool_at w o.pool) (s.objects holder o there) h

  held_word_is_automatic : (words : List AreaWord) (id : ℕ) → list_all (is_sound_word w) words ≡ true
      → contains (holds_of (Some words)) id ≡ true → auto w id ≡ true
  held_word_is_automatic words id sound h =
      let found = in_one_entry (map held_by_word words) id h in
      of_word found.0 (slice_get words found.0) refl (sym (slice_get-map held_by_word words found.0) ∙ found.1)
    where
      of_word : (k : ℕ) (o : Option AreaWord) → slice_get words k ≡ o → option_map held_by_word o ≡ Some (Some id) → auto w id ≡ true
      of_word k None there e = absurd (none-some (Some id) e)
      of_word k (Some (PlainWord number)) there e = absurd (none-some id (same_Some None (Some id) e))
      of_word k (Some (Hold other offset)) there e =
          subst (λ (n : ℕ). auto w n ≡ true) (same_Some other id (same_Some (Some other) (Some id) e))
          (and_parts (auto w other) (if is_copying_object w other then nat_lt offset (8 * words_of w other) else offset == 0)
          (each-at (is_sound_word w) words k (Hold other offset) sound there)).0

  hold_is_automatic : (id : ℕ) → contains (ids_in_holds w.graph) id ≡ true → auto w id ≡ true
  hold_is_automatic id h =
      let found = in_one_list holds_of w.graph.areas id h in
      of_area found.0 found.1 found.2 found.3
    where
      of_area : (n : ℕ) (area : Option (List AreaWord)) → slice_get w.graph.areas n ≡ Some area → contains (holds_of area) id ≡ true
          → auto w id ≡ true
      of_area n None there h = absurd (true≢false (sym h))
      of_area n (Some words) there h =
          held_word_is_automatic words id (s.words n words (ap (λ o. option_and_then (λ entry. entry) o) there)) h

  reserved_is_automatic : (id : ℕ) → contains (ids_in_reservations w.graph) id ≡ true → auto w id ≡ true
  reserved_is_automatic id h =
      let found = in_one_list targets_of_point w.graph.points id h in
      of_entry found.0 found.1 found.2 found.3
    where
      of_cells : (r : Reservation) (p : Option Pool) → option_map_or (λ of. are_right_cells w of r.head r.cells) p false ≡ true
          → (b : Bool) → contains (if b then [] else targets_of_cells r.cells) id ≡ true → auto w id ≡ true
      of_cells r None right b h = absurd (true≢false (sym right))
      of_cells r (Some p) right true h = absurd (true≢false (sym h))
      of_cells r (Some p) right false h = right_cells_targets w p r.head r.cells id right h

      of_reservation : (n : ℕ) (p : Point) (o : Option Reservation) → entry_at w.graph.points n ≡ Some p → p.reservation ≡ o
          → contains (option_map_or targets_of_reservation o []) id ≡ true → auto w id ≡ true
      of_reservation n p None there e h = absurd (true≢false (sym h))
      of_reservation n p (Some r) there e h = of_cells r (pool_at w p.pool) (s.reservations n p r there e) r.is_doomed h

      of_entry : (n : ℕ) (p : Option Point) → slice_get w.graph.points n ≡ Some p → contains (targets_of_point p) id ≡ true
          → auto w id ≡ true
      of_entry n None there h = absurd (true≢false (sym h))
      of_entry n (Some p) there h =
          of_reservation n p p.reservation (ap (λ o. option_and_then (λ entry. entry) o) there) refl h

  pub client_is_automatic : (id : ℕ) → contains (ids_of_client w.graph) id ≡ true → auto w id ≡ true
  client_is_automatic id h =
      let slots = ids_in_slots w.graph in
      let holds = ids_in_holds w.graph in
      elim (either_or ((slots ++ holds) ++ w.graph.messages) (ids_in_reservations w.graph) id h) [
        | inr reserved ↦ reserved_is_automatic id reserved
        | inl rest ↦ elim (either_or (slots ++ holds) w.graph.messages id rest) [
          | inr message ↦ all-contains (auto w) w.graph.messages id s.messages message
          | inl roots ↦ elim (either_or slots holds id roots) [
            | inl slot ↦ all-contains (auto w) slots id s.slots slot
            | inr hold ↦ hold_is_automatic id hold
          ]
        ]
      ]
