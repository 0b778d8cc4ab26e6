-- What a client holds, where automatic objects have the addresses that they had: slots, words of areas, registrations and messages are
-- as they were. And none of it is a manual block.
use Rattle.std.proofs.Common.{◌≡◌, ◌∙◌, ℕ, zero, suc, ◌+◌, ◌*◌, Bool, true, false, refl, sym, ap, subst, List, [], ◌∷◌, map, Option, Some, None}
use Rattle.std.proofs.lemmas.Bool.{false≢true, and_from, and_parts, ne_eqb}
use Rattle.std.proofs.lemmas.Option.{none-some, same_Some, slice_get-map}
use Rattle.std.specs.Prelude.{◌==◌, ◌&&◌, not, if◌then◌else◌, nat_lt, slice_get, option_and_then, option_map, IsTrue}
use Rattle.std.specs.List.{flat_map, list_all}
use Rattle.std.specs.Option.{option_map_or}
use Rattle.mps_base.specs.Address.{Address, Id}
use Rattle.mps_laws.proofs.Sound.HeldIds.{AreHeld, all-append, all-weaker, weaker_test}
use Rattle.mps_laws.proofs.Lookups.{entry_is_there}
use Rattle.mps_trace_laws.specs.Image.Memory.{live_reservation}
use Rattle.mps_laws.proofs.Sound.SoundActs.{object_cells}
use Rattle.mps_laws.proofs.Sound.SoundGraph.{All, IsSoundGraph, all-at, auto, entry-passes, is_sound_word}
use Rattle.mps_model.specs.Allocating.{takes_head}
use Rattle.mps_model.specs.Checked.{cells_of_body}
use Rattle.mps_model.specs.Graph.{AreaWord, PlainWord, Hold, Body, Automatic, Manual, ReferenceCell, Object, Point, Reservation, entries, entry_at, held_by_word, holds_of, is_automatic, is_live_reservation, object_at, slots_of, target_of_cell, targets, targets_of, targets_of_body, targets_of_cells, targets_of_point, targets_of_reservation}
use Rattle.mps_model.specs.World.{World, Pool, is_copying_object, object_is, pool_at, words_of}
use Rattle.mps_model.specs.WellFormed.{are_right_cells, are_shaped}
use Rattle.mps_model.specs.Graph.{new_cells}
use Rattle.mps_refinement.specs.Numbering.{AreNumbered}
use Rattle.mps_refinement.proofs.Lookups.ManualBlocks.{passes_there}
use Rattle.mps_refinement.specs.StandsFor.{AreSlots, AreWords, address_of_id, address_of_target, stored_word}
use Rattle.mps_root.specs.declared.roots.Stored.{Stored}

module _ (w : World) (sound : IsSoundGraph w) where
  -- ---- addresses of automatic objects

  module _ (after : List (Option Address)) (same : (id : Id) → auto w id ≡ true → entry_at after id ≡ entry_at w.addresses id) where
    target_still : (id : Id) → auto w id ≡ true → address_of_target w.addresses (Some id) ≡ address_of_target after (Some id)
    target_still id is = ap (λ o. option_map_or (λ at. at) o 0) (sym (same id is))

    slots_map : (slots : List (Option ℕ)) → All (auto w) (entries slots)
        → map (address_of_target w.addresses) slots ≡ map (address_of_target after) slots
    slots_map [] all = refl
    slots_map (None ∷ xs) all = ap (λ ys. 0 ∷ ys) (slots_map xs all)
    slots_map (Some id ∷ xs) all =
        let parts = and_parts (auto w id) (list_all (auto w) (entries xs)) all in
        ap (λ y. y ∷ map (address_of_target w.addresses) xs) (target_still id parts.0)
        ∙ ap (λ ys. address_of_target after (Some id) ∷ ys) (slots_map xs parts.1)

    -- the same slots
    pub slots_still : {number : ℕ → ℕ} {kept : ℕ → Option (List Address)} → AreNumbered (AreSlots w.addresses) number kept w.graph.tables
        → AreNumbered (AreSlots after) number kept w.graph.tables
    slots_still {number} {kept} are = record {
      there = λ key a e.
          let b = are.there key a e in (
            b.0,
            b.1,
            b.2 ∙ slots_map b.0 (all-at (auto w) slots_of w.graph.tables (number key) (Some b.0) sound.slots
                (entry_is_there w.graph.tables (number key) b.0 b.1)),
          );
      apart = are.apart;
      complete = are.complete;
    }

    word_still : (word : AreaWord) → is_sound_word w word ≡ true → stored_word w.addresses word ≡ stored_word after word
    word_still (PlainWord number) is = refl
    word_still (Hold id offset) is =
        let parts = and_parts (auto w id) (if is_copying_object w id then nat_lt offset (8 * words_of w id) else offset == 0) is in
        ap (λ (o : Option Address). record { word = option_map_or (λ at. at + offset) o 0; holds = true }) (sym (same id parts.0))

    words_map : (words : List AreaWord) → list_all (is_sound_word w) words ≡ true
        → map (stored_word w.addresses) words ≡ map (stored_word after) words
    words_map [] all = refl
    words_map (x ∷ xs) all =
        let parts = and_parts (is_sound_word w x) (list_all (is_sound_word w) xs) all in
        ap (λ y. y ∷ map (stored_word w.addresses) xs) (word_still x parts.0)
        ∙ ap (λ ys. stored_word after x ∷ ys) (words_map xs parts.1)

    -- the same words of areas
    pub words_still : {number : ℕ → ℕ} {kept : ℕ → Option (List Stored)} → AreNumbered (AreWords w.addresses) number kept w.graph.areas
        → AreNumbered (AreWords after) number kept w.graph.areas
    words_still {number} {kept} are = record {
      there = λ key a e.
          let b = are.there key a e in (b.0, b.1, b.2 ∙ words_map b.0 (sound.words (number key) b.0 b.1));
      apart = are.apart;
      complete = are.complete;
    }

    ids_map : (ids : List Id) → All (auto w) ids → map (address_of_id w.addresses) ids ≡ map (address_of_id after) ids
    ids_map [] all = refl
    ids_map (id ∷ ids) all =
        let parts = and_parts (auto w id) (list_all (auto w) ids) all in
        ap (λ y. y ∷ map (address_of_id w.addresses) ids) (target_still id parts.0)
        ∙ ap (λ ys. address_of_id after id ∷ ys) (ids_map ids parts.1)

    pub messages_still : map (address_of_id w.addresses) w.graph.messages ≡ map (address_of_id after) w.graph.messages
    messages_still = ids_map w.graph.messages sound.messages

  -- ---- what is held is automatic

  holds_automatic : (words : List AreaWord) → list_all (is_sound_word w) words ≡ true → All (auto w) (entries (map held_by_word words))
  holds_automatic [] all = refl
  holds_automatic (PlainWord number ∷ xs) all = holds_automatic xs all
  holds_automatic (Hold id offset ∷ xs) all =
      let parts = and_parts (is_sound_word w (Hold id offset)) (list_all (is_sound_word w) xs) all in
      let own = and_parts (auto w id) (if is_copying_object w id then nat_lt offset (8 * words_of w id) else offset == 0) parts.0 in
      and_from (auto w id) (list_all (auto w) (entries (map held_by_word xs))) own.0 (holds_automatic xs parts.1)

  -- a fact of each entry of a list is one of all
  each_entry : {X : Type 0} (ids : Option X → List ℕ) (xs : List (Option X)) → (ids None ≡ [])
      → ((n : ℕ) (x : X) → entry_at xs n ≡ Some x → All (auto w) (ids (Some x))) → All (auto w) (flat_map ids xs)
  each_entry ids [] none each = refl
  each_entry ids (None ∷ xs) none each =
      all-append (auto w) (ids None) (flat_map ids xs) (subst (All (auto w)) (sym none) refl)
      (each_entry ids xs none (λ n x e. each (suc n) x e))
  each_entry ids (Some x ∷ xs) none each =
      all-append (auto w) (ids (Some x)) (flat_map ids xs) (each zero x refl) (each_entry ids xs none (λ n y e. each (suc n) y e))

  reservation_automatic : (pool : ℕ) (r : Reservation) (of : Option Pool) → pool_at w pool ≡ of
      → option_map_or (λ p. are_right_cells w p r.head r.cells) of false ≡ true → All (auto w) (targets_of_reservation r)
  reservation_automatic pool r None e right = absurd (false≢true right)
  reservation_automatic pool r (Some p) e right =
      let targets = list_all (object_is is_automatic w) (targets_of_cells r.cells) in
      let both = and_parts (takes_head w p r.head && are_shaped (new_cells
      (w.formats p.format) r.head) r.cells) targets right in
      elim r.is_doomed as (λ b. All (auto w) (if b then [] else targets_of_cells r.cells)) [
        | true ↦ refl
        | false ↦ both.1
      ]

  point_automatic : (n : ℕ) (p : Point) → entry_at w.graph.points n ≡ Some p → All (auto w) (targets_of_point (Some p))
  point_automatic n p e = of_reservation p.reservation refl
    where
      of_reservation : (o : Option Reservation) → p.reservation ≡ o → All (auto w) (option_map_or targets_of_reservation o [])
      of_reservation None f = refl
      of_reservation (Some r) f = reservation_automatic p.pool r (pool_at w p.pool) refl (sound.reservations n p r e f)

  pub held_automatic : AreHeld (auto w) w.graph
  held_automatic = record {
    slots = sound.slots;
    holds = each_entry holds_of w.graph.areas refl (λ n words e. holds_automatic words (sound.words n words e));
    messages = sound.messages;
    reservations = each_entry targets_of_point w.graph.points refl point_automatic;
  }

  -- what an object refers to is automatic
  pub targets_automatic : (id : Id) → All (auto w) (targets w.graph id)
  targets_automatic id = of_object (object_at w.graph id) refl
    where
      of_body : (b : Body) → All (auto w) (targets_of_cells (cells_of_body b)) → All (auto w) (targets_of_body b)
      of_body (Automatic head cells is_weak) all = all
      of_body (Manual words) all = refl

      of_object : (o : Option Object) → object_at w.graph id ≡ o → All (auto w) (option_map_or targets_of o [])
      of_object None e = refl
      of_object (Some o) e = of_body o.body (object_cells w sound id o e)

  -- a cell of a live reservation that refers to something refers to an automatic object
  pub reservation_targets : (point i : ℕ) (r : Reservation) (u tag : ℕ) → live_reservation (entry_at w.graph.points point) ≡ Some r
      → slice_get r.cells i ≡ Some (ReferenceCell (Some u) tag) → (q : Object) × (slice_get w.graph.objects u ≡ Some q) × IsTrue
      (is_automatic q)
  reservation_targets point i r u tag live cell = of_point (entry_at w.graph.points point) refl live
    where
      live_is : (r' : Reservation) (b : Bool) → r'.is_doomed ≡ b → (if (if b then false else true) then Some r' else None) ≡ Some r
          → (r' ≡ r) × (r'.is_doomed ≡ false)
      live_is r' true d e = absurd (none-some r e)
      live_is r' false d e = (same_Some r' r e, d)

      of_reservation : (p : Point) (o : Option Reservation) → entry_at w.graph.points point ≡ Some p → p.reservation ≡ o
          → option_and_then (λ (x : Reservation). if is_live_reservation x then Some x else None) o ≡ Some r
          → All (auto w) (targets_of_cells r.cells)
      of_reservation p None e f l = absurd (none-some r l)
      of_reservation p (Some x) e f l =
          let is = live_is x x.is_doomed refl l in
          subst (λ (y : Reservation). All (auto w) (targets_of_cells y.cells)) is.0
          (subst (λ b. All (auto w) (if b then [] else targets_of_cells x.cells)) is.1
          (reservation_automatic p.pool x (pool_at w p.pool) refl (sound.reservations point p x e f)))

      of_point : (o : Option Point) → entry_at w.graph.points point ≡ o → live_reservation o ≡ Some r
          → (q : Object) × (slice_get w.graph.objects u ≡ Some q) × IsTrue (is_automatic q)
      of_point None e l = absurd (none-some r l)
      of_point (Some p) e l =
          let all = of_reservation p p.reservation e refl l in
          passes_there is_automatic (slice_get w.graph.objects u)
          (entry-passes (auto w) (map target_of_cell r.cells) i (Some u) all
          (slice_get-map target_of_cell r.cells i ∙ ap (option_map target_of_cell) cell))

  -- so it isn't a manual block
  module _ (id : Id) (manual : auto w id ≡ false) where
    pub other_than : (j : Id) → auto w j ≡ true → not (id == j) ≡ true
    other_than j is = ap not (ne_eqb id j (λ same. false≢true (sym manual ∙ ap (auto w) same ∙ is)))

    pub held_others : AreHeld (λ j. not (id == j)) w.graph
    held_others = weaker_test (auto w) w.graph held_automatic (λ j. not (id == j)) other_than

    pub target_others : (j : Id) → All (λ k. not (id == k)) (targets w.graph j)
    target_others j = all-weaker (auto w) (λ k. not (id == k)) other_than (targets w.graph j) (targets_automatic j)
