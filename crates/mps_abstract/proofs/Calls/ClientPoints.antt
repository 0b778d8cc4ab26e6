-- The calls on allocation points: made and dropped, reservations made, written and ended.
use Rattle.std.proofs.Common.{◌≡◌, ◌∙◌, ◌⊎◌, ℕ, Bool, true, false, refl, sym, ap, List, [], ◌∷◌, length, Option, Some, None, inl, inr}
use Rattle.std.proofs.lemmas.Bool.{false≢true, true≢false}
use Rattle.std.proofs.lemmas.Option.{same_Some}
use Rattle.std.specs.Prelude.{slice_get, slice_set, is_some, if◌then◌else◌}
use Rattle.std.specs.List.{flat_map, list_any}
use Rattle.std.specs.Option.{option_map_or}
use Rattle.mps_base.specs.Address.{Id, Address}
use Rattle.mps_base.specs.Run.{Run}
use Rattle.mps_base.specs.declared.names.Name.{Name}
use Rattle.mps_base.specs.declared.names.Rank.{Rank}
use Rattle.mps_model.specs.Graph.{Point, Reservation, Cell, PointThing, NamedThing, contains, entry_at, with_last, targets_of_cells, targets_of_point, targets_of_reservation, without_name, ids_of_client, ids_in_reservations, ids_in_slots, ids_in_holds}
use Rattle.mps_model.specs.World.{World, PointMemory, begins_in, extent, extents_of, extent_of_reservation, reserved_extents, empty_run}
use Rattle.mps_model.specs.Checked.{Numbered, with_graph}
use Rattle.mps_model.specs.Making.{with_point, without_point}
use Rattle.mps_model.specs.Allocating.{with_reservation, with_reserved, buffer_after}
use Rattle.mps_abstract.specs.Collecting.{Collecting, Running}
use Rattle.mps_abstract.proofs.Lists.{slice_get-set_same, index_below}
use Rattle.mps_abstract.proofs.Calls.ClientLists.{among_all, written_among, last_among, entry_is_there}
use Rattle.mps_abstract.proofs.Calls.ClientCovered.{holds_still, any_cases, any_left, any_right, extent_at_point, reserved_written, reserved_point_written, reserved_at_point, reserved_last}
use Rattle.mps_abstract.proofs.Calls.ClientBeside.{beside_keeps, IsRightlyHeld, IsHeldIn, in_slots, in_holds, in_messages, in_reservations, held_where, held_so}

module _ (x : Collecting) (run : Running x) where
  abbrev w : World
  w = x.world

  abbrev P : World → Type 0
  P v = Running (record x { world = v })

  abbrev with_points : List (Option Point) → List PointMemory → List NamedThing → World
  with_points points memories names = record w { graph = record w.graph { points = points; names = names }; point_memories = memories }

  still_reserved : (id : Id) → contains (ids_in_reservations w.graph) id ≡ true → IsRightlyHeld x id
  still_reserved id h =
      inl (held_so (ids_in_slots w.graph) (ids_in_holds w.graph) w.graph.messages (ids_in_reservations w.graph) id (in_reservations h))

  held_by_points : (points : List (Option Point))
      → ((id : Id) → contains (flat_map targets_of_point points) id ≡ true → IsRightlyHeld x id) → (id : Id)
      → contains (ids_of_client (record w.graph { points = points })) id ≡ true → IsRightlyHeld x id
  held_by_points points reserved id h =
      of_part (held_where (ids_in_slots w.graph) (ids_in_holds w.graph) w.graph.messages (flat_map targets_of_point points) id h)
    where
      so : IsHeldIn (ids_in_slots w.graph) (ids_in_holds w.graph) w.graph.messages (ids_in_reservations w.graph) id → IsRightlyHeld x id
      so part = inl (held_so (ids_in_slots w.graph) (ids_in_holds w.graph) w.graph.messages (ids_in_reservations w.graph) id part)

      of_part : IsHeldIn (ids_in_slots w.graph) (ids_in_holds w.graph) w.graph.messages (flat_map targets_of_point points) id
          → IsRightlyHeld x id
      of_part (in_slots e) = so (in_slots e)
      of_part (in_holds e) = so (in_holds e)
      of_part (in_messages e) = so (in_messages e)
      of_part (in_reservations e) = reserved id e

  -- points and what they have in the arena changed
  pub points_keep : (points : List (Option Point)) (memories : List PointMemory) (names : List NamedThing)
      → ((id : Id) → contains (flat_map targets_of_point points) id ≡ true → IsRightlyHeld x id)
      → ((p : Run → Bool) → list_any p (reserved_extents w.graph.points w.point_memories) ≡ true
      → (list_any p (extents_of w.graph.objects w.addresses) ≡ true) ⊎ (list_any p (reserved_extents points memories) ≡ true))
      → P (with_points points memories names)
  points_keep points memories names reserved more = beside_keeps x run (with_points points memories names) (record {
    copying = λ id is h. h;
    automatic_pools = λ pool h. h;
    held = held_by_points points reserved;
    holds = λ base h. holds_still w (with_points points memories names) base refl
        (λ s e any. elim (any_cases (begins_in s) (extents_of w.graph.objects w.addresses)
        (reserved_extents w.graph.points w.point_memories) any) [
          | inl object ↦ any_left (begins_in s) (extents_of w.graph.objects w.addresses) (reserved_extents points memories) object
          | inr was ↦ elim (more (begins_in s) was) [
            | inl object ↦ any_left (begins_in s) (extents_of w.graph.objects w.addresses) (reserved_extents points memories) object
            | inr is ↦ any_right (begins_in s) (extents_of w.graph.objects w.addresses) (reserved_extents points memories) is
          ]
        ]) h;
  })

  -- ---- points made and dropped

  pub with_point_keeps : (name : Name) (pool : ℕ) (rank : Rank) → P (with_point w name pool rank)
  with_point_keeps name pool rank =
      points_keep (with_last w.graph.points (Some (record { pool = pool; rank = rank; reservation = None })))
      (with_last w.point_memories (record { reserved_at = 0; buffer = empty_run }))
      (with_last w.graph.names (record { name = name; thing = PointThing (length w.graph.points) }))
      (λ id h. elim (last_among targets_of_point w.graph.points (Some (record { pool = pool; rank = rank; reservation = None })) id h) [
        | inl old ↦ still_reserved id old
        | inr none ↦ absurd (false≢true none)
      ])
      (λ p h. inr (reserved_last p w.graph.points w.point_memories (Some (record { pool = pool; rank = rank; reservation = None }))
      (record { reserved_at = 0; buffer = empty_run }) h))

  -- no extent of a point without a live reservation
  none_of : (p : Run → Bool) (o : Option Point) (value : Point) (memory : PointMemory) → o ≡ Some value
      → extent_of_reservation value.reservation memory ≡ [] → list_any p (extent_at_point o memory) ≡ true → ⊥
  none_of p o value memory e none h = false≢true (sym (ap (λ q. list_any p (extent_at_point q memory)) e ∙ ap (list_any p) none) ∙ h)

  is_value : (point : Numbered Point) (o : Option Point) → entry_at w.graph.points point.number ≡ Some point.value
      → slice_get w.graph.points point.number ≡ Some o → o ≡ Some point.value
  is_value point o found there = sym (same_Some (Some point.value) o
      (sym (entry_is_there w.graph.points point.number point.value found) ∙ there))

  no_reservation : (o : Option Reservation) (memory : PointMemory) → is_some o ≡ false → extent_of_reservation o memory ≡ []
  no_reservation None memory h = refl
  no_reservation (Some r) memory h = absurd (true≢false h)

  pub without_point_keeps : (name : Name) (point : Numbered Point) → entry_at w.graph.points point.number ≡ Some point.value
      → is_some point.value.reservation ≡ false → P (without_point w name point.number)
  without_point_keeps name point found closed =
      points_keep (slice_set w.graph.points point.number None)
      (slice_set w.point_memories point.number (record { reserved_at = 0; buffer = empty_run })) (without_name w.graph.names name)
      (λ id h. elim (written_among targets_of_point w.graph.points point.number None id h) [
        | inl old ↦ still_reserved id old
        | inr none ↦ absurd (false≢true none)
      ])
      (λ p h. elim (reserved_written p w.graph.points w.point_memories point.number None
      (record { reserved_at = 0; buffer = empty_run }) h) [
        | inl still ↦ inr still
        | inr at ↦ absurd (none_of p at.point point.value at.memory (is_value point at.point found at.is_point)
            (no_reservation point.value.reservation at.memory closed) at.passes)
      ])

  -- ---- reservations

  -- what a live reservation refers to the client holds
  reserved_held : (point : Numbered Point) (r : Reservation) (id : Id) → entry_at w.graph.points point.number ≡ Some point.value
      → point.value.reservation ≡ Some r → contains (targets_of_reservation r) id ≡ true → contains (ids_in_reservations w.graph) id ≡ true
  reserved_held point r id found is_open h =
      among_all targets_of_point w.graph.points point.number (Some point.value) id
      (entry_is_there w.graph.points point.number point.value found)
      (ap (λ o. contains (option_map_or targets_of_reservation o []) id) is_open ∙ h)

  -- a reservation ends that a flip has ended already, or whose extent is an object's
  pub ended_keeps : (point : Numbered Point) → entry_at w.graph.points point.number ≡ Some point.value
      → ((p : Run → Bool) (memory : PointMemory) → slice_get w.point_memories point.number ≡ Some memory
      → list_any p (extent_of_reservation point.value.reservation memory) ≡ true
      → list_any p (extents_of w.graph.objects w.addresses) ≡ true)
      → P (with_graph w (with_reservation w.graph point None))
  ended_keeps point found covered =
      points_keep (slice_set w.graph.points point.number (Some (record point.value { reservation = None }))) w.point_memories w.graph.names
      (λ id h. elim (written_among targets_of_point w.graph.points point.number (Some (record point.value { reservation = None })) id h) [
        | inl old ↦ still_reserved id old
        | inr none ↦ absurd (false≢true none)
      ])
      (λ p h. elim (reserved_point_written p w.graph.points w.point_memories point.number
      (Some (record point.value { reservation = None })) h) [
        | inl still ↦ inr still
        | inr at ↦ inl (covered p at.memory at.is_memory
            (ap (λ q. list_any p (extent_at_point q at.memory)) (sym (is_value point at.point found at.is_point)) ∙ at.passes))
      ])

  -- a point that has no reservation gets one, which refers to nothing yet
  pub with_reserved_keeps : (point : Numbered Point) → entry_at w.graph.points point.number ≡ Some point.value
      → is_some point.value.reservation ≡ false → (r : Reservation) (address : Address)
      → ((id : Id) → contains (targets_of_reservation r) id ≡ false) → P (with_reserved w point r address)
  with_reserved_keeps point found closed r address nothing =
      points_keep (slice_set w.graph.points point.number (Some (record point.value { reservation = Some r })))
      (slice_set w.point_memories point.number (record {
        reserved_at = address;
        buffer = buffer_after w point.number point.value (length r.cells);
      })) w.graph.names
      (λ id h. elim (written_among targets_of_point w.graph.points point.number (Some (record point.value { reservation = Some r })) id h) [
        | inl old ↦ still_reserved id old
        | inr new ↦ absurd (true≢false (sym new ∙ nothing id))
      ])
      (λ p h. elim (reserved_written p w.graph.points w.point_memories point.number (Some (record point.value { reservation = Some r }))
      (record {
        reserved_at = address;
        buffer = buffer_after w point.number point.value (length r.cells);
      }) h) [
        | inl still ↦ inr still
        | inr at ↦ absurd (none_of p at.point point.value at.memory (is_value point at.point found at.is_point)
            (no_reservation point.value.reservation at.memory closed) at.passes)
      ])

  -- a reservation with other cells, as many
  module _ (point : Numbered Point) (found : entry_at w.graph.points point.number ≡ Some point.value) (r : Reservation)
      (open_there : point.value.reservation ≡ Some r) (cells : List Cell) (as_many : length cells ≡ length r.cells)
      (right : (id : Id) → contains (targets_of_cells cells) id ≡ true
      → (contains (targets_of_cells r.cells) id ≡ true) ⊎ IsRightlyHeld x id) where
    abbrev rewritten : Option Point
    rewritten = Some (record point.value { reservation = Some (record r { cells = cells }) })

    same_extent : (memory : PointMemory) → extent_of_reservation
        (Some (record r { cells = cells })) memory ≡ extent_of_reservation point.value.reservation memory
    same_extent memory =
        ap (λ n. if (if r.is_doomed then false else true) then extent memory.reserved_at n ∷ [] else []) as_many
        ∙ ap (λ o. extent_of_reservation o memory) (sym open_there)

    rewritten_right : r.is_doomed ≡ false → (id : Id) → contains (targets_of_point rewritten) id ≡ true → IsRightlyHeld x id
    rewritten_right live id h =
        elim (right id (sym (ap (λ b. contains (if b then [] else targets_of_cells cells) id) live) ∙ h)) [
          | inl old ↦ still_reserved id (reserved_held point r id found open_there
              (ap (λ b. contains (if b then [] else targets_of_cells r.cells) id) live ∙ old))
          | inr new ↦ new
        ]

    pub written_keeps : r.is_doomed ≡ false → P (with_graph w (with_reservation w.graph point (Some (record r { cells = cells }))))
    written_keeps live =
        points_keep (slice_set w.graph.points point.number rewritten) w.point_memories w.graph.names
        (λ id h. elim (written_among targets_of_point w.graph.points point.number rewritten id h) [
          | inl old ↦ still_reserved id old
          | inr new ↦ rewritten_right live id new
        ])
        (λ p h. elim (reserved_point_written p w.graph.points w.point_memories point.number rewritten h) [
          | inl still ↦ inr still
          | inr at ↦ inr (reserved_at_point p (slice_set w.graph.points point.number rewritten) w.point_memories point.number rewritten
              at.memory
              (slice_get-set_same w.graph.points point.number rewritten (index_below w.graph.points point.number at.point at.is_point))
              at.is_memory
              (ap (list_any p) (same_extent at.memory)
              ∙ (ap (λ q. list_any p (extent_at_point q at.memory)) (sym (is_value point at.point found at.is_point)) ∙ at.passes)))
        ])
