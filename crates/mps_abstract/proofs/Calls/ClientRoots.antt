-- The calls that change what the client holds in slots, areas and messages, and those that make and drop tables.
use Rattle.std.proofs.Common.{◌≡◌, ◌∙◌, ℕ, Bool, true, false, refl, sym, ap, List, map, Option, Some, None, subst, inl, inr}
use Rattle.std.proofs.lemmas.Bool.{false≢true, true≢false}
use Rattle.std.specs.Prelude.{Ok, slice_set, replicate, ◌||◌, not, if◌then◌else◌}
use Rattle.std.specs.List.{flat_map}
use Rattle.mps_base.specs.Address.{Id}
use Rattle.mps_base.specs.declared.refusal.Refusal.TheVariants as refusal
use Rattle.mps_model.specs.Graph.{Slots, AreaWord, PlainWord, Hold, Object, contains, entries, entry_at, with_last, held_by_word, slots_of, holds_of, ids_of_client, ids_in_slots, ids_in_holds, ids_in_reservations, object_at}
use Rattle.mps_model.specs.Collection.{is_condemned, is_settled}
use Rattle.mps_model.specs.World.{World, is_copying_object}
use Rattle.mps_model.specs.Checked.{Found, Numbered, ◌>>=◌, required, object_in, with_graph}
use Rattle.mps_model.specs.Allocating.{with_slot}
use Rattle.mps_model.specs.Accessing.{AsBlock, AsNumber, AsMarked, poked, poked_in, with_word, held_in}
use Rattle.mps_abstract.specs.Collecting.{Collecting, Running, is_white_in}
use Rattle.mps_abstract.proofs.Keeping.{not_white_outside}
use Rattle.mps_abstract.proofs.Calls.ClientLists.{among_all, written_among, last_among, entry_is_there, among_entries, written_entries, no_entries, map-slice_set, map-slice_get, map-replicate}
use Rattle.mps_abstract.proofs.Calls.ClientBeside.{IsRightlyHeld, roots_keep, IsHeldIn, in_slots, in_holds, in_messages, in_reservations, held_where, held_so, same_Ok, not_Ok, IsFound, slot_held}

-- an object that a slot refers to
pub object_found : (w : World) (target : Option ℕ) (object : Numbered Object) → object_in w target ≡ Ok object → target ≡ Some object.number
object_found w None object h = absurd (not_Ok refusal.NullRef object h)
object_found w (Some id) object h = of_object (object_at w.graph id) h
  where
    of_object : (o : Option Object) → (required o refusal.NullRef >>= (λ object. Ok (record { number = id; value = object }))) ≡ Ok object
        → Some id ≡ Some object.number
    of_object None e = absurd (not_Ok refusal.NullRef object e)
    of_object (Some o) e = ap (λ (n : Numbered Object). Some n.number) (same_Ok (record { number = id; value = o }) object e)

-- what a word that is read holds
pub held_word : (word : AreaWord) (id : Id) → held_in word ≡ Ok id → held_by_word word ≡ Some id
held_word (Hold n offset) id h = ap Some (same_Ok n id h)
held_word (PlainWord number) id h = absurd (not_Ok refusal.NotARef id h)

module _ (x : Collecting) (run : Running x) where
  abbrev w : World
  w = x.world

  abbrev P : World → Type 0
  P v = Running (record x { world = v })

  -- what the client held
  pub still_slots : (id : Id) → contains (ids_in_slots w.graph) id ≡ true → IsRightlyHeld x id
  still_slots id h = inl (held_so (ids_in_slots w.graph) (ids_in_holds w.graph) w.graph.messages (ids_in_reservations w.graph) id
      (in_slots h))

  pub still_holds : (id : Id) → contains (ids_in_holds w.graph) id ≡ true → IsRightlyHeld x id
  still_holds id h = inl (held_so (ids_in_slots w.graph) (ids_in_holds w.graph) w.graph.messages (ids_in_reservations w.graph) id
      (in_holds h))

  pub still_messages : (id : Id) → contains w.graph.messages id ≡ true → IsRightlyHeld x id
  still_messages id h = inl (held_so (ids_in_slots w.graph) (ids_in_holds w.graph) w.graph.messages (ids_in_reservations w.graph) id
      (in_messages h))

  still_reserved : (id : Id) → contains (ids_in_reservations w.graph) id ≡ true → IsRightlyHeld x id
  still_reserved id h =
      inl (held_so (ids_in_slots w.graph) (ids_in_holds w.graph) w.graph.messages (ids_in_reservations w.graph) id (in_reservations h))

  -- what is held by parts
  pub held_by_parts : (tables : List (Option Slots)) (areas : List (Option (List AreaWord))) (messages : List Id)
      → ((id : Id) → contains (flat_map slots_of tables) id ≡ true → IsRightlyHeld x id)
      → ((id : Id) → contains (flat_map holds_of areas) id ≡ true → IsRightlyHeld x id)
      → ((id : Id) → contains messages id ≡ true → IsRightlyHeld x id) → (id : Id)
      → contains (ids_of_client (record w.graph { tables = tables; areas = areas; messages = messages })) id ≡ true → IsRightlyHeld x id
  held_by_parts tables areas messages slots holds sent id h =
      of_part (held_where (flat_map slots_of tables) (flat_map holds_of areas) messages (ids_in_reservations w.graph) id h)
    where
      of_part : IsHeldIn (flat_map slots_of tables) (flat_map holds_of areas) messages (ids_in_reservations w.graph) id → IsRightlyHeld x id
      of_part (in_slots e) = slots id e
      of_part (in_holds e) = holds id e
      of_part (in_messages e) = sent id e
      of_part (in_reservations e) = still_reserved id e

  -- ---- slots

  pub slots_written : (f : Found (Option ℕ)) (target : Option ℕ) → IsFound (entry_at w.graph.tables) f
      → ((id : Id) → target ≡ Some id → IsRightlyHeld x id) → (id : Id)
      → contains (flat_map slots_of (slice_set w.graph.tables f.number (Some (slice_set f.list f.index target)))) id ≡ true
      → IsRightlyHeld x id
  slots_written f target found right id h =
      elim (written_among slots_of w.graph.tables f.number (Some (slice_set f.list f.index target)) id h) [
        | inl old ↦ still_slots id old
        | inr new ↦ elim (written_entries f.list f.index target id new) [
          | inl old ↦ still_slots id (among_all slots_of w.graph.tables f.number (Some f.list) id
              (entry_is_there w.graph.tables f.number f.list found.list) old)
          | inr it ↦ right id it
        ]
      ]

  -- a slot is written
  pub slot_keeps : (f : Found (Option ℕ)) (target : Option ℕ) → IsFound (entry_at w.graph.tables) f
      → ((id : Id) → target ≡ Some id → IsRightlyHeld x id) → P (with_graph w (with_slot w.graph f target))
  slot_keeps f target found right = roots_keep x run (with_slot w.graph f target)
      (held_by_parts (slice_set w.graph.tables f.number (Some (slice_set f.list f.index target))) w.graph.areas w.graph.messages
      (slots_written f target found right) still_holds still_messages)

  pub slot_right : (f : Found (Option ℕ)) → IsFound (entry_at w.graph.tables) f → (id : Id) → f.value ≡ Some id → IsRightlyHeld x id
  slot_right f found id e = inl (slot_held w.graph f id found e)

  -- ---- area words

  pub hold_right : (f : Found AreaWord) → IsFound (entry_at w.graph.areas) f → (id : Id) → held_by_word f.value ≡ Some id
      → IsRightlyHeld x id
  hold_right f found id e =
      still_holds id (among_all holds_of w.graph.areas f.number (Some f.list) id (entry_is_there w.graph.areas f.number f.list found.list)
      (among_entries (map held_by_word f.list) f.index id (map-slice_get held_by_word f.list f.index f.value found.value ∙ ap Some e)))

  words_written : (f : Found AreaWord) (word : AreaWord) → IsFound (entry_at w.graph.areas) f
      → ((id : Id) → held_by_word word ≡ Some id → IsRightlyHeld x id) → (id : Id)
      → contains (flat_map holds_of (slice_set w.graph.areas f.number (Some (slice_set f.list f.index word)))) id ≡ true
      → IsRightlyHeld x id
  words_written f word found right id h =
      elim (written_among holds_of w.graph.areas f.number (Some (slice_set f.list f.index word)) id h) [
        | inl old ↦ still_holds id old
        | inr new ↦ elim (written_entries (map held_by_word f.list) f.index (held_by_word word) id
            (subst (λ os. contains (entries os) id ≡ true) (map-slice_set held_by_word f.list f.index word) new)) [
              | inl old ↦ still_holds id (among_all holds_of w.graph.areas f.number (Some f.list) id
                  (entry_is_there w.graph.areas f.number f.list found.list) old)
              | inr it ↦ right id it
            ]
      ]

  -- a word is written
  pub word_keeps : (f : Found AreaWord) (word : AreaWord) → IsFound (entry_at w.graph.areas) f
      → ((id : Id) → held_by_word word ≡ Some id → IsRightlyHeld x id) → P (with_graph w (with_word w.graph f word))
  word_keeps f word found right = roots_keep x run (with_word w.graph f word)
      (held_by_parts w.graph.tables (slice_set w.graph.areas f.number (Some (slice_set f.list f.index word))) w.graph.messages
      still_slots (words_written f word found right) still_messages)

  -- what is settled or wasn't condemned isn't white
  pub as_block_black : (id : Id) → poked w id ≡ AsBlock → is_white_in x id ≡ false
  as_block_black id h = of_tests (is_condemned x.running id) (is_settled x.running id) (is_copying_object w id) refl refl
      (sym (ap (poked_in w id) run.runs) ∙ h)
    where
      of_tests : (d s b : Bool) → is_condemned x.running id ≡ d → is_settled x.running id ≡ s
          → (if not d || s then AsBlock else (if b then AsNumber else AsMarked)) ≡ AsBlock → is_white_in x id ≡ false
      of_tests false s b outside settled e = not_white_outside x.running.condemned x.colours id outside
      of_tests true true b is settled e = run.settled.settled id settled
      of_tests true false true is settled e = absurd cc
      of_tests true false false is settled e = absurd cc

  -- ---- messages

  -- ---- tables, areas and tables of blocks

  pub new_table : (slots : ℕ) (id : Id) → contains (flat_map slots_of (with_last w.graph.tables (Some (replicate slots None)))) id ≡ true
      → IsRightlyHeld x id
  new_table slots id h = elim (last_among slots_of w.graph.tables (Some (replicate slots None)) id h) [
    | inl old ↦ still_slots id old
    | inr new ↦ absurd (true≢false (sym new ∙ no_entries slots id))
  ]

  pub new_area : (words : ℕ) (id : Id) → contains (flat_map holds_of
      (with_last w.graph.areas (Some (replicate words (PlainWord 0))))) id ≡ true
      → IsRightlyHeld x id
  new_area words id h = elim (last_among holds_of w.graph.areas (Some (replicate words (PlainWord 0))) id h) [
    | inl old ↦ still_holds id old
    | inr new ↦ absurd (true≢false (sym new ∙ ap (λ os. contains (entries os) id) (map-replicate held_by_word words (PlainWord 0))
        ∙ no_entries words id))
  ]

  pub dropped_table : (number : ℕ) (id : Id) → contains (flat_map slots_of (slice_set w.graph.tables number None)) id ≡ true
      → IsRightlyHeld x id
  dropped_table number id h = elim (written_among slots_of w.graph.tables number None id h) [
    | inl old ↦ still_slots id old
    | inr none ↦ absurd (false≢true none)
  ]

  pub dropped_area : (number : ℕ) (id : Id) → contains (flat_map holds_of (slice_set w.graph.areas number None)) id ≡ true
      → IsRightlyHeld x id
  dropped_area number id h = elim (written_among holds_of w.graph.areas number None id h) [
    | inl old ↦ still_holds id old
    | inr none ↦ absurd (false≢true none)
  ]
