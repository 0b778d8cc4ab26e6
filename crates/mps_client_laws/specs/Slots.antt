-- What slots refer to: a slot that no call writes stays, and `copy`, `clear`, `same` and `null` are about the objects in slots, not
-- about their addresses.
use Rattle.std.specs.Prelude.{◌≡◌, ℕ, Bool, true, false, not, ◌&&◌, ◌||◌, ◌==◌, IsTrue, Option, Some, None, Ok, Err, [], ◌∷◌, ◌++◌, refl}
use Rattle.std.specs.Option.{option_map_or}
use Rattle.mps_base.specs.Address.{Id}
use Rattle.mps_base.specs.declared.names.Slot.{Slot}
use Rattle.mps_model.specs.Layout.{Layout}
use Rattle.mps_model.specs.declared.call.Call.{Call}
use Rattle.mps_model.specs.declared.call.Call.TheVariants as call
use Rattle.mps_model.specs.declared.reply.Reply.TheVariants as reply
use Rattle.mps_model.specs.Answer.{Replied, is_accepted}
use Rattle.mps_model.specs.Step.{Step, History}
use Rattle.mps_model.specs.World.{World}
use Rattle.mps_model.specs.Checked.{Checked, Found, as_table, number_named, slot_in}
use Rattle.mps_model.specs.Accessing.{same_target}
use Rattle.mps_model.specs.History.{IsLegalHistoryOf, world_after, world_after_steps}
use Rattle.mps_laws.specs.Held.{target_of_slot, letter, slot_of_t}
use Rattle.mps_laws.specs.Replay.{reached}
use Rattle.mps_client_laws.specs.Objects.{replaces, two_objects, stepping, with_a_transform, applying}

-- ---- a slot that isn't written

abbrev pub value_found : Checked (Found (Option ℕ)) → Option (Option ℕ)
value_found (Ok found) = Some found.value
value_found (Err why) = None

-- what stands in a slot, null or an object, if there is such a slot
abbrev pub slot_value : World → Slot → Option (Option ℕ)
slot_value w slot = value_found (slot_in w slot)

-- the slot that a call writes, if it is accepted
abbrev pub slot_written_by : Call → Option Slot
slot_written_by (call.Get target source cell) = Some target
slot_written_by (call.Copy target source) = Some target
slot_written_by (call.Clear slot) = Some slot
slot_written_by (call.Take slot word) = Some slot
slot_written_by (call.Commit point target) = Some target
slot_written_by (call.Message slot) = Some slot
slot_written_by _ = None

-- whether two slots have one index in tables of one name
abbrev pub is_same_slot : World → Slot → Slot → Bool
is_same_slot w slot other =
    same_target (number_named w slot.name as_table) (number_named w other.name as_table) && slot.index == other.index

-- whether a call drops the table of a slot
abbrev pub drops_table : World → Call → Slot → Bool
drops_table w (call.DropRoot root) slot = same_target (number_named w slot.name as_table) (number_named w root as_table)
drops_table w _ slot = false

-- whether a call writes this slot, drops its table, or replaces the object to which it refers, if it is accepted
abbrev pub writes_slot : World → Call → Slot → Bool
writes_slot w c slot =
    option_map_or (is_same_slot w slot) (slot_written_by c) false
    || (drops_table w c slot || replaces w c (target_of_slot w slot))

-- none of these steps writes this slot, drops its table or replaces the object to which it refers
abbrev pub leave_slot : World → History → Slot → Bool
leave_slot w [] slot = true
leave_slot w (s ∷ ss) slot = not (writes_slot w s.call slot) && leave_slot (world_after w s) ss slot

-- A slot that no step writes has what it had, null or the same object, wherever that is moved meanwhile.
abbrev pub SlotsStay : Type 0
SlotsStay =
    (w : World) (steps : History) (slot : Slot) (value : Option ℕ) → IsTrue (leave_slot w steps slot) → slot_value w slot ≡ Some value
    → slot_value (world_after_steps w steps) slot ≡ Some value

-- ---- equality of objects

-- after an accepted `copy` the target refers to the object to which the source referred, or is null as it was
abbrev pub CopyGivesTheSameObject : Type 0
CopyGivesTheSameObject =
    (formats : ℕ → Layout) (steps later : History) (s : Step) (target source : Slot) → IsLegalHistoryOf formats (steps ++ s ∷ later)
    → s.call ≡ call.Copy target source → IsTrue (is_accepted s.answer)
    → target_of_slot (world_after (reached formats steps) s) target ≡ target_of_slot (reached formats steps) source

-- after an accepted `clear` the slot is null
abbrev pub ClearLeavesNull : Type 0
ClearLeavesNull =
    (formats : ℕ → Layout) (steps later : History) (s : Step) (slot : Slot) → IsLegalHistoryOf formats (steps ++ s ∷ later)
    → s.call ≡ call.Clear slot → IsTrue (is_accepted s.answer)
    → target_of_slot (world_after (reached formats steps) s) slot ≡ None

-- if `same` answers yes, both slots refer to one object or both are null
abbrev pub YesIsTheSameObject : Type 0
YesIsTheSameObject =
    (formats : ℕ → Layout) (steps later : History) (s : Step) (slot other : Slot) → IsLegalHistoryOf formats (steps ++ s ∷ later)
    → s.call ≡ call.Same slot other → s.answer ≡ Replied reply.Yes
    → target_of_slot (reached formats steps) slot ≡ target_of_slot (reached formats steps) other

-- if it answers no, they don't
abbrev pub NoIsAnotherObject : Type 0
NoIsAnotherObject =
    (formats : ℕ → Layout) (steps later : History) (s : Step) (slot other : Slot) → IsLegalHistoryOf formats (steps ++ s ∷ later)
    → s.call ≡ call.Same slot other → s.answer ≡ Replied reply.No
    → ¬ (target_of_slot (reached formats steps) slot ≡ target_of_slot (reached formats steps) other)

-- if `null` answers yes, the slot refers to no object
abbrev pub YesIsNoObject : Type 0
YesIsNoObject =
    (formats : ℕ → Layout) (steps later : History) (s : Step) (slot : Slot) → IsLegalHistoryOf formats (steps ++ s ∷ later)
    → s.call ≡ call.Null slot → s.answer ≡ Replied reply.Yes → target_of_slot (reached formats steps) slot ≡ None

-- if it answers no, the slot refers to an object
abbrev pub NoIsAnObject : Type 0
NoIsAnObject =
    (formats : ℕ → Layout) (steps later : History) (s : Step) (slot : Slot) → IsLegalHistoryOf formats (steps ++ s ∷ later)
    → s.call ≡ call.Null slot → s.answer ≡ Replied reply.No
    → (id : Id) × (target_of_slot (reached formats steps) slot ≡ Some id)

-- ---- vectors

pub a_copy_writes_its_target : leave_slot two_objects (stepping (call.Copy (slot_of_t 1) (slot_of_t 0)) [] ∷ []) (slot_of_t 1) ≡ false
a_copy_writes_its_target = refl

pub a_copy_leaves_its_source : leave_slot two_objects (stepping (call.Copy (slot_of_t 1) (slot_of_t 0)) [] ∷ []) (slot_of_t 0) ≡ true
a_copy_leaves_its_source = refl

pub a_copied_slot : slot_value (world_after two_objects (stepping (call.Copy (slot_of_t 1) (slot_of_t 0)) [])) (slot_of_t 1) ≡ Some (Some 0)
a_copied_slot = refl

pub a_table_that_is_dropped : leave_slot two_objects (stepping (call.DropRoot (letter 116)) [] ∷ []) (slot_of_t 0) ≡ false
a_table_that_is_dropped = refl

pub another_root_that_is_dropped : leave_slot two_objects (stepping (call.DropRoot (letter 97)) [] ∷ []) (slot_of_t 0) ≡ true
another_root_that_is_dropped = refl

pub no_slot_has_no_value : slot_value two_objects (slot_of_t 2) ≡ None
no_slot_has_no_value = refl

pub a_transform_writes_slots_of_an_old_object : leave_slot with_a_transform (applying ∷ []) (slot_of_t 0) ≡ false
a_transform_writes_slots_of_an_old_object = refl

pub a_transform_leaves_other_slots : leave_slot with_a_transform (applying ∷ []) (slot_of_t 1) ≡ true
a_transform_leaves_other_slots = refl
