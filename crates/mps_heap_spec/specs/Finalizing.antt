-- The outcomes of the calls on registrations and messages.
use Rattle.std.specs.Prelude.{◌≡◌, ℕ, Bool, true, false, nat_le, Option, Some, None, option_map, Ok, List, [], ◌∷◌, map, refl}
use Rattle.std.proofs.Common.{◌∙◌, ap, sym}
use Rattle.std.proofs.lemmas.Option.{none-some}
use Rattle.mps_base.specs.Address.{Address}
use Rattle.mps_base.specs.declared.names.Slot.{Slot}
use Rattle.mps_base.specs.declared.refusal.Refusal.TheVariants as refusal
use Rattle.mps_trace.specs.State.{FinalsState, max_finals, finals_count, with_registration, without_registration, position_of}
use Rattle.mps_trace.specs.Registration.{AreFindable, FindsRegistration}
use Rattle.mps_trace.specs.declared.running.Band.TheVariants as band
use Rattle.mps_trace.specs.declared.running.Running.{Running}
use Rattle.mps_format.specs.Layout.{Layout}
use Rattle.mps_format.specs.Pools.{policy_of_pool}
use Rattle.mps_model.specs.Checked.{Checked, ◌>>=◌, ◌>>◌, required, refuse_when}
use Rattle.mps_model.specs.Collecting.{without_position}
use Rattle.mps_heap_spec.specs.State.{HeapState}
use Rattle.mps_heap_spec.specs.Coming.{Comes, Outcome, done}
use Rattle.mps_heap_spec.specs.Finding.{slot_in, object_in}
use Rattle.mps_heap_spec.specs.declared.found.Block.{Block}
use Rattle.mps_heap_spec.specs.declared.found.Entry.{Entry}
use Rattle.mps_heap_spec.specs.Objects.{with_slot}

-- how far a running collection is if the registration at a position was taken away
abbrev pub running_without : (position : ℕ) → Running → Running
running_without position run = record run {
  next = without_position run.next position;
  registered_before = without_position run.registered_before position;
}

module _ {F : Type 0} where
  abbrev pub with_finals : HeapState F → FinalsState → HeapState F
  with_finals h finals = record h { finals = finals }

  -- the registration at a position is gone
  abbrev pub without_registered : HeapState F → (position : ℕ) → HeapState F
  without_registered h position = record (with_finals h (without_registration h.finals position)) {
    running = option_map (running_without position) h.running;
  }

  -- the first message goes into a slot, if one waits
  abbrev pub message_into : HeapState F → Entry Address → (messages : List Address) → Outcome F Bool
  message_into h into [] = record { answer = false; state = h }
  message_into h into (at ∷ rest) =
      record { answer = true; state = with_slot (with_finals h (record h.finals { messages = rest })) into at }

  abbrev pub message_taken : HeapState F → Slot → Checked (Outcome F Bool)
  message_taken h slot = do
    into ← slot_in h slot
    Ok (message_into h into h.finals.messages)

module _ {F : Type 0} (layout : F → Layout) where
  abbrev pub after_finalize : HeapState F → Slot → Checked (Outcome F (Unit {0}))
  after_finalize h slot = do
    object ← object_in layout h slot
    refuse_when (nat_le max_finals (finals_count h.finals)) (refusal.TooMany max_finals)
    done (with_finals h (with_registration h.finals object.at))

  -- the first registration of an object that lies at an address stands at a position, if it has one. While no collection runs each
  -- registration has the address of its object; while one runs it may have the address at the flip, and `find` says where that leads
  pub record HasPosition (h : HeapState F) (at : Address) (position : Option ℕ) : Type 0 where
    pub rests : h.running ≡ None → position ≡ position_of h.finals.registered at
    pub runs : (run : Running) → h.running ≡ Some run
        → FindsRegistration layout (map policy_of_pool h.pools) h.segs h.finals.registered at position

  -- while a collection runs, what is registered can be found
  abbrev pub CanUnregister : HeapState F → Type 0
  CanUnregister h =
      (run : Running) → h.running ≡ Some run → AreFindable layout (map policy_of_pool h.pools) h.segs h.finals.registered

  -- the object in a slot loses the registration at a position, which is refused if there is none
  abbrev pub after_definalize : (position : Option ℕ) → HeapState F → Slot → Checked (Outcome F (Unit {0}))
  after_definalize found h slot = do
    object_in layout h slot
    position ← required found refusal.NotRegistered
    done (without_registered h position)

  -- it loses its first registration
  pub record IsUnregistered (h : HeapState F) (slot : Slot) (result : Checked (Unit {0})) (after : HeapState F) : Type 0 where
    pub position : Option ℕ
    pub first : (object : Block F) → object_in layout h slot ≡ Ok object → HasPosition h object.at position
    pub comes : Comes h (after_definalize position h slot) result after

-- ---- vectors: two registrations at rest

module _ {F : Type 0} (layout : F → Layout) (h : HeapState F) (none : h.running ≡ None)
    (registered : h.finals.registered ≡ 24 ∷ 40 ∷ []) where
  pub at_rest_by_its_address : HasPosition layout h 40 (Some 1)
  at_rest_by_its_address = record {
    rests = λ still. sym (ap (λ rs. position_of rs 40) registered);
    runs = λ run running. absurd (none-some run (sym none ∙ running));
  }

  pub at_rest_it_is_found : HasPosition layout h 40 None → ⊥
  at_rest_it_is_found has = none-some 1 (has.rests none ∙ ap (λ rs. position_of rs 40) registered)

-- ---- vectors: a collection that examines the registration at 1 next, of three that were made before its flip

abbrev second_next : Running
second_next = record { band = band.Final; cursor = record { 0 = 0x1000 }; next = 1; registered_before = 3 }

pub one_that_was_examined_is_gone : running_without 0 second_next ≡ record second_next { next = 0; registered_before = 2 }
one_that_was_examined_is_gone = refl

pub the_next_one_is_gone : running_without 1 second_next ≡ record second_next { registered_before = 2 }
the_next_one_is_gone = refl

pub one_that_was_made_since_is_gone : running_without 3 second_next ≡ second_next
one_that_was_made_since_is_gone = refl
