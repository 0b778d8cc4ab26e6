-- What `message` comes to where a message waits.
use Rattle.std.proofs.Common.{◌≡◌, ◌∙◌, true, List, [], ◌∷◌, Some, Ok, sym, ap, subst, drop}
use Rattle.std.proofs.lemmas.Option.{none-some, same_Some}
use Rattle.std.specs.Prelude.{Bool, slice_get}
use Rattle.mps_base.specs.Address.{Address}
use Rattle.mps_base.specs.declared.names.Slot.{Slot}
use Rattle.mps_trace.specs.State.{FinalsState}
use Rattle.mps_heap_spec.specs.Checked.{Checked, ◌>>=◌}
use Rattle.mps_heap_spec.specs.Coming.{Comes, Outcome, answered, state_from}
use Rattle.mps_heap_spec.specs.Finalizing.{message_into, message_taken, with_finals}
use Rattle.mps_heap_spec.specs.Finding.{slot_in}
use Rattle.mps_heap_spec.specs.Objects.{with_slot}
use Rattle.mps_heap_spec.specs.State.{HeapState}
use Rattle.mps_heap_spec.specs.declared.found.Entry.{Entry}

module _ {F : Type 0} (h : HeapState F) (slot : Slot) (into : Entry Address) (found : Ok into ≡ slot_in h slot) (at : Address) where
  -- a slot has the address of a message, and these wait yet
  abbrev left_with : List Address → Outcome F Bool
  left_with messages =
      record { answer = true; state = with_slot (with_finals h (record h.finals { messages = messages })) into at }

  first_taken : (messages : List Address) → slice_get messages 0 ≡ Some at
      → message_into h into messages ≡ left_with (drop 1 messages)
  first_taken [] waits = absurd (none-some at waits)
  first_taken (a ∷ rest) waits =
      ap (λ b. record { answer = true; state = with_slot (with_finals h (record h.finals { messages = rest })) into b })
      (same_Some a at waits)

  message_here : (finals : FinalsState) (after : HeapState F)
      → finals ≡ record h.finals { messages = drop 1 h.finals.messages } → slice_get h.finals.messages 0 ≡ Some at
      → after ≡ with_slot (with_finals h finals) into at → Comes h (message_taken h slot) (Ok true) after
  message_here finals after taken waits written =
      let outcome : message_taken h slot ≡ Ok (left_with (drop 1 h.finals.messages)) =
      ap (λ (x : Checked (Entry Address)). x >>= (λ e. Ok (message_into h e h.finals.messages))) (sym found)
      ∙ ap (λ (o : Outcome F Bool). Ok o) (first_taken h.finals.messages waits) in
      record {
        answer = sym (ap answered outcome);
        state = written ∙ ap (λ (f : FinalsState). with_slot (with_finals h f) into at) taken ∙ sym (ap (state_from h) outcome);
      }

-- in the state that a call sees
pub message_came : {F : Type 0} (seen h : HeapState F) → seen ≡ h → (slot : Slot) (into : Entry Address) → Ok into ≡ slot_in h slot
    → (finals : FinalsState) (at : Address) (after : HeapState F)
    → finals ≡ record seen.finals { messages = drop 1 seen.finals.messages } → slice_get seen.finals.messages 0 ≡ Some at
    → after ≡ with_slot (with_finals seen finals) into at → Comes h (message_taken h slot) (Ok true) after
message_came seen h is slot into found finals at after taken waits written =
    subst (λ v. Ok into ≡ slot_in v slot → Comes v (message_taken v slot) (Ok true) after) is
    (λ there. message_here seen slot into there at finals after taken waits written) found
