-- The calls on registrations and messages are right: `finalize`, `definalize`, `message`.
use Rattle.std.proofs.Common.{◌≡◌, ◌∙◌, ℕ, ◌+◌, Bool, refl, sym, ap, ap₂, subst, List, [], ◌∷◌, length, map, Option, Some, Ok}
use Rattle.std.proofs.lemmas.List.{length-map}
use Rattle.std.specs.Prelude.{nat_le}
use Rattle.mps_base.specs.Address.{Address, Id}
use Rattle.mps_base.specs.declared.names.Slot.{Slot}
use Rattle.mps_base.specs.declared.refusal.Refusal.TheVariants as refusal
use Rattle.mps_trace.specs.State.{finals_count, max_finals, with_registration}
use Rattle.mps_format.specs.Layout.{Layout}
use Rattle.mps_laws.proofs.Same.{Same, fits, same_next, same_refuse_when, same_then}
use Rattle.mps_model.specs.declared.call.Call.TheVariants as call
use Rattle.mps_model.specs.Checked.{Checked, Found, with_graph}
use Rattle.mps_model.specs.Collecting.{act_message_in, most_registrations}
use Rattle.mps_model.specs.Graph.{with_last}
use Rattle.mps_model.specs.World.{World}
use Rattle.mps_heap_spec.specs.Coming.{Comes}
use Rattle.mps_heap_spec.specs.declared.found.Entry.{Entry}
use Rattle.mps_heap_spec.specs.Finalizing.{message_into, message_taken, after_finalize, with_finals}
use Rattle.mps_heap_spec.specs.State.{HeapState}
use Rattle.mps_refinement.proofs.Worlds.CollectorKept.{all_kept}
use Rattle.mps_refinement.specs.RightStep.{IsRight}
use Rattle.mps_refinement.specs.StandsFor.{AreParts, Past, address_of_id}
use Rattle.mps_refinement.proofs.Lookups.LiveObjects.{object_then}
use Rattle.mps_refinement.proofs.Lookups.Lookups.{IsSlotEntry, slot_same}
use Rattle.mps_refinement.proofs.Parts.PartsWritten.{finals_written, slot_written}
use Rattle.mps_refinement.proofs.Calls.Readings.{says_ok}
pub use Rattle.mps_refinement.specs.Answering.{says_message}
use Rattle.mps_refinement.proofs.Worlds.Steps.{ComesToTheSame, Leads, answer_to, quiet_is_right}
use Rattle.mps_refinement.proofs.Parts.Registered.{as_many, one_more}

module _ {F : Type 0} (layout : F → Layout) (h : HeapState F) where
  registered_same : (slot : Slot) → ComesToTheSame layout says_ok h (call.Finalize slot) (after_finalize layout h slot)
  registered_same slot w past parts reached =
      object_then layout past h w parts reached slot (λ b n is.
      same_next
      (same_refuse_when (nat_le max_finals (finals_count h.finals))
      (nat_le most_registrations (length w.graph.registered + length w.graph.messages)) (refusal.TooMany max_finals)
      (ap (nat_le max_finals) (ap₂ (λ (a b : ℕ). a + b)
      (as_many w.addresses past.time.at_flip past.time.next past.time.registered_before h.finals.registered w.graph.registered
      parts.registered)
      (ap length parts.messages ∙ length-map w.graph.messages (address_of_id w.addresses)))))
      (fits (record {
        answer = refl;
        keeps = all_kept h;
        formats = refl;
        has = record {
          past = past;
          timed = refl;
          parts = finals_written layout past h w parts (with_registration h.finals b.at) (with_last w.graph.registered n.number)
              w.graph.messages
              (one_more w.addresses past.time.at_flip past.time.next past.time.registered_before h.finals.registered w.graph.registered b.at
              n.number parts.registered reached.before is.address)
              parts.messages;
        };
      })))

  pub registered_right : (slot : Slot) (result : Checked (Unit {0})) (after : HeapState F)
      → Comes h (after_finalize layout h slot) result after
      → IsRight layout h (call.Finalize slot) [] (answer_to says_ok result) after
  registered_right slot result after =
      quiet_is_right layout says_ok h (call.Finalize slot) refl refl (after_finalize layout h slot) result after
      (registered_same slot)

  -- the first message is taken, where these wait
  message_in : (w : World) (past : Past) → AreParts layout past h w → (index : ℕ) (entry : Entry Address) (found : Found (Option ℕ))
      → IsSlotEntry past h w index entry found → (ats : List Address) (ids : List Id) → ats ≡ map (address_of_id w.addresses) ids
      → Same (Leads layout says_message h past w) (Ok (message_into h entry ats)) (act_message_in w found ids)
  message_in w past parts index entry found is ats [] e =
      subst (λ xs. Same (Leads layout says_message h past w) (Ok (message_into h entry xs)) (act_message_in w found [])) (sym e)
      (fits (record { answer = refl; keeps = all_kept h; formats = refl; has = record { past = past; timed = refl; parts = parts } }))
  message_in w past parts index entry found is ats (id ∷ ids) e =
      let rest = map (address_of_id w.addresses) ids in
      let taken = finals_written layout past h w parts (record h.finals { messages = rest }) w.graph.registered ids parts.registered refl in
      subst (λ xs. Same (Leads layout says_message h past w) (Ok (message_into h entry xs)) (act_message_in w found (id ∷ ids))) (sym e)
      (fits (record {
        answer = refl;
        keeps = all_kept h;
        formats = refl;
        has = record {
          past = past;
          timed = refl;
          parts = slot_written layout past (with_finals h (record h.finals { messages = rest }))
              (with_graph w (record w.graph { messages = ids })) taken index entry found (address_of_id w.addresses id) (Some id)
              (record {
                list = is.list;
                kept = is.kept;
                lists = is.lists;
                number = is.number;
                has = is.has;
                index_is = is.index_is;
                found_index = is.found_index;
                there = is.there;
                value = is.value;
              }) refl;
        };
      }))

  message_same : (slot : Slot) → ComesToTheSame layout says_message h (call.Message slot) (message_taken h slot)
  message_same slot w past parts reached =
      same_then (slot_same layout past h w parts slot) (λ into found is.
      message_in w past parts slot.index into found is.fit h.finals.messages w.graph.messages parts.messages)

  pub message_right : (slot : Slot) (result : Checked Bool) (after : HeapState F) → Comes h (message_taken h slot) result after
      → IsRight layout h (call.Message slot) [] (answer_to says_message result) after
  message_right slot result after =
      quiet_is_right layout says_message h (call.Message slot) refl refl (message_taken h slot) result after (message_same slot)
