-- The first item of a list is dropped.
use Rattle.std.proofs.Common.{◌≡◌, ℕ, refl, sym, ◌∙◌, ap, subst, List, ◌∷◌, Option, Some, None, Ok, Err}
use Rattle.std.proofs.lemmas.Option.{same_Some}
use Rattle.std.specs.Prelude.{IfOk, Result, option_and_then, slice_get, slice_set}
use Rattle.mps_base.specs.declared.moves.Move.{Move}
use Rattle.mps_base.specs.declared.names.Slot.{Slot}
use Rattle.mps_base.specs.declared.refusal.Refusal.{Refusal}
use Rattle.mps_format.specs.Layout.{Layout}
use Rattle.mps_model.specs.declared.call.Call.TheVariants as call
use Rattle.mps_model.specs.declared.reply.Reply.TheVariants as reply
use Rattle.mps_model.specs.Accessing.{act_get}
use Rattle.mps_model.specs.Allocating.{with_slot}
use Rattle.mps_model.specs.Answer.{Replied}
use Rattle.mps_model.specs.Checked.{as_table, cells_of_body, object_in, reference_at, slot_in, with_graph}
use Rattle.mps_model.specs.Effect.{world_after_moves}
use Rattle.mps_model.specs.Graph.{Graph, entry_at, target_of_cell, thing_in}
use Rattle.mps_model.specs.History.{IsLegalStep, world_after}
use Rattle.mps_model.specs.LegalMove.{target_in_cell}
use Rattle.mps_model.specs.Reply.{world_from}
use Rattle.mps_model.specs.World.{World}
use Rattle.mps_laws.specs.Held.{slot_of_t}
use Rattle.mps_laws.proofs.Entries.{entry_at-written, slice_get-written}
use Rattle.mps_laws.proofs.Reading.{bind_ok, next_ok, slot_in_is, slot_is}
use Rattle.mps_client_laws.specs.Slots.{slot_value, value_found}
use Rattle.mps_client_laws.proofs.QuietCalls.{accepted_act, done_world}
use Rattle.mps_client_laws.proofs.WritesOfMoves.{moves_leave_objects}
use Rattle.mps_heap_spec.specs.State.{HeapState}
use Rattle.mps_refinement.specs.Answering.{answer_to, says_ok}
use Rattle.mps_refinement.specs.RightMoving.{IsRightMoving}
use Rattle.mps_refinement.specs.RightStep.{IsRight, step_of}
use Rattle.mps_heap_examples.specs.Listed.{HasList, IsList}
use Rattle.mps_heap_examples.proofs.Lists.{get_leaves, still_alone, still_item, still_list, still_ranked, target_is}
use Rattle.mps_heap_examples.proofs.Sums.{read}

-- ---- a slot that a `get` wrote is there

module _ (w : World) (ms : List Move) (slot : Slot) (cell : ℕ) where
  abbrev after_get : World
  after_get = world_after w (step_of 0 (call.Get slot slot cell) ms (Replied reply.Ok))

  abbrev moved : World
  moved = world_after_moves w ms

  got_value : IsLegalStep w (step_of 0 (call.Get slot slot cell) ms (Replied reply.Ok))
      → (x : Option ℕ) × (slot_value after_get slot ≡ Some x)
  got_value legal =
      let a = accepted_act (act_get w moved slot slot cell) (Replied reply.Ok) legal.answer_is_due refl in
      let into = bind_ok (slot_in w slot) _ a.0 a.1 in
      let from = bind_ok (slot_in w slot) _ a.0 into.2 in
      let object = bind_ok (object_in w from.0.value) _ a.0 from.2 in
      let checked = next_ok (reference_at (cells_of_body object.0.value.body) cell) _ a.0 object.2 in
      let now = bind_ok (object_in moved from.0.value) _ a.0 checked in
      let reference = bind_ok (reference_at (cells_of_body now.0.value.body) cell) _ a.0 now.2 in
      let x = reference.0 in
      let is = slot_is w slot into.0 into.1 in
      let left = moves_leave_objects w ms in
      let written : after_get.graph ≡ with_slot moved.graph into.0 x =
      ap (λ y. (world_from moved y).graph) a.1
      ∙ ap (λ (u : World). u.graph) (done_world (with_graph moved (with_slot moved.graph into.0 x)) a.0 reference.2) in (
        x,
        ap value_found (slot_in_is after_get slot into.0.number (slice_set into.0.list into.0.index x) x
            (ap (λ (g : Graph). option_and_then as_table (thing_in g.names slot.name)) written
            ∙ ap (λ ns. option_and_then as_table (thing_in ns slot.name)) left.names ∙ is.named)
            (ap (λ (g : Graph). entry_at g.tables into.0.number) written
            ∙ entry_at-written moved.graph.tables into.0.number into.0.list (Some (slice_set into.0.list into.0.index x))
            (ap (λ ts. entry_at ts into.0.number) left.tables ∙ is.table))
            (ap (λ i. slice_get (slice_set into.0.list i x) slot.index) is.at_index
            ∙ slice_get-written into.0.list slot.index into.0.value x is.value)),
      )

-- ---- the list without its first item

module _ {F : Type 0} (layout : F → Layout) (before after : HeapState F) (number : ℕ) (numbers : List ℕ) (ms : List Move)
    (h : HasList layout before (number ∷ numbers))
    (right : IsRight layout before (call.Get (slot_of_t 0) (slot_of_t 0) 2) ms (Replied reply.Ok) after) where
  dropped_from : (first : Option ℕ) → h.has.first ≡ first → IsList h.world.graph first (number ∷ numbers) → HasList layout after numbers
  dropped_from None is items = absurd items
  dropped_from (Some id) is (next, item, rest) =
      let w = h.world in
      let s = step_of 0 (call.Get (slot_of_t 0) (slot_of_t 0) 2) ms (Replied reply.Ok) in
      let there = right w 0 h.stands in
      let leaves = get_leaves (slot_of_t 0) (slot_of_t 0) 2 in
      let given = read w h.stands.reached s there.legal (slot_of_t 0) (slot_of_t 0) 2 refl refl in
      let same : given.object ≡ id = same_Some given.object id (sym given.read ∙ target_is w (slot_of_t 0) h.has.first h.has.slot ∙ is) in
      let after_item = still_item w s there.legal leaves id number next (h.has.alone id) item in
      let target = given.given ∙ ap (λ i. target_in_cell (world_after w s) i 2) same
      ∙ ap (option_and_then target_of_cell) after_item.next in
      let value = got_value w ms (slot_of_t 0) 2 there.legal in
      record {
        world = world_after w s;
        stands = there.stands;
        has = record {
          first = next;
          slot = value.1 ∙ ap Some (sym (target_is (world_after w s) (slot_of_t 0) value.0 value.1) ∙ target);
          items = still_list w s there.legal leaves h.has.alone next numbers rest;
          exact = still_ranked w s there.legal leaves _ _ h.has.exact;
          alone = λ i. still_alone w s there.legal leaves i (h.has.alone i);
        };
      }

module _ {F A : Type 0} (layout : F → Layout) (before after : HeapState F) (number : ℕ) (numbers : List ℕ)
    (h : HasList layout before (number ∷ numbers)) (target source : Slot) (into : target ≡ slot_of_t 0) (from : source ≡ slot_of_t 0)
    (trail trail_after : List Move) where
  pub first_dropped : (result : Result A Refusal)
      → IsRightMoving layout before (call.Get target source 2) trail trail_after (answer_to says_ok result) after
      → IfOk result (λ done. HasList layout after numbers)
  first_dropped (Err why) got = tt
  first_dropped (Ok a) got =
      dropped_from layout before after number numbers got.moves h
      (subst (λ t. IsRight layout before (call.Get t (slot_of_t 0) 2) got.moves (Replied reply.Ok) after) into
      (subst (λ s. IsRight layout before (call.Get target s 2) got.moves (Replied reply.Ok) after) from got.right))
      h.has.first refl h.has.items
