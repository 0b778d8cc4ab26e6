-- A number that is written into the first item of a list is read again after a collection.
use Rattle.std.proofs.Common.{◌≡◌, ℕ, true, refl, sym, ◌∙◌, ap, subst, List, [], ◌∷◌, ◌++◌, append_assoc, Some, Ok, Err}
use Rattle.std.specs.Prelude.{◌&&◌, IfOk, Result}
use Rattle.mps_base.specs.declared.moves.Move.{Move}
use Rattle.mps_base.specs.declared.names.Slot.{Slot}
use Rattle.mps_base.specs.declared.refusal.Refusal.{Refusal}
use Rattle.mps_format.specs.Layout.{Layout}
use Rattle.mps_model.proofs.Appending.{IsLegalFrom-then, world_after_steps-append}
use Rattle.mps_model.specs.declared.call.Call.TheVariants as call
use Rattle.mps_model.specs.declared.reply.Reply.TheVariants as reply
use Rattle.mps_model.specs.Answer.{Replied}
use Rattle.mps_model.specs.Graph.{object_at}
use Rattle.mps_model.specs.History.{IsLegalHistoryOf, IsLegalStep, world_after, world_after_steps}
use Rattle.mps_model.specs.Step.{Step}
use Rattle.mps_model.specs.World.{World, empty_world_of}
use Rattle.mps_laws.specs.Held.{slot_of_t, target_of_slot}
use Rattle.mps_laws.specs.Replay.{reached}
use Rattle.mps_client_laws.specs.Objects.{leave_cell}
use Rattle.mps_client_laws.proofs.Collecting.{legal_moves_leave_lasting}
use Rattle.mps_client_laws.proofs.ReadingBack.{num_answers_what_was_set}
use Rattle.mps_heap_spec.specs.State.{HeapState}
use Rattle.mps_refinement.specs.Answering.{answer_to, says_number}
use Rattle.mps_refinement.specs.RightMoving.{IsRightMoving}
use Rattle.mps_refinement.specs.RightStep.{IsRight, step_of}
use Rattle.mps_refinement.specs.StandsFor.{IsReached}
use Rattle.mps_heap_examples.specs.Listed.{HasList, HasListIn, IsList}
use Rattle.mps_heap_examples.proofs.Lists.{collect_leaves, still_first, still_listed, strong_object, target_is}
use Rattle.mps_heap_examples.proofs.Setting.{first_of, set_first_is, set_in_list}

-- a `setnum` of the first item, a `collect` and a `num` of it
module _ (w : World) (is : IsReached w) (number answered : ℕ) (collected : List Move) where
  abbrev set : Step
  set = step_of 0 (call.SetNumber (slot_of_t 0) 1 number) [] (Replied reply.Ok)

  abbrev collect : Step
  collect = step_of 0 call.Collect collected (Replied reply.Ok)

  abbrev num : Step
  num = step_of 0 (call.Number (slot_of_t 0) 1) [] (Replied (reply.Number answered))

  abbrev once_set : World
  once_set = world_after w set

  abbrev once_collected : World
  once_collected = world_after once_set collect

  module _ (legal_set : IsLegalStep w set) (legal_collect : IsLegalStep once_set collect)
      (legal_num : IsLegalStep once_collected num) where
    legal_all : IsLegalHistoryOf w.formats ((is.history ++ set ∷ collect ∷ []) ++ num ∷ [])
    legal_all =
        subst (IsLegalHistoryOf w.formats) (sym (append_assoc is.history (set ∷ collect ∷ []) (num ∷ [])))
        (IsLegalFrom-then (empty_world_of w.formats) w is.history (set ∷ collect ∷ num ∷ []) (sym is.is) is.legal
        (legal_set, (legal_collect, (legal_num, tt))))

    at_read : reached w.formats (is.history ++ set ∷ collect ∷ []) ≡ once_collected
    at_read =
        world_after_steps-append (empty_world_of w.formats) is.history (set ∷ collect ∷ [])
        ∙ ap (λ v. world_after_steps v (set ∷ collect ∷ [])) (sym is.is)

    -- the collection leaves the cell of an item
    collect_leaves_cell : (id : ℕ) (numbers : List ℕ) (h : HasListIn once_set (number ∷ numbers)) → h.first ≡ Some id
        → leave_cell once_set (collect ∷ []) id 1 ≡ true
    collect_leaves_cell id numbers h first =
        let item = (subst (λ o. IsList once_set.graph o (number ∷ numbers)) first h.items).1 in
        let strong = strong_object (object_at once_set.graph id) item.identity item.there item.strong in
        ap (λ b. b && true) (legal_moves_leave_lasting once_set _ collected id 1 strong (h.alone id) legal_collect.moves_are_legal)

    pub read_again : (old : ℕ) (numbers : List ℕ) → HasListIn w (old ∷ numbers) → answered ≡ number
    read_again old numbers h =
        let first = first_of w old numbers h in
        let id = first.0 in
        let refers = target_is w (slot_of_t 0) h.first h.slot ∙ first.1 in
        let then = set_in_list w set legal_set number refl refl id refers old numbers h first.1 in
        let later = still_listed once_set collect legal_collect collect_leaves (number ∷ numbers) refl then in
        let same : later.first ≡ Some id =
        still_first once_set collect legal_collect collect_leaves (number ∷ numbers) refl then
        ∙ set_first_is w set legal_set number refl refl id refers old numbers h first.1 in
        let reads = target_is once_collected (slot_of_t 0) later.first later.slot ∙ same in
        num_answers_what_was_set w.formats is.history (collect ∷ []) [] set num (slot_of_t 0) (slot_of_t 0) 1 number answered id
        (record { legal = legal_all; accepted = refl }) refl (subst (λ v. target_of_slot v (slot_of_t 0) ≡ Some id) is.is refers)
        (subst (λ v. leave_cell (world_after v set) (collect ∷ []) id 1 ≡ true) is.is
        (collect_leaves_cell id numbers then (set_first_is w set legal_set number refl refl id refers old numbers h first.1)))
        refl refl (subst (λ v. target_of_slot v (slot_of_t 0) ≡ Some id) (sym at_read) reads)

-- ---- calls of a heap

module _ {F : Type 0} (layout : F → Layout) (before set after : HeapState F) (slot again : Slot) (is : slot ≡ slot_of_t 0)
    (is_again : again ≡ slot_of_t 0) (number old : ℕ) (numbers : List ℕ) (h : HasList layout before (old ∷ numbers))
    (sets : IsRight layout before (call.SetNumber slot 1 number) [] (Replied reply.Ok) set) (trail trail_after : List Move)
    (collects : IsRightMoving layout set call.Collect trail trail_after (Replied reply.Ok) after) where
  pub first_read_again : (result : Result ℕ Refusal)
      → IsRight layout after (call.Number again 1) [] (answer_to says_number result) after → IfOk result (λ found. found ≡ number)
  first_read_again (Err why) reads = tt
  first_read_again (Ok answered) reads =
      let w = h.world in
      let one = subst (λ t. IsRight layout before (call.SetNumber t 1 number) [] (Replied reply.Ok) set) is sets w 0 h.stands in
      let two = collects.right (once_set w h.stands.reached number answered collects.moves) 0 one.stands in
      let three = subst (λ t. IsRight layout after (call.Number t 1) [] (Replied (reply.Number answered)) after) is_again reads
      (once_collected w h.stands.reached number answered collects.moves) 0 two.stands in
      read_again w h.stands.reached number answered collects.moves one.legal two.legal three.legal old numbers h.has
