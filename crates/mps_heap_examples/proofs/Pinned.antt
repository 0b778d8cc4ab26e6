-- The first item of a list lies where it lay over a collection, if its address was written into a word of an area.
use Rattle.std.proofs.Common.{◌≡◌, ℕ, Bool, true, false, refl, sym, ◌∙◌, ap, subst, List, [], ◌∷◌, ◌++◌, append-nil, append_assoc, Some}
use Rattle.mps_base.specs.declared.moves.Move.{Move}
use Rattle.mps_base.specs.declared.names.Slot.{Slot}
use Rattle.mps_format.specs.Layout.{Layout}
use Rattle.mps_model.proofs.Appending.{IsLegalFrom-then, world_after_steps-append}
use Rattle.mps_model.specs.declared.call.Call.TheVariants as call
use Rattle.mps_model.specs.declared.reply.Reply.TheVariants as reply
use Rattle.mps_model.specs.Answer.{Replied, is_refused}
use Rattle.mps_model.specs.Graph.{contains, ids_of_client}
use Rattle.mps_model.specs.History.{IsLegalHistoryOf, IsLegalStep, world_after}
use Rattle.mps_model.specs.Step.{History, Step}
use Rattle.mps_model.specs.World.{World, address_of, empty_world_of, lies_in}
use Rattle.mps_laws.specs.Held.{slot_of_t, target_of_slot}
use Rattle.mps_laws.specs.Replay.{reached}
use Rattle.mps_laws.proofs.Reading.{slot_is_held}
use Rattle.mps_client_laws.specs.Pinning.{number_shown}
use Rattle.mps_client_laws.specs.Slots.{slot_value}
use Rattle.mps_client_laws.proofs.Pinning.{addresses_lie_inside, pinned_objects_lie_still}
use Rattle.mps_client_laws.proofs.Poking.{poke_shows_its_number}
use Rattle.mps_client_laws.proofs.SlotsStay.{slots_stay}
use Rattle.mps_heap_spec.specs.State.{HeapState}
use Rattle.mps_refinement.specs.Answering.{says_block}
use Rattle.mps_refinement.specs.RightMoving.{IsRightMoving}
use Rattle.mps_refinement.specs.RightStep.{IsRight, step_of}
use Rattle.mps_refinement.specs.StandsFor.{IsReached}
use Rattle.mps_heap_examples.specs.Addresses.{HasFirst, IsFirstAt}
use Rattle.mps_heap_examples.proofs.Lists.{target_is}
use Rattle.mps_heap_examples.proofs.Located.{still_first}
use Rattle.mps_heap_examples.proofs.Sums.{with_one_more}

-- a `poke` of the address of the object in slot 0, and then a `collect`
module _ (w : World) (has : IsReached w) (place : Slot) (first at : ℕ) (is : IsFirstAt w first at) (held : Bool)
    (collected : List Move) where
  abbrev poke : Step
  poke = step_of 0 (call.Poke place at) [] (says_block held)

  abbrev collect : Step
  collect = step_of 0 call.Collect collected (Replied reply.Ok)

  abbrev once_poked : World
  once_poked = world_after w poke

  abbrev once_collected : World
  once_collected = world_after once_poked collect

  -- a `poke` of a word writes no slot
  poked_first : IsFirstAt once_poked first at
  poked_first = still_first w poke first at refl refl is

  -- nor does a collection
  collected_slot : slot_value once_collected (slot_of_t 0) ≡ Some (Some first)
  collected_slot = slots_stay once_poked (collect ∷ []) (slot_of_t 0) (Some first) refl poked_first.slot

  module _ (legal_poke : IsLegalStep w poke) (legal_collect : IsLegalStep once_poked collect) where
    abbrev history : History
    history = has.history ++ poke ∷ []

    legal_history : IsLegalHistoryOf w.formats history
    legal_history = with_one_more w has poke legal_poke

    legal_all : IsLegalHistoryOf w.formats ((history ++ collect ∷ []) ++ [])
    legal_all =
        subst (IsLegalHistoryOf w.formats)
        (sym (append_assoc has.history (poke ∷ []) (collect ∷ [])) ∙ sym (append-nil (history ++ collect ∷ [])))
        (IsLegalFrom-then (empty_world_of w.formats) w has.history (poke ∷ collect ∷ []) (sym has.is) has.legal
        (legal_poke, (legal_collect, tt)))

    -- the worlds of the history are these
    at_poke : reached w.formats history ≡ once_poked
    at_poke =
        world_after_steps-append (empty_world_of w.formats) has.history (poke ∷ [])
        ∙ ap (λ v. world_after v poke) (sym has.is)

    at_end : reached w.formats (history ++ collect ∷ []) ≡ once_collected
    at_end = world_after_steps-append (empty_world_of w.formats) history (collect ∷ []) ∙ ap (λ v. world_after v collect) at_poke

    not_refused : (b : Bool) → is_refused (says_block b) ≡ false
    not_refused true = refl
    not_refused false = refl

    shown : number_shown once_poked place ≡ Some at
    shown =
        subst (λ v. number_shown (world_after v poke) place ≡ Some at) (sym has.is)
        (poke_shows_its_number w.formats has.history [] poke place at legal_history refl (not_refused held))

    refers : target_of_slot once_poked (slot_of_t 0) ≡ Some first
    refers = target_is once_poked (slot_of_t 0) (Some first) poked_first.slot

    inside : lies_in once_poked at first ≡ true
    inside =
        subst (λ v. lies_in v at first ≡ true) at_poke
        (addresses_lie_inside w.formats history (slot_of_t 0) first at legal_history
        (subst (λ v. target_of_slot v (slot_of_t 0) ≡ Some first) (sym at_poke) refers)
        (subst (λ v. address_of v first ≡ Some at) (sym at_poke) poked_first.lies))

    pub first_is_pinned : IsFirstAt once_collected first at
    first_is_pinned = record {
      slot = collected_slot;
      lies = ap (λ v. address_of v first) (sym at_end)
          ∙ pinned_objects_lie_still w.formats history (collect ∷ []) [] place at first at legal_all
          (subst (λ v. contains (ids_of_client v.graph) first ≡ true) (sym at_poke)
          (slot_is_held once_poked (slot_of_t 0) first refers))
          (subst (λ v. address_of v first ≡ Some at) (sym at_poke) poked_first.lies)
          (subst (λ v. number_shown v place ≡ Some at) (sym at_poke) shown)
          (subst (λ v. lies_in v at first ≡ true) (sym at_poke) inside) refl;
    }

-- ---- calls of a heap

module _ {F : Type 0} (layout : F → Layout) (before poked : HeapState F) (place : Slot) (at : ℕ) (held : Bool)
    (pokes : IsRight layout before (call.Poke place at) [] (says_block held) poked) (h : HasFirst layout IsFirstAt before at) where
  pub first_poked : HasFirst layout IsFirstAt poked at
  first_poked = record {
    world = once_poked h.world h.stands.reached place h.first at h.is held [];
    stands = (pokes h.world 0 h.stands).stands;
    first = h.first;
    is = poked_first h.world h.stands.reached place h.first at h.is held [];
  }

  pub first_pinned : (after : HeapState F) (trail trail_after : List Move)
      → IsRightMoving layout poked call.Collect trail trail_after (Replied reply.Ok) after → HasFirst layout IsFirstAt after at
  first_pinned after trail trail_after collects =
      let w = h.world in
      let one = pokes w 0 h.stands in
      let two = collects.right (once_poked w h.stands.reached place h.first at h.is held collects.moves) 0 one.stands in
      record {
        world = once_collected w h.stands.reached place h.first at h.is held collects.moves;
        stands = two.stands;
        first = h.first;
        is = first_is_pinned w h.stands.reached place h.first at h.is held collects.moves one.legal two.legal;
      }
