-- After a collection each item of a list is live: a path of references leads to it from the slot in which the list begins.
use Rattle.std.proofs.Common.{◌≡◌, ℕ, zero, suc, true, false, true≢false, refl, sym, ◌∙◌, ap, subst, List, [], ◌∷◌, ◌++◌, append-nil, map, Option, Some, None}
use Rattle.std.proofs.lemmas.Bool.{eq-eqb, or_left, or_right}
use Rattle.std.proofs.lemmas.Option.{none-some, same_Some, slice_get-map}
use Rattle.std.specs.Prelude.{◌==◌, if◌then◌else◌, option_and_then, option_map, slice_get}
use Rattle.std.specs.Option.{option_map_or}
use Rattle.mps_base.specs.declared.moves.Move.{Move}
use Rattle.mps_format.specs.Layout.{Layout}
use Rattle.mps_model.specs.declared.call.Call.TheVariants as call
use Rattle.mps_model.specs.declared.reply.Reply.TheVariants as reply
use Rattle.mps_model.specs.Answer.{Replied}
use Rattle.mps_model.specs.Checked.{cells_of_body}
use Rattle.mps_model.specs.Graph.{Automatic, Body, Cell, Manual, Object, ReferenceCell, contains, empty_graph, entries, ids_in_holds, ids_in_slots, is_weak_object, object_at, strong_targets, strong_targets_of, target_of_cell, targets_of_cells}
use Rattle.mps_model.specs.History.{IsLegalStep, world_after}
use Rattle.mps_model.specs.LegalMove.{target_in_cell}
use Rattle.mps_model.specs.Reachable.{begins, goes_on}
use Rattle.mps_model.specs.World.{World, empty_world, is_live}
use Rattle.mps_laws.specs.Held.{slot_of_t, target_of_slot}
use Rattle.mps_laws.proofs.Reading.{contains-append_left, slot_is_held}
use Rattle.mps_client_laws.specs.Collecting.{IsReached, is_dependent}
use Rattle.mps_client_laws.proofs.Collecting.{collect_leaves_what_is_reached}
use Rattle.mps_heap_spec.specs.State.{HeapState}
use Rattle.mps_refinement.specs.RightMoving.{IsRightMoving}
use Rattle.mps_refinement.specs.RightStep.{step_of}
use Rattle.mps_refinement.specs.StandsFor.{IsReached as HasHistory}
use Rattle.mps_heap_examples.specs.Listed.{AreLive, HasList, HasLiveList, IsItem, IsList}
use Rattle.mps_heap_examples.proofs.Lists.{collect_leaves, still_first, still_item, still_listed, strong_object, target_is}
use Rattle.mps_heap_examples.proofs.Sums.{with_one_more}

-- ---- references

in_entries : (xs : List (Option ℕ)) (k id : ℕ) → slice_get xs k ≡ Some (Some id) → contains (entries xs) id ≡ true
in_entries [] k id there = absurd (none-some (Some id) there)
in_entries (None ∷ xs) zero id there = absurd (none-some id (same_Some None (Some id) there))
in_entries (Some n ∷ xs) zero id there =
    or_left (n == id) (contains (entries xs) id) (eq-eqb n id (same_Some n id (same_Some (Some n) (Some id) there)))
in_entries (None ∷ xs) (suc k) id there = in_entries xs k id there
in_entries (Some n ∷ xs) (suc k) id there = or_right (n == id) (contains (entries xs) id) (in_entries xs k id there)

in_cells : (cells : List Cell) (k id tag : ℕ) → slice_get cells k ≡ Some (ReferenceCell (Some id) tag)
    → contains (targets_of_cells cells) id ≡ true
in_cells cells k id tag there =
    in_entries (map target_of_cell cells) k id (slice_get-map target_of_cell cells k ∙ ap (option_map target_of_cell) there)

-- what an object refers to that isn't weak
in_object : (o : Option Object) (k id tag : ℕ) → option_map_or is_weak_object o false ≡ false
    → option_and_then (λ (x : Object). slice_get (cells_of_body x.body) k) o ≡ Some (ReferenceCell (Some id) tag)
    → contains (option_map_or strong_targets_of o []) id ≡ true
in_object None k id tag strong there = absurd (none-some (ReferenceCell (Some id) tag) there)
in_object (Some x) k id tag strong there = of_body x.body strong there
  where
    of_body : (b : Body) → is_weak_object (record x { body = b }) ≡ false
        → slice_get (cells_of_body b) k ≡ Some (ReferenceCell (Some id) tag)
        → contains (strong_targets_of (record x { body = b })) id ≡ true
    of_body (Manual words) strong there = absurd (none-some (ReferenceCell (Some id) tag) there)
    of_body (Automatic head cells true) strong there = absurd (true≢false strong)
    of_body (Automatic head cells false) strong there = in_cells cells k id tag there

module _ (w : World) where
  -- what a slot refers to is in a slot
  in_slots : (id : ℕ) → target_of_slot w (slot_of_t 0) ≡ Some id → contains (ids_in_slots w.graph) id ≡ true
  in_slots id refers =
      let alone = record empty_world { graph = record empty_graph { tables = w.graph.tables; names = w.graph.names } } in
      let ids = ids_in_slots w.graph in
      subst (λ xs. contains xs id ≡ true)
      (append-nil ((ids ++ []) ++ []) ∙ append-nil (ids ++ []) ∙ append-nil ids)
      (slot_is_held alone (slot_of_t 0) id refers)

  first_reached : (id : ℕ) → target_of_slot w (slot_of_t 0) ≡ Some id → IsReached w.graph id
  first_reached id refers =
      let slots = ids_in_slots w.graph in
      let holds = ids_in_holds w.graph in
      begins {id = id}
      (contains-append_left (slots ++ holds) w.graph.messages id (contains-append_left slots holds id (in_slots id refers)))

  next_reached : (id number next : ℕ) → is_dependent w.graph id ≡ false → IsItem w.graph id number (Some next) → IsReached w.graph id
      → IsReached w.graph next
  next_reached id number next alone item reached =
      let strong = strong_object (object_at w.graph id) item.identity item.there item.strong in
      goes_on {to = next} reached
      (ap (λ b. contains (if b then [] else strong_targets w.graph id) next) alone
      ∙ in_object (object_at w.graph id) 2 next item.tag strong item.next)

-- ---- a collection

module _ (w : World) (has : HasHistory w) (ms : List Move)
    (legal : IsLegalStep w (step_of 0 call.Collect ms (Replied reply.Ok))) (alone : (i : ℕ) → is_dependent w.graph i ≡ false) where
  abbrev after : World
  after = world_after w (step_of 0 call.Collect ms (Replied reply.Ok))

  live_after : (id : ℕ) → IsReached w.graph id → is_live after id ≡ true
  live_after id reached =
      let s = step_of 0 call.Collect ms (Replied reply.Ok) in
      subst (λ v. is_live (world_after v s) id ≡ true) (sym has.is)
      (collect_leaves_what_is_reached w.formats has.history [] s id (with_one_more w has s legal) refl refl
      (subst (λ v. IsReached v.graph id) has.is reached)).live

  pub items_live : (first : Option ℕ) (numbers : List ℕ) → IsList w.graph first numbers
      → ((id : ℕ) → first ≡ Some id → IsReached w.graph id) → AreLive after first numbers
  items_live None numbers list reached = tt
  items_live (Some id) [] list reached = tt
  items_live (Some id) (number ∷ numbers) (next, item, rest) reached =
      let s = step_of 0 call.Collect ms (Replied reply.Ok) in
      let kept = still_item w s legal collect_leaves id number next (alone id) item in
      let to : target_in_cell after id 2 ≡ next = ap (option_and_then target_of_cell) kept.next in (
        live_after id (reached id refl),
        subst (λ o. AreLive after o numbers) (sym to)
            (items_live next numbers rest (λ other is.
            next_reached w id number other (alone id) (subst (IsItem w.graph id number) is item) (reached id refl))),
      )

-- ---- a call of a heap

module _ {F : Type 0} (layout : F → Layout) (before after : HeapState F) (trail trail_after : List Move) where
  pub collect_leaves_live : IsRightMoving layout before call.Collect trail trail_after (Replied reply.Ok) after → (numbers : List ℕ)
      → HasList layout before numbers → HasLiveList layout after numbers
  collect_leaves_live collected numbers h =
      let w = h.world in
      let s = step_of 0 call.Collect collected.moves (Replied reply.Ok) in
      let there = collected.right w 0 h.stands in
      let refers = target_is w (slot_of_t 0) h.has.first h.has.slot in
      record {
        world = world_after w s;
        stands = there.stands;
        has = still_listed w s there.legal collect_leaves numbers refl h.has;
        live = subst (λ o. AreLive (world_after w s) o numbers)
            (sym (still_first w s there.legal collect_leaves numbers refl h.has))
            (items_live w h.stands.reached collected.moves there.legal h.has.alone h.has.first numbers h.has.items
            (λ id is. first_reached w id (refers ∙ is)));
      }
