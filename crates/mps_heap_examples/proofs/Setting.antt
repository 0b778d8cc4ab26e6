-- The number of the first item of a list is read and written: the other items are other objects, and stay.
use Rattle.std.proofs.Common.{◌≡◌, ℕ, suc, ◌<◌, Bool, true, false, refl, sym, ◌∙◌, ap, subst, List, [], ◌∷◌, length, Option, Some, None, Ok, Err, arith}
use Rattle.std.proofs.lemmas.Bool.{ne_eqb}
use Rattle.std.proofs.lemmas.Option.{same_Some}
use Rattle.std.specs.Prelude.{not, ◌&&◌, ◌==◌, IfOk, Result}
use Rattle.mps_base.specs.declared.names.Slot.{Slot}
use Rattle.mps_base.specs.declared.refusal.Refusal.{Refusal}
use Rattle.mps_format.specs.Layout.{Layout}
use Rattle.mps_model.specs.declared.call.Call.{Call}
use Rattle.mps_model.specs.declared.call.Call.TheVariants as call
use Rattle.mps_model.specs.declared.reply.Reply.TheVariants as reply
use Rattle.mps_model.specs.Answer.{Replied, is_accepted}
use Rattle.mps_model.specs.Checked.{Act, cells_of_body, number_at, object_in, slot_in}
use Rattle.mps_model.specs.Graph.{Graph, NumberCell, ReferenceCell, object_at}
use Rattle.mps_model.specs.History.{IsLegalStep, world_after}
use Rattle.mps_model.specs.Reply.{act}
use Rattle.mps_model.specs.Step.{Step}
use Rattle.mps_model.specs.World.{World}
use Rattle.mps_changes.specs.Change.{ForAct, accepted}
use Rattle.mps_changes.proofs.Checks.{after_check, andthen, for_world}
use Rattle.mps_laws.specs.Held.{letter, slot_of_t, target_of_slot}
use Rattle.mps_client_laws.specs.Collecting.{is_dependent}
use Rattle.mps_client_laws.specs.Objects.{cell_at, is_this, writes_cell}
use Rattle.mps_client_laws.proofs.LastingCells.{lasting_cells_stay}
use Rattle.mps_client_laws.proofs.Objects.{identity_after_step}
use Rattle.mps_client_laws.proofs.QuietCalls.{IsQuiet, act_in, quiet_answer, quiet_world}
use Rattle.mps_client_laws.proofs.ReadingBack.{number_is_answered, quiet_graph, set_number_leaves}
use Rattle.mps_client_laws.specs.Slots.{writes_slot}
use Rattle.mps_client_laws.proofs.SlotsStay.{slots_stay}
use Rattle.mps_heap_spec.specs.State.{HeapState}
use Rattle.mps_refinement.specs.Answering.{answer_to, says_ok}
use Rattle.mps_refinement.specs.RightStep.{IsRight, step_of}
use Rattle.mps_heap_examples.specs.Listed.{HasList, HasListIn, IsItem, IsList}
use Rattle.mps_heap_examples.proofs.Lists.{LeavesAround, nothing_around, strong_object, target_is}
use Rattle.mps_heap_examples.proofs.Points.{same_rank}

-- ---- an object begins one list

module _ (g : Graph) where
  one_next : (id number other : ℕ) (next following : Option ℕ) → IsItem g id number next → IsItem g id other following
      → next ≡ following
  one_next id number other next following item again =
      let e : ReferenceCell next item.tag ≡ ReferenceCell following again.tag =
      same_Some (ReferenceCell next item.tag) (ReferenceCell following again.tag) (sym item.next ∙ again.next) in
      cc

  same_length : (first : Option ℕ) (xs ys : List ℕ) → IsList g first xs → IsList g first ys → length xs ≡ length ys
  same_length None [] [] list again = refl
  same_length None (x ∷ xs) ys list again = absurd list
  same_length None [] (y ∷ ys) list again = absurd again
  same_length (Some id) [] ys list again = absurd list
  same_length (Some id) (x ∷ xs) [] list again = absurd again
  same_length (Some id) (x ∷ xs) (y ∷ ys) (next, item, rest) (following, other, more) =
      let e = one_next id x y next following item other in
      ap suc (same_length following xs ys (subst (λ o. IsList g o xs) e rest) more)

  -- a shorter list begins with another object
  other_begins : (id other : ℕ) (all part : List ℕ) → IsList g (Some id) all → IsList g (Some other) part → length part < length all
      → id ≡ other → ⊥
  other_begins id other all part list shorter less same =
      let e = same_length (Some other) part all shorter (subst (λ n. IsList g (Some n) all) same list) in omega (arith, e, less)

-- ---- an accepted `setnum` of the first item

set_is_quiet : (slot : Slot) (k value : ℕ) → IsQuiet (call.SetNumber slot k value)
set_is_quiet slot k value = record { none = λ w a ms e. e; world = λ w a. refl; reply = λ m w. refl }

number_is_quiet : (slot : Slot) (k : ℕ) → IsQuiet (call.Number slot k)
number_is_quiet slot k = record { none = λ w a ms e. e; world = λ w a. refl; reply = λ m w. refl }

set_around : (slot : Slot) (k value : ℕ) (v : World)
    → ForAct (λ u. LeavesAround v.graph u.graph) (act false v v (call.SetNumber slot k value))
set_around slot k value v =
    andthen (slot_in v slot) (λ into.
    andthen (object_in v into.value) (λ object.
    after_check (number_at (cells_of_body object.value.body) k) (accepted (nothing_around _ _ refl refl refl))))

another_cell : (b : Bool) → (b && false) ≡ false
another_cell true = refl
another_cell false = refl

module _ (w : World) (s : Step) (legal : IsLegalStep w s) (number : ℕ) (is : s.call ≡ call.SetNumber (slot_of_t 0) 1 number)
    (ok : s.answer ≡ Replied reply.Ok) (id : ℕ) (refers : target_of_slot w (slot_of_t 0) ≡ Some id) where
  abbrev setting : Call
  setting = call.SetNumber (slot_of_t 0) 1 number

  abbrev is_set : IsQuiet setting
  is_set = set_is_quiet (slot_of_t 0) 1 number

  set_graph : (a : Act) × (act_in w setting ≡ Ok a) × ((world_after w s).graph ≡ a.world.graph)
  set_graph = quiet_graph setting is_set w s legal is (subst (λ a. is_accepted a ≡ true) (sym ok) refl)

  around : LeavesAround w.graph (world_after w s).graph
  around =
      subst (λ g. LeavesAround w.graph g) (sym (ap (λ (u : World). u.graph) (quiet_world setting is_set w s legal is)))
      (for_world (λ u. LeavesAround w.graph u.graph) w (act_in w setting) (set_around (slot_of_t 0) 1 number w)
      (nothing_around w.graph w.graph refl refl refl))

  next_unwritten : writes_cell w s.call id 2 ≡ false
  next_unwritten = ap (λ c. writes_cell w c id 2) is ∙ another_cell (is_this id (target_of_slot w (slot_of_t 0)))

  other_unwritten : (other k : ℕ) → (id ≡ other → ⊥) → writes_cell w s.call other k ≡ false
  other_unwritten other k unlike =
      ap (λ c. writes_cell w c other k) is ∙ ap (λ t. is_this other t && (1 == k)) refers
      ∙ ap (λ b. b && (1 == k)) (ne_eqb id other unlike)

  set_item : (old : ℕ) (next : Option ℕ) → is_dependent w.graph id ≡ false → IsItem w.graph id old next
      → IsItem (world_after w s).graph id number next
  set_item old next alone item = record {
    identity = item.identity;
    there = identity_after_step w s id item.identity item.there;
    strong = item.strong;
    number = ap (λ g. cell_at g id 1) set_graph.2
        ∙ set_number_leaves w (slot_of_t 0) id 1 refers number set_graph.0 set_graph.1;
    tag = item.tag;
    next = lasting_cells_stay w s id 2 (ReferenceCell next item.tag) legal
        (strong_object (object_at w.graph id) item.identity item.there item.strong) alone next_unwritten item.next;
  }

  still_other_item : (other n : ℕ) (next : Option ℕ) → (id ≡ other → ⊥) → is_dependent w.graph other ≡ false
      → IsItem w.graph other n next → IsItem (world_after w s).graph other n next
  still_other_item other n next unlike alone item =
      let strong = strong_object (object_at w.graph other) item.identity item.there item.strong in
      record {
        identity = item.identity;
        there = identity_after_step w s other item.identity item.there;
        strong = item.strong;
        number = lasting_cells_stay w s other 1 (NumberCell n) legal strong alone (other_unwritten other 1 unlike) item.number;
        tag = item.tag;
        next = lasting_cells_stay w s other 2 (ReferenceCell next item.tag) legal strong alone (other_unwritten other 2 unlike)
            item.next;
      }

  module _ (all : List ℕ) (list : IsList w.graph (Some id) all) (alone : (i : ℕ) → is_dependent w.graph i ≡ false) where
    still_rest : (first : Option ℕ) (part : List ℕ) → length part < length all → IsList w.graph first part
        → IsList (world_after w s).graph first part
    still_rest None [] less rest = tt
    still_rest None (n ∷ ns) less rest = absurd rest
    still_rest (Some other) [] less rest = absurd rest
    still_rest (Some other) (n ∷ ns) less (next, item, rest) = (
      next,
      still_other_item other n next (other_begins w.graph id other all (n ∷ ns) list (next, item, rest) less) (alone other) item,
      still_rest next ns (omega (arith, less)) rest,
    )

  pub set_in_list : (old : ℕ) (numbers : List ℕ) (h : HasListIn w (old ∷ numbers)) → h.first ≡ Some id
      → HasListIn (world_after w s) (number ∷ numbers)
  set_in_list old numbers h first =
      let list : IsList w.graph (Some id) (old ∷ numbers) = subst (λ o. IsList w.graph o (old ∷ numbers)) first h.items in
      record {
        first = Some id;
        slot = slots_stay w (s ∷ []) (slot_of_t 0) (Some id) (ap (λ c. not (writes_slot w c (slot_of_t 0)) && true) is)
            (h.slot ∙ ap Some first);
        items = (
          list.0,
          set_item old list.0 (h.alone id) list.1,
          still_rest (old ∷ numbers) list h.alone list.0 numbers (omega arith) list.2,
        );
        exact = same_rank w (world_after w s) (letter 120) around.ranks ∙ h.exact;
        alone = λ i. ap (λ ps. is_dependent (record w.graph { dependents = ps }) i) around.dependents ∙ h.alone i;
      }

  pub set_first_is : (old : ℕ) (numbers : List ℕ) (h : HasListIn w (old ∷ numbers)) (first : h.first ≡ Some id)
      → (set_in_list old numbers h first).first ≡ Some id
  unfolding set_in_list
  set_first_is old numbers h first = refl

-- ---- calls of a heap

-- a list with a number has an item
pub first_of : (w : World) (number : ℕ) (numbers : List ℕ) (h : HasListIn w (number ∷ numbers)) → (id : ℕ) × (h.first ≡ Some id)
first_of w number numbers h = by_first h.first refl h.items
  where
    by_first : (first : Option ℕ) → h.first ≡ first → IsList w.graph first (number ∷ numbers) → (id : ℕ) × (h.first ≡ Some id)
    by_first None is items = absurd items
    by_first (Some id) is items = (id, is)

module _ {F : Type 0} (layout : F → Layout) (before : HeapState F) (slot : Slot) (is : slot ≡ slot_of_t 0) (number : ℕ) (numbers : List ℕ)
    (h : HasList layout before (number ∷ numbers)) where
  first : (id : ℕ) × (h.has.first ≡ Some id)
  first = first_of h.world number numbers h.has

  refers_first : target_of_slot h.world (slot_of_t 0) ≡ Some first.0
  refers_first = target_is h.world (slot_of_t 0) h.has.first h.has.slot ∙ first.1

  -- `num` answers the first number
  pub first_read : (answered : ℕ) → IsRight layout before (call.Number slot 1) [] (Replied (reply.Number answered)) before
      → answered ≡ number
  first_read answered right =
      let c = call.Number (slot_of_t 0) 1 in
      let s = step_of 0 c [] (Replied (reply.Number answered)) in
      let there = subst (λ t. IsRight layout before (call.Number t 1) [] (Replied (reply.Number answered)) before) is right h.world 0
      h.stands in
      let list = subst (λ o. IsList h.world.graph o (number ∷ numbers)) first.1 h.has.items in
      number_is_answered h.world (slot_of_t 0) first.0 1 refers_first number answered list.1.number
      (quiet_answer c (number_is_quiet (slot_of_t 0) 1) h.world s there.legal refl)

  -- after an accepted `setnum` it is the one that was written
  pub first_set : {A : Type 0} (after : HeapState F) (value : ℕ) (result : Result A Refusal)
      → IsRight layout before (call.SetNumber slot 1 value) [] (answer_to says_ok result) after
      → IfOk result (λ done. HasList layout after (value ∷ numbers))
  first_set after value (Err why) right = tt
  first_set after value (Ok a) right =
      let s = step_of 0 (call.SetNumber (slot_of_t 0) 1 value) [] (Replied reply.Ok) in
      let there = subst (λ t. IsRight layout before (call.SetNumber t 1 value) [] (Replied reply.Ok) after) is right h.world 0 h.stands in
      record {
        world = world_after h.world s;
        stands = there.stands;
        has = set_in_list h.world s there.legal value refl refl first.0 refers_first number numbers h.has first.1;
      }
