-- A legal step leaves a list, if its call writes no cell and not the slot in which the list begins.
use Rattle.std.proofs.Common.{◌≡◌, ℕ, Bool, false, true, refl, sym, ◌∙◌, ap, subst, List, [], ◌∷◌, Option, Some, None, Ok, Err}
use Rattle.std.proofs.lemmas.Option.{none-some, same_Some}
use Rattle.std.specs.Prelude.{not, ◌&&◌, option_map}
use Rattle.std.specs.Option.{option_map_or}
use Rattle.mps_base.specs.declared.moves.Move.{Move}
use Rattle.mps_base.specs.declared.names.Name.{Name}
use Rattle.mps_base.specs.declared.names.Rank.{Rank}
use Rattle.mps_base.specs.declared.names.Rank.TheVariants.{Exact}
use Rattle.mps_base.specs.declared.names.Slot.{Slot}
use Rattle.mps_format.specs.Layout.{Layout}
use Rattle.mps_model.specs.declared.call.Call.{Call}
use Rattle.mps_model.specs.declared.call.Call.TheVariants as call
use Rattle.mps_model.specs.Answer.{Answer, Replied, is_block}
use Rattle.mps_model.specs.declared.reply.Reply.TheVariants as reply
use Rattle.mps_model.specs.Step.{Step}
use Rattle.mps_model.specs.Graph.{Graph, Object, NumberCell, ReferenceCell, is_weak_object, object_at}
use Rattle.mps_model.specs.World.{World}
use Rattle.mps_model.specs.Checked.{Checked, Found, as_point, cells_of_body, number_named, point_named, reference_at, slot_in, object_in}
use Rattle.mps_model.specs.Effect.{world_after_moves}
use Rattle.mps_model.specs.Policy.{units_asked}
use Rattle.mps_model.specs.Reply.{act}
use Rattle.mps_model.specs.History.{IsLegalStep, after_its_moves, after_own_segment, asking, judged_world, moved_world, moves_of_poll, own_segment, world_after}
use Rattle.mps_changes.specs.Change.{ForAct, accepted}
use Rattle.mps_changes.proofs.Checks.{after_check, andthen, for_world}
use Rattle.mps_laws.specs.Held.{letter, slot_of_t, target_found, target_of_slot}
use Rattle.mps_laws.proofs.OwnSegments.{own_segment_taken}
use Rattle.mps_client_laws.specs.Collecting.{is_dependent}
use Rattle.mps_client_laws.specs.Objects.{Identity, identity_of, writes_cell}
use Rattle.mps_client_laws.specs.Slots.{slot_value, value_found, writes_slot}
use Rattle.mps_client_laws.proofs.Collecting.{moves_roots}
use Rattle.mps_client_laws.proofs.LastingCells.{lasting_cells_stay}
use Rattle.mps_client_laws.proofs.Objects.{identity_after_step}
use Rattle.mps_client_laws.proofs.SlotsStay.{slots_stay}
use Rattle.mps_heap_spec.specs.State.{HeapState}
use Rattle.mps_refinement.specs.RightMoving.{IsRightMoving}
use Rattle.mps_refinement.specs.RightStep.{IsRight, step_of}
use Rattle.mps_heap_examples.specs.Listed.{HasList, HasListIn, IsItem, IsList, rank_found}
use Rattle.mps_heap_examples.proofs.Points.{KeepsRanks, moves_keep_ranks, ranks, ranks_then, same_rank}

-- ---- what moves leave of dependents

asking_graph : (asked : Option ℕ) (w : World) → (asking asked w).graph ≡ w.graph
asking_graph None w = refl
asking_graph (Some units) w = refl

own_segment_graph : (w : World) (ms : List Move) (point : Option ℕ) → (after_own_segment w ms point).graph ≡ w.graph
own_segment_graph w ms point =
    own_segment_taken (λ (v : World). v.graph ≡ w.graph) w refl (λ s. refl) (λ s k words. refl) ms point

module _ (w : World) (ms : List Move) (id : ℕ) (alone : is_dependent w.graph id ≡ false) where
  moved_alone : (c : Call) → is_dependent (after_its_moves w c ms).graph id ≡ false
  moved_alone (call.Reserve point head) =
      ap (λ g. is_dependent g id)
      (own_segment_graph (world_after_moves w (moves_of_poll ms)) (own_segment ms) (number_named w point as_point))
      ∙ (moves_roots w (moves_of_poll ms)).dependents id alone
  moved_alone _ = (moves_roots w ms).dependents id alone

  asked_alone : (c : Call) → is_dependent (moved_world w c ms).graph id ≡ false
  asked_alone c = ap (λ g. is_dependent g id) (asking_graph (units_asked w c) (after_its_moves w c ms)) ∙ moved_alone c

module _ (w : World) (ms : List Move) where
  moved_ranks : (c : Call) → KeepsRanks w.graph (after_its_moves w c ms).graph
  moved_ranks (call.Reserve point head) =
      subst (λ g. KeepsRanks w.graph g)
      (sym (own_segment_graph (world_after_moves w (moves_of_poll ms)) (own_segment ms) (number_named w point as_point)))
      (moves_keep_ranks w (moves_of_poll ms))
  moved_ranks _ = moves_keep_ranks w ms

  asked_ranks : (c : Call) → KeepsRanks w.graph (moved_world w c ms).graph
  asked_ranks c =
      subst (λ g. KeepsRanks w.graph g) (sym (asking_graph (units_asked w c) (after_its_moves w c ms))) (moved_ranks c)

-- ---- what a step leaves

-- dependents, names and the ranks of points are as before
pub record LeavesAround (before after : Graph) : Type 0 where
  pub dependents : after.dependents ≡ before.dependents
  pub ranks : KeepsRanks before after

-- a call that writes no cell, and makes no dependents and no points
pub record LeavesItems (c : Call) : Type 0 where
  pub cells : (w : World) (id k : ℕ) → writes_cell w c id k ≡ false
  pub around : (marked : Bool) (judged v : World) → ForAct (λ u. LeavesAround v.graph u.graph) (act marked judged v c)

pub around_is : (before after : Graph) → after.dependents ≡ before.dependents → KeepsRanks before after → LeavesAround before after
around_is before after dependents keeps = record { dependents = dependents; ranks = keeps }

pub nothing_around : (before after : Graph) → after.dependents ≡ before.dependents → after.names ≡ before.names
    → ranks after ≡ ranks before → LeavesAround before after
nothing_around before after dependents names same = around_is before after dependents (record { names = names; same = same })

pub strong_object : (o : Option Object) (is : Identity) → option_map identity_of o ≡ Some is → is.is_weak ≡ false
    → option_map_or is_weak_object o false ≡ false
strong_object None is there strong = refl
strong_object (Some o) is there strong =
    let same : identity_of o ≡ is = same_Some (identity_of o) is there in ap (λ (i : Identity). i.is_weak) same ∙ strong

module _ (w : World) (s : Step) (legal : IsLegalStep w s) (leaves : LeavesItems s.call) where
  abbrev moved : World
  moved = moved_world w s.call s.moves

  left_around : LeavesAround moved.graph (world_after w s).graph
  left_around =
      for_world (λ u. LeavesAround moved.graph u.graph) moved (act (is_block s.answer) (judged_world w s.call s.moves) moved s.call)
      (leaves.around (is_block s.answer) (judged_world w s.call s.moves) moved) (nothing_around moved.graph moved.graph refl refl refl)

  pub still_alone : (id : ℕ) → is_dependent w.graph id ≡ false → is_dependent (world_after w s).graph id ≡ false
  still_alone id alone =
      ap (λ ps. is_dependent (record w.graph { dependents = ps }) id) left_around.dependents ∙ asked_alone w s.moves id alone s.call

  pub still_ranked : (name : Name) (r : Option Rank) → rank_found (point_named w name) ≡ r
      → rank_found (point_named (world_after w s) name) ≡ r
  still_ranked name r is =
      same_rank w (world_after w s) name
      (ranks_then w.graph moved.graph (world_after w s).graph (asked_ranks w s.moves s.call) left_around.ranks) ∙ is

  pub still_item : (id number : ℕ) (next : Option ℕ) → is_dependent w.graph id ≡ false → IsItem w.graph id number next
      → IsItem (world_after w s).graph id number next
  still_item id number next alone item =
      let strong = strong_object (object_at w.graph id) item.identity item.there item.strong in
      record {
        identity = item.identity;
        there = identity_after_step w s id item.identity item.there;
        strong = item.strong;
        number = lasting_cells_stay w s id 1 (NumberCell number) legal strong alone (leaves.cells w id 1) item.number;
        tag = item.tag;
        next = lasting_cells_stay w s id 2 (ReferenceCell next item.tag) legal strong alone (leaves.cells w id 2) item.next;
      }

  module _ (alone : (id : ℕ) → is_dependent w.graph id ≡ false) where
    pub still_list : (first : Option ℕ) (numbers : List ℕ) → IsList w.graph first numbers → IsList (world_after w s).graph first numbers
    still_list None [] list = tt
    still_list (Some id) (number ∷ numbers) (next, item, rest) =
        (next, still_item id number next (alone id) item, still_list next numbers rest)
    still_list None (number ∷ numbers) list = absurd list
    still_list (Some id) [] list = absurd list

  pub still_listed : (numbers : List ℕ) → writes_slot w s.call (slot_of_t 0) ≡ false → HasListIn w numbers
      → HasListIn (world_after w s) numbers
  still_listed numbers unwritten h = record {
    first = h.first;
    slot = slots_stay w (s ∷ []) (slot_of_t 0) h.first (ap (λ b. not b && true) unwritten) h.slot;
    items = still_list h.alone h.first numbers h.items;
    exact = still_ranked (letter 120) (Some Exact) h.exact;
    alone = λ id. still_alone id (h.alone id);
  }

  pub still_first : (numbers : List ℕ) (unwritten : writes_slot w s.call (slot_of_t 0) ≡ false) (h : HasListIn w numbers)
      → (still_listed numbers unwritten h).first ≡ h.first
  unfolding still_listed
  still_first numbers unwritten h = refl

-- a slot that is there refers to what it has
pub target_is : (w : World) (slot : Slot) (value : Option ℕ) → slot_value w slot ≡ Some value → target_of_slot w slot ≡ value
target_is w slot value there = by_slot (slot_in w slot) there
  where
    by_slot : (x : Checked (Found (Option ℕ))) → value_found x ≡ Some value → target_found x ≡ value
    by_slot (Ok found) e = same_Some found.value value e
    by_slot (Err why) e = absurd (none-some value e)

-- ---- calls that leave lists

pub copy_leaves : (target source : Slot) → LeavesItems (call.Copy target source)
copy_leaves target source = record {
  cells = λ w id k. refl;
  around = λ marked judged v.
      andthen (slot_in v target) (λ into. andthen (slot_in v source) (λ from. accepted (nothing_around _ _ refl refl refl)));
}

pub get_leaves : (target source : Slot) (k : ℕ) → LeavesItems (call.Get target source k)
get_leaves target source k = record {
  cells = λ w id j. refl;
  around = λ marked judged v.
      andthen (slot_in judged target) (λ into.
      andthen (slot_in judged source) (λ from.
      andthen (object_in judged from.value) (λ object.
      after_check (reference_at (cells_of_body object.value.body) k)
      (andthen (object_in v from.value) (λ now.
      andthen (reference_at (cells_of_body now.value.body) k) (λ reference. accepted (nothing_around _ _ refl refl refl)))))));
}

pub collect_leaves : LeavesItems call.Collect
collect_leaves = record { cells = λ w id k. refl; around = λ marked judged v. accepted (nothing_around _ _ refl refl refl) }

-- ---- calls of a heap

module _ {F : Type 0} (layout : F → Layout) (before after : HeapState F) (c : Call) (ms : List Move) (answer : Answer)
    (right : IsRight layout before c ms answer after) (leaves : LeavesItems c)
    (unwritten : (w : World) → writes_slot w c (slot_of_t 0) ≡ false) where
  pub still_has : (numbers : List ℕ) → HasList layout before numbers → HasList layout after numbers
  still_has numbers h =
      let in_world = right h.world 0 h.stands in
      record {
        world = world_after h.world (step_of 0 c ms answer);
        stands = in_world.stands;
        has = still_listed h.world (step_of 0 c ms answer) in_world.legal leaves numbers (unwritten h.world) h.has;
      }

module _ {F : Type 0} (layout : F → Layout) (before after : HeapState F) (trail trail_after : List Move) where
  pub collect_keeps : IsRightMoving layout before call.Collect trail trail_after (Replied reply.Ok) after → (numbers : List ℕ)
      → HasList layout before numbers → HasList layout after numbers
  collect_keeps collected numbers h =
      still_has layout before after call.Collect collected.moves (Replied reply.Ok) collected.right collect_leaves (λ w. refl) numbers h
