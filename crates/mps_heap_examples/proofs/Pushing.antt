-- An item is reserved, initialised and committed before a list.
use Rattle.std.proofs.Common.{◌≡◌, ℕ, Bool, true, false, refl, sym, ◌∙◌, ap, subst, List, [], ◌∷◌, length, Option, Some, None, Ok, Err}
use Rattle.std.proofs.lemmas.Option.{none-some, same_Some}
use Rattle.std.specs.Prelude.{if◌then◌else◌, option_and_then, option_map, slice_get, slice_set}
use Rattle.std.specs.Option.{option_map_or}
use Rattle.mps_base.specs.declared.moves.Move.{Move}
use Rattle.mps_base.specs.declared.names.Name.{Name}
use Rattle.mps_base.specs.declared.names.Rank.TheVariants.{Exact}
use Rattle.mps_base.specs.declared.names.Slot.{Slot}
use Rattle.mps_base.specs.declared.refusal.Refusal.TheVariants as refusal
use Rattle.mps_format.specs.Layout.{Layout}
use Rattle.mps_model.specs.declared.call.Call.TheVariants as call
use Rattle.mps_model.specs.declared.reply.Reply.TheVariants as reply
use Rattle.mps_model.specs.Allocating.{check_reserve, committed_object, refuse_without_place, with_reservation, world_committed}
use Rattle.mps_model.specs.Answer.{Replied, is_accepted}
use Rattle.mps_model.specs.Checked.{Checked, Found, Numbered, ◌>>=◌, cell_of, cells_of_body, done, number_at, point_named, reference_at, reference_in, required, says, slot_in, with_graph}
use Rattle.mps_model.specs.Graph.{Cell, Graph, HeadCell, NumberCell, Object, Point, ReferenceCell, Reservation, entry_at, object_at, retargeted, with_target_cell}
use Rattle.mps_model.specs.History.{IsLegalStep, world_after}
use Rattle.mps_model.specs.Making.{is_weak_rank}
use Rattle.mps_model.specs.Placement.{ForReserve, placement_of}
use Rattle.mps_model.specs.Reply.{answer_from}
use Rattle.mps_model.specs.Step.{Step}
use Rattle.mps_model.specs.World.{World}
use Rattle.mps_changes.specs.Change.{ForAct, accepted}
use Rattle.mps_changes.proofs.Checks.{after_check, andthen, point_named-is, required-is, with_value}
use Rattle.mps_laws.specs.Held.{letter, slot_of_t, target_found, target_of_slot}
use Rattle.mps_laws.proofs.Entries.{slice_get-written}
use Rattle.mps_laws.proofs.FoundBy.{number_found}
use Rattle.mps_laws.proofs.Lookups.{slice_get-set_other}
use Rattle.mps_laws.proofs.Reading.{bind_ok}
use Rattle.mps_client_laws.specs.Committing.{IsMade}
use Rattle.mps_client_laws.specs.Objects.{identity_of}
use Rattle.mps_client_laws.specs.Reservations.{IsReserved, reservation_found, reservation_of}
use Rattle.mps_client_laws.specs.Slots.{slot_value, value_found}
use Rattle.mps_client_laws.proofs.Committing.{commit_answer, commit_makes_the_object}
use Rattle.mps_client_laws.proofs.Initialising.{init_writes_the_number, init_writes_the_reference}
use Rattle.mps_client_laws.proofs.QuietCalls.{checked_ok}
use Rattle.mps_client_laws.proofs.ReadingBack.{quiet_graph}
use Rattle.mps_client_laws.proofs.Reservations.{number_is_quiet, reference_is_quiet, reserve_opens}
use Rattle.mps_heap_spec.specs.State.{HeapState}
use Rattle.mps_heap_spec.specs.declared.found.Committed.{Committed}
use Rattle.mps_heap_spec.specs.declared.found.Committed.TheVariants.{AsBlock, AsFlipped}
use Rattle.mps_refinement.specs.Answering.{says_committed}
use Rattle.mps_refinement.specs.RightMoving.{IsRightMoving}
use Rattle.mps_refinement.specs.RightStep.{IsRight, step_of}
use Rattle.mps_refinement.specs.StandsFor.{StandsFor}
use Rattle.mps_heap_examples.specs.Listed.{HasList, HasListIn, IsItem, rank_found}
use Rattle.mps_heap_examples.proofs.Lists.{LeavesAround, LeavesItems, around_is, nothing_around, still_alone, still_first, still_list, still_listed, still_ranked, target_is}
use Rattle.mps_heap_examples.proofs.Points.{reserving_keeps}
use Rattle.mps_heap_examples.proofs.Sums.{with_one_more}

-- ---- what the calls leave

pub reserve_leaves : (point : Name) (head : ℕ) → LeavesItems (call.Reserve point head)
reserve_leaves point head = record {
  cells = λ w id k. refl;
  around = λ marked judged v.
      andthen (check_reserve judged point head) (λ reserving.
      after_check (refuse_without_place (placement_of judged (ForReserve reserving.point.number (length reserving.cells))))
      (with_value (point_named v point) (λ p is.
      accepted (around_is _ _ refl (reserving_keeps v.graph p
      (Some (record { head = head; cells = reserving.cells; is_doomed = false })) (point_named-is v point p is).1)))));
}

init_around : (v : World) (p : Numbered Point) (r : Reservation) (cells : List Cell) → entry_at v.graph.points p.number ≡ Some p.value
    → (b : Bool)
    → LeavesAround v.graph (if b then v else with_graph v (with_reservation v.graph p (Some (record r { cells = cells })))).graph
init_around v p r cells there true = nothing_around v.graph v.graph refl refl refl
init_around v p r cells there false =
    around_is v.graph _ refl (reserving_keeps v.graph p (Some (record r { cells = cells })) there)

pub init_number_leaves : (point : Name) (k value : ℕ) → LeavesItems (call.InitNumber point k value)
init_number_leaves point k value = record {
  cells = λ w id j. refl;
  around = λ marked judged v.
      with_value (point_named v point) (λ (p : Numbered Point) is.
      andthen (required p.value.reservation refusal.NotOpen) (λ (r : Reservation).
      after_check (number_at r.cells k)
      (accepted (init_around v p r (slice_set r.cells k (NumberCell value)) (point_named-is v point p is).1 r.is_doomed))));
}

pub init_reference_leaves : (point : Name) (k : ℕ) (source : Slot) → LeavesItems (call.InitReference point k source)
init_reference_leaves point k source = record {
  cells = λ w id j. refl;
  around = λ marked judged v.
      with_value (point_named v point) (λ (p : Numbered Point) is.
      andthen (slot_in v source) (λ (from : Found (Option ℕ)).
      andthen (required p.value.reservation refusal.NotOpen) (λ (r : Reservation).
      after_check (reference_at r.cells k)
      (accepted (init_around v p r (with_target_cell r.cells k from.value) (point_named-is v point p is).1 r.is_doomed)))));
}

pub commit_leaves : (point : Name) (target : Slot) → LeavesItems (call.Commit point target)
commit_leaves point target = record {
  cells = λ w id k. refl;
  around = λ marked judged v.
      with_value (point_named v point) (λ (p : Numbered Point) is.
      andthen (slot_in v target) (λ (slot : Found (Option ℕ)).
      andthen (required p.value.reservation refusal.NotOpen) (λ (r : Reservation).
      by_doomed v p r slot (point_named-is v point p is).1 r.is_doomed)));
}
  where
    by_doomed : (v : World) (p : Numbered Point) (r : Reservation) (slot : Found (Option ℕ))
        → entry_at v.graph.points p.number ≡ Some p.value → (b : Bool)
        → ForAct (λ u. LeavesAround v.graph u.graph) (if b then says reply.Flipped (with_graph v (with_reservation v.graph p None))
        else done (world_committed v p r slot))
    by_doomed v p r slot there true = accepted (around_is _ _ refl (reserving_keeps v.graph p None there))
    by_doomed v p r slot there false =
        accepted (around_is _ _ refl (record { names = refl; same = (reserving_keeps v.graph p None there).same }))

-- ---- the cells of a reservation

reference_found : (cells : List Cell) (k : ℕ) (target : Option ℕ) → reference_at cells k ≡ Ok target
    → (tag : ℕ) × (slice_get cells k ≡ Some (ReferenceCell target tag))
reference_found cells k target e =
    let found = bind_ok (cell_of cells k) reference_in target e in
    of_cell found.0 (required-is (slice_get cells k) refusal.BadIndex found.0 found.1) found.2
  where
    of_cell : (c : Cell) → slice_get cells k ≡ Some c → reference_in c ≡ Ok target
        → (tag : ℕ) × (slice_get cells k ≡ Some (ReferenceCell target tag))
    of_cell (ReferenceCell t tag) there is = let same : t ≡ target = cc in (tag, there ∙ ap (λ u. Some (ReferenceCell u tag)) same)
    of_cell HeadCell there is = absurd cc
    of_cell (NumberCell n) there is = absurd cc

-- what is found of the point is its reservation
its_reservation : (w : World) (point : Name) (p : Numbered Point) (r s : Reservation) → reservation_of w point ≡ Some r
    → point_named w point ≡ Ok p → p.value.reservation ≡ Some s → s ≡ r
its_reservation w point p r s there is has = same_Some s r (sym has ∙ sym (ap reservation_found is) ∙ there)

module _ (w : World) (s : Step) (legal : IsLegalStep w s) (point : Name) (r : Reservation) (there : reservation_of w point ≡ Some r)
    (accepts : is_accepted s.answer ≡ true) where
  -- an accepted `init` with a number is of a cell with a number
  number_there : (k value : ℕ) → s.call ≡ call.InitNumber point k value → (was : ℕ) × (slice_get r.cells k ≡ Some (NumberCell was))
  number_there k value is =
      let q = quiet_graph (call.InitNumber point k value) (number_is_quiet point k value) w s legal is accepts in
      let p = bind_ok (point_named w point) _ q.0 q.1 in
      let has = bind_ok (required (p.0).value.reservation refusal.NotOpen) _ q.0 p.2 in
      let cell = checked_ok (number_at (has.0).cells k) _ q.0 has.2 in
      let same = its_reservation w point p.0 r has.0 there p.1
      (required-is (p.0).value.reservation refusal.NotOpen has.0 has.1) in
      (cell.0, ap (λ (x : Reservation). slice_get x.cells k) (sym same) ∙ number_found (has.0).cells k cell.0 cell.1)

  -- and one with a reference of a cell with a reference
  reference_there : (k : ℕ) (source : Slot) → s.call ≡ call.InitReference point k source
      → (was : Option ℕ) × (tag : ℕ) × (slice_get r.cells k ≡ Some (ReferenceCell was tag))
  reference_there k source is =
      let q = quiet_graph (call.InitReference point k source) (reference_is_quiet point k source) w s legal is accepts in
      let p = bind_ok (point_named w point) _ q.0 q.1 in
      let from = bind_ok (slot_in w source) _ q.0 p.2 in
      let has = bind_ok (required (p.0).value.reservation refusal.NotOpen) _ q.0 from.2 in
      let cell = checked_ok (reference_at (has.0).cells k) _ q.0 has.2 in
      let same = its_reservation w point p.0 r has.0 there p.1
      (required-is (p.0).value.reservation refusal.NotOpen has.0 has.1) in
      let found = reference_found (has.0).cells k cell.0 cell.1 in
      (cell.0, found.0, ap (λ (x : Reservation). slice_get x.cells k) (sym same) ∙ found.1)

-- a target is written into cell 2, which was a reference: cell 1 is as before
target_cells : (cells : List Cell) (target was : Option ℕ) (tag : ℕ) → slice_get cells 2 ≡ Some (ReferenceCell was tag)
    → ((number : ℕ) → slice_get cells 1 ≡ Some (NumberCell number)
    → slice_get (with_target_cell cells 2 target) 1 ≡ Some (NumberCell number))
    × (slice_get (with_target_cell cells 2 target) 2 ≡ Some (ReferenceCell target tag))
target_cells cells target was tag refers = (
  λ number there.
      ap (λ cs. slice_get cs 1) are ∙ slice_get-set_other cells 2 1 (ReferenceCell target tag) (λ e. absurd cc) ∙ there,
  ap (λ cs. slice_get cs 2) are ∙ slice_get-written cells 2 (ReferenceCell was tag) (ReferenceCell target tag) refers,
)
  where
    are : with_target_cell cells 2 target ≡ slice_set cells 2 (ReferenceCell target tag)
    are = ap (λ o. option_map_or (λ c. slice_set cells 2 (retargeted c target)) o cells) refers

-- ---- the calls of a push

-- a heap that has a list, with an open reservation at the point x that no flip ended
pub record HasReserved {F : Type 0} (layout : F → Layout) (h : HeapState F) (numbers : List ℕ) : Type 0 where
  pub world : World
  pub stands : StandsFor layout h world
  pub has : HasListIn world numbers
  pub reservation : Reservation
  pub there : reservation_of world (letter 120) ≡ Some reservation
  pub lives : reservation.is_doomed ≡ false

module _ {F : Type 0} (layout : F → Layout) (before after : HeapState F) (numbers : List ℕ) where
  pub reserved_then : (polled : List Move) → HasList layout before numbers
      → IsRight layout before (call.Reserve (letter 120) 33) polled (Replied reply.Ok) after → HasReserved layout after numbers
  reserved_then polled h right =
      let s = step_of 0 (call.Reserve (letter 120) 33) polled (Replied reply.Ok) in
      let there = right h.world 0 h.stands in
      let is = h.stands.reached in
      let opened = subst (λ v. IsReserved (world_after v s) (letter 120) 33) (sym is.is)
      (reserve_opens h.world.formats is.history [] s (letter 120) 33 (with_one_more h.world is s there.legal) refl refl) in
      record {
        world = world_after h.world s;
        stands = there.stands;
        has = still_listed h.world s there.legal (reserve_leaves (letter 120) 33) numbers refl h.has;
        reservation = opened.reserved;
        there = opened.there;
        lives = opened.lives;
      }

  -- the number is in cell 1 of the reservation then
  pub numbered_then : (number : ℕ) → HasReserved layout before numbers
      → IsRight layout before (call.InitNumber (letter 120) 1 number) [] (Replied reply.Ok) after
      → (r : HasReserved layout after numbers) × (slice_get r.reservation.cells 1 ≡ Some (NumberCell number))
  numbered_then number h right =
      let s = step_of 0 (call.InitNumber (letter 120) 1 number) [] (Replied reply.Ok) in
      let there = right h.world 0 h.stands in
      let is = h.stands.reached in
      let r = h.reservation in
      let was = number_there h.world s there.legal (letter 120) r h.there refl 1 number refl in
      let written = subst (λ v. reservation_of v (letter 120) ≡ Some r → reservation_of (world_after v s) (letter 120)
      ≡ Some (record r { cells = slice_set r.cells 1 (NumberCell number) })) (sym is.is)
      (λ held. init_writes_the_number h.world.formats is.history [] s (letter 120) 1 number r (with_one_more h.world is s there.legal)
      refl refl held h.lives) in (
        record {
          world = world_after h.world s;
          stands = there.stands;
          has = still_listed h.world s there.legal (init_number_leaves (letter 120) 1 number) numbers refl h.has;
          reservation = record r { cells = slice_set r.cells 1 (NumberCell number) };
          there = written h.there;
          lives = h.lives;
        },
        slice_get-written r.cells 1 (NumberCell was.0) (NumberCell number) was.1,
      )

-- the reservation has the cells of an item before the list
pub record HasItem {F : Type 0} (layout : F → Layout) (h : HeapState F) (numbers : List ℕ) (item_number : ℕ) : Type 0 where
  pub reserved : HasReserved layout h numbers
  pub number : slice_get reserved.reservation.cells 1 ≡ Some (NumberCell item_number)
  pub tag : ℕ
  pub next : slice_get reserved.reservation.cells 2 ≡ Some (ReferenceCell reserved.has.first tag)

module _ {F : Type 0} (layout : F → Layout) (before after : HeapState F) (numbers : List ℕ) (item_number : ℕ) where
  pub referred_then : (h : HasReserved layout before numbers) → slice_get h.reservation.cells 1 ≡ Some (NumberCell item_number)
      → IsRight layout before (call.InitReference (letter 120) 2 (slot_of_t 0)) [] (Replied reply.Ok) after
      → HasItem layout after numbers item_number
  referred_then h numbered right =
      let s = step_of 0 (call.InitReference (letter 120) 2 (slot_of_t 0)) [] (Replied reply.Ok) in
      let there = right h.world 0 h.stands in
      let is = h.stands.reached in
      let r = h.reservation in
      let first = h.has.first in
      let was = reference_there h.world s there.legal (letter 120) r h.there refl 2 (slot_of_t 0) refl in
      let target = target_is h.world (slot_of_t 0) first h.has.slot in
      let written = subst (λ v. reservation_of v (letter 120) ≡ Some r → target_of_slot v (slot_of_t 0) ≡ first
      → reservation_of (world_after v s) (letter 120) ≡ Some (record r { cells = with_target_cell r.cells 2 first })) (sym is.is)
      (λ held refers. init_writes_the_reference h.world.formats is.history [] s (letter 120) 2 (slot_of_t 0) r
      (with_one_more h.world is s there.legal) refl refl held h.lives
      ∙ ap (λ t. Some (record r { cells = with_target_cell r.cells 2 t })) refers) in
      let cells = target_cells r.cells first was.0 was.1 was.2 in
      record {
        reserved = record {
          world = world_after h.world s;
          stands = there.stands;
          has = still_listed h.world s there.legal (init_reference_leaves (letter 120) 2 (slot_of_t 0)) numbers refl h.has;
          reservation = record r { cells = with_target_cell r.cells 2 first };
          there = written h.there target;
          lives = h.lives;
        };
        number = cells.0 item_number numbered;
        tag = was.1;
        next = cells.1
            ∙ ap (λ f. Some (ReferenceCell f was.1))
            (sym (still_first h.world s there.legal (init_reference_leaves (letter 120) 2 (slot_of_t 0)) numbers refl h.has));
      }

-- ---- the commit

module _ (w : World) (s : Step) (legal : IsLegalStep w s) (is : s.call ≡ call.Commit (letter 120) (slot_of_t 0)) (r : Reservation)
    (there : reservation_of w (letter 120) ≡ Some r) (lives : r.is_doomed ≡ false) where
  not_flipped : s.answer ≡ Replied reply.Flipped → ⊥
  not_flipped says_flipped =
      by_point (point_named w (letter 120)) refl (sym says_flipped ∙ commit_answer w s (letter 120) (slot_of_t 0) legal is)
    where
      by_doomed : (p : Numbered Point) (q : Reservation) (slot : Found (Option ℕ)) (b : Bool) → b ≡ false
          → Replied reply.Flipped ≡ answer_from (if b then says reply.Flipped (with_graph w (with_reservation w.graph p None))
          else done (world_committed w p q slot)) → ⊥
      by_doomed p q slot true e due = absurd cc
      by_doomed p q slot false e due = absurd cc

      by_reservation : (p : Numbered Point) → point_named w (letter 120) ≡ Ok p → (slot : Found (Option ℕ)) → (y : Checked Reservation)
          → required p.value.reservation refusal.NotOpen ≡ y
          → Replied reply.Flipped ≡ answer_from (y >>= (λ q. if q.is_doomed then says reply.Flipped (with_graph w
          (with_reservation w.graph p None)) else done (world_committed w p q slot))) → ⊥
      by_reservation p named slot (Err why) e due = absurd cc
      by_reservation p named slot (Ok q) e due =
          by_doomed p q slot q.is_doomed (ap (λ (z : Reservation). z.is_doomed) (its_reservation w (letter 120) p r q there named
          (required-is p.value.reservation refusal.NotOpen q e)) ∙ lives) due

      by_slot : (p : Numbered Point) → point_named w (letter 120) ≡ Ok p → (y : Checked (Found (Option ℕ)))
          → Replied reply.Flipped ≡ answer_from (y >>= (λ slot. required p.value.reservation refusal.NotOpen >>= (λ q. if q.is_doomed
          then says reply.Flipped (with_graph w (with_reservation w.graph p None)) else done (world_committed w p q slot)))) → ⊥
      by_slot p named (Err why) due = absurd cc
      by_slot p named (Ok slot) due = by_reservation p named slot (required p.value.reservation refusal.NotOpen) refl due

      by_point : (y : Checked (Numbered Point)) → point_named w (letter 120) ≡ y
          → Replied reply.Flipped ≡ answer_from (y >>= (λ p. slot_in w (slot_of_t 0) >>= (λ slot.
          required p.value.reservation refusal.NotOpen >>= (λ q. if q.is_doomed then says reply.Flipped
          (with_graph w (with_reservation w.graph p None)) else done (world_committed w p q slot))))) → ⊥
      by_point (Err why) e due = absurd cc
      by_point (Ok p) e due = by_slot p e (slot_in w (slot_of_t 0)) due

-- a slot that refers to an object is there
value_is : (w : World) (slot : Slot) (id : ℕ) → target_of_slot w slot ≡ Some id → slot_value w slot ≡ Some (Some id)
value_is w slot id refers = by_slot (slot_in w slot) refers
  where
    by_slot : (y : Checked (Found (Option ℕ))) → target_found y ≡ Some id → value_found y ≡ Some (Some id)
    by_slot (Ok found) e = ap Some e
    by_slot (Err why) e = absurd (none-some id e)

-- the object that was made is an item
made_item : (g : Graph) (id : ℕ) (p : Point) (r : Reservation) (number tag : ℕ) (next : Option ℕ)
    → object_at g id ≡ Some (committed_object p r) → is_weak_rank p.rank ≡ false → slice_get r.cells 1 ≡ Some (NumberCell number)
    → slice_get r.cells 2 ≡ Some (ReferenceCell next tag) → IsItem g id number next
made_item g id p r number tag next made strong first second = record {
  identity = identity_of (committed_object p r);
  there = ap (option_map identity_of) made;
  strong = strong;
  number = ap (option_and_then (λ (o : Object). slice_get (cells_of_body o.body) 1)) made ∙ first;
  tag = tag;
  next = ap (option_and_then (λ (o : Object). slice_get (cells_of_body o.body) 2)) made ∙ second;
}

module _ {F : Type 0} (layout : F → Layout) (before after : HeapState F) (numbers : List ℕ) (number : ℕ) (moves : List Move)
    (h : HasItem layout before numbers number) where
  abbrev of : HasReserved layout before numbers
  of = h.reserved

  pub never_flipped : IsRight layout before (call.Commit (letter 120) (slot_of_t 0)) moves (Replied reply.Flipped) after → ⊥
  never_flipped right =
      let s = step_of 0 (call.Commit (letter 120) (slot_of_t 0)) moves (Replied reply.Flipped) in
      not_flipped of.world s (right of.world 0 of.stands).legal refl of.reservation of.there of.lives refl

  pub committed_then : IsRight layout before (call.Commit (letter 120) (slot_of_t 0)) moves (Replied reply.Ok) after
      → HasList layout after (number ∷ numbers)
  committed_then right =
      let s = step_of 0 (call.Commit (letter 120) (slot_of_t 0)) moves (Replied reply.Ok) in
      let w = of.world in
      let there = right w 0 of.stands in
      let is = of.stands.reached in
      let leaves = commit_leaves (letter 120) (slot_of_t 0) in
      let made = subst (λ v. IsMade v (world_after v s) (letter 120) (slot_of_t 0)) (sym is.is)
      (commit_makes_the_object w.formats is.history [] s (letter 120) (slot_of_t 0) (with_one_more w is s there.legal) refl refl) in
      let id = length w.graph.objects in
      let same = its_reservation w (letter 120) made.of of.reservation made.reserved of.there made.named made.had in
      let rank : (made.of).value.rank ≡ Exact = same_Some (made.of).value.rank Exact (sym (ap rank_found made.named) ∙ of.has.exact) in
      record {
        world = world_after w s;
        stands = there.stands;
        has = record {
          first = Some id;
          slot = value_is (world_after w s) (slot_of_t 0) id made.refers;
          items = (
            of.has.first,
            made_item (world_after w s).graph id (made.of).value of.reservation number h.tag of.has.first
                (made.object ∙ ap (λ r. Some (committed_object (made.of).value r)) same) (ap is_weak_rank rank) h.number h.next,
            still_list w s there.legal leaves of.has.alone of.has.first numbers of.has.items,
          );
          exact = still_ranked w s there.legal leaves (letter 120) (Some Exact) of.has.exact;
          alone = λ i. still_alone w s there.legal leaves i (of.has.alone i);
        };
      }

-- ---- all of them, in calls whose point and slots are these

module _ {F : Type 0} (layout : F → Layout) (h : HeapState F) (numbers : List ℕ) (has : HasList layout h numbers) (point : Name)
    (is : point ≡ letter 120) where
  pub number_reserved : (h1 h2 : HeapState F) (number : ℕ) (trail trail_after : List Move)
      → IsRightMoving layout h (call.Reserve point 33) trail trail_after (Replied reply.Ok) h1
      → IsRight layout h1 (call.InitNumber point 1 number) [] (Replied reply.Ok) h2
      → (r : HasReserved layout h2 numbers) × (slice_get r.reservation.cells 1 ≡ Some (NumberCell number))
  number_reserved h1 h2 number trail trail_after reserved numbered =
      numbered_then layout h1 h2 numbers number
      (reserved_then layout h h1 numbers reserved.moves has
      (subst (λ p. IsRight layout h (call.Reserve p 33) reserved.moves (Replied reply.Ok) h1) is reserved.right))
      (subst (λ p. IsRight layout h1 (call.InitNumber p 1 number) [] (Replied reply.Ok) h2) is numbered)

  pub item_reserved : (h2 h3 : HeapState F) (number : ℕ) (source : Slot) → source ≡ slot_of_t 0
      → (r : HasReserved layout h2 numbers) × (slice_get r.reservation.cells 1 ≡ Some (NumberCell number))
      → IsRight layout h2 (call.InitReference point 2 source) [] (Replied reply.Ok) h3 → HasItem layout h3 numbers number
  item_reserved h2 h3 number source from r referred =
      referred_then layout h2 h3 numbers number r.0 r.1
      (subst (λ p. IsRight layout h2 (call.InitReference p 2 (slot_of_t 0)) [] (Replied reply.Ok) h3) is
      (subst (λ s. IsRight layout h2 (call.InitReference point 2 s) [] (Replied reply.Ok) h3) from referred))

  pub item_committed : (h3 h4 : HeapState F) (number : ℕ) (target : Slot) → target ≡ slot_of_t 0 → HasItem layout h3 numbers number
      → (trail trail_after : List Move) (done : Committed)
      → IsRightMoving layout h3 (call.Commit point target) trail trail_after (says_committed done) h4
      → HasList layout h4 (number ∷ numbers)
  item_committed h3 h4 number target into item trail trail_after done committed = by_case done
      (subst (λ p. IsRight layout h3 (call.Commit p (slot_of_t 0)) committed.moves (says_committed done) h4) is
      (subst (λ s. IsRight layout h3 (call.Commit point s) committed.moves (says_committed done) h4) into committed.right))
    where
      by_case : (b : Committed) → IsRight layout h3 (call.Commit (letter 120) (slot_of_t 0)) committed.moves (says_committed b) h4
          → HasList layout h4 (number ∷ numbers)
      by_case AsBlock right = committed_then layout h3 h4 numbers number committed.moves item right
      by_case AsFlipped right = absurd (never_flipped layout h3 h4 numbers number committed.moves item right)
