-- What `copy`, `clear`, `same` and `null` say of the objects in slots.
use Rattle.std.proofs.Common.{◌≡◌, ℕ, Bool, true, false, refl, sym, ◌∙◌, ap, ◌∷◌, ◌++◌, Option, Some, None, Ok, Err}
use Rattle.std.proofs.lemmas.Bool.{true≢false, eq-eqb, eqb-true}
use Rattle.std.proofs.lemmas.Option.{none-some, same_Some}
use Rattle.std.specs.Prelude.{slice_get, slice_set, is_none}
use Rattle.mps_base.specs.declared.names.Slot.{Slot}
use Rattle.mps_base.specs.declared.refusal.Refusal.{Refusal}
use Rattle.mps_model.specs.Layout.{Layout}
use Rattle.mps_model.proofs.Appending.{IsLegalFrom-later}
use Rattle.mps_model.specs.declared.call.Call.TheVariants as call
use Rattle.mps_model.specs.Step.{Step, History}
use Rattle.mps_model.specs.Graph.{Graph}
use Rattle.mps_model.specs.World.{World, empty_world, empty_world_of}
use Rattle.mps_model.specs.Checked.{Act, Checked, Found, ◌>>=◌, slot_in, tells, with_graph}
use Rattle.mps_model.specs.Allocating.{with_slot}
use Rattle.mps_model.specs.Accessing.{act_clear, act_copy, act_null, act_same, same_target}
use Rattle.mps_model.specs.Reply.{answer_from}
use Rattle.mps_model.specs.History.{IsLegalHistoryOf, IsLegalStep}
use Rattle.mps_laws.specs.Held.{target_of_slot, target_found}
use Rattle.mps_laws.specs.Replay.{reached}
use Rattle.mps_laws.proofs.Entries.{slice_get-written, entry_at-written}
use Rattle.mps_laws.proofs.Reading.{bind_ok, slot_is, slot_in_is}
use Rattle.mps_client_laws.specs.Slots.{CopyGivesTheSameObject, ClearLeavesNull, YesIsTheSameObject, NoIsAnotherObject, YesIsNoObject, NoIsAnObject}
use Rattle.mps_client_laws.proofs.QuietCalls.{IsQuiet, quiet_answer, done_world}
use Rattle.mps_client_laws.proofs.ReadingBack.{quiet_graph}

-- a slot that was written refers to what was written
pub slot_written : (w : World) (slot : Slot) (into : Found (Option ℕ)) (x : Option ℕ) → slot_in w slot ≡ Ok into
    → target_of_slot (with_graph w (with_slot w.graph into x)) slot ≡ x
slot_written w slot into x e =
    let is = slot_is w slot into e in
    ap target_found
    (slot_in_is (with_graph w (with_slot w.graph into x)) slot into.number (slice_set into.list into.index x) x is.named
    (entry_at-written w.graph.tables into.number into.list (Some (slice_set into.list into.index x)) is.table)
    (ap (λ i. slice_get (slice_set into.list i x) slot.index) is.at_index ∙ slice_get-written into.list slot.index into.value x is.value))

-- a world of this graph
abbrev of_graph : Graph → World
of_graph g = record empty_world { graph = g }

module _ (w : World) where
  copied : (target source : Slot) (a : Act) → act_copy w target source ≡ Ok a → target_of_slot a.world target ≡ target_of_slot w source
  copied target source a e =
      let into = bind_ok (slot_in w target) _ a e in
      let from = bind_ok (slot_in w source) _ a into.2 in
      ap (λ (u : World). target_of_slot u target) (done_world _ a from.2) ∙ slot_written w target into.0 from.0.value into.1
      ∙ sym (ap target_found from.1)

  cleared : (slot : Slot) (a : Act) → act_clear w slot ≡ Ok a → target_of_slot a.world slot ≡ None
  cleared slot a e =
      let into = bind_ok (slot_in w slot) _ a e in
      ap (λ (u : World). target_of_slot u slot) (done_world _ a into.2) ∙ slot_written w slot into.0 None into.1

  -- what a yes or a no says
  same_answer : (b c : Bool) → answer_from (tells c w) ≡ answer_from (tells b w) → c ≡ b
  same_answer true true e = refl
  same_answer false false e = refl
  same_answer true false e = absurd cc
  same_answer false true e = absurd cc

  not_refused : (b : Bool) (why : Refusal) {A : Type 0} → answer_from (tells b w) ≡ answer_from (Err why) → A
  not_refused true why e = absurd cc
  not_refused false why e = absurd cc

  same_answers : (slot other : Slot) (b : Bool) → answer_from (tells b w) ≡ answer_from (act_same w slot other)
      → b ≡ same_target (target_of_slot w slot) (target_of_slot w other)
  same_answers slot other b due = by_slot (slot_in w slot) refl due
    where
      by_other : (one : Found (Option ℕ)) → slot_in w slot ≡ Ok one → (x : Checked (Found (Option ℕ))) → slot_in w other ≡ x
          → answer_from (tells b w) ≡ answer_from (x >>= (λ two. tells (same_target one.value two.value) w))
          → b ≡ same_target (target_of_slot w slot) (target_of_slot w other)
      by_other one e (Err why) f due = not_refused b why due
      by_other one e (Ok two) f due =
          same_answer (same_target one.value two.value) b due
          ∙ ap (λ t. same_target t two.value) (sym (ap target_found e)) ∙ ap (same_target (target_of_slot w slot)) (sym (ap target_found f))

      by_slot : (x : Checked (Found (Option ℕ))) → slot_in w slot ≡ x
          → answer_from (tells b w) ≡ answer_from (x >>= (λ one. slot_in w other >>= (λ two. tells (same_target one.value two.value) w)))
          → b ≡ same_target (target_of_slot w slot) (target_of_slot w other)
      by_slot (Err why) e due = not_refused b why due
      by_slot (Ok one) e due = by_other one e (slot_in w other) refl due

  null_answers : (slot : Slot) (b : Bool) → answer_from (tells b w) ≡ answer_from (act_null w slot) → b ≡ is_none (target_of_slot w slot)
  null_answers slot b due = by_slot (slot_in w slot) refl due
    where
      by_slot : (x : Checked (Found (Option ℕ))) → slot_in w slot ≡ x
          → answer_from (tells b w) ≡ answer_from (x >>= (λ from. tells (is_none from.value) w)) → b ≡ is_none (target_of_slot w slot)
      by_slot (Err why) e due = not_refused b why due
      by_slot (Ok from) e due = same_answer (is_none from.value) b due ∙ ap is_none (sym (ap target_found e))

same_is_equal : (x y : Option ℕ) → true ≡ same_target x y → x ≡ y
same_is_equal None None e = refl
same_is_equal None (Some b) e = absurd (true≢false e)
same_is_equal (Some a) None e = absurd (true≢false e)
same_is_equal (Some a) (Some b) e = ap Some (eqb-true a b (sym e))

other_is_unequal : (x y : Option ℕ) → false ≡ same_target x y → x ≡ y → ⊥
other_is_unequal None None e f = true≢false (sym e)
other_is_unequal None (Some b) e f = none-some b f
other_is_unequal (Some a) None e f = none-some a (sym f)
other_is_unequal (Some a) (Some b) e f = true≢false (sym (eq-eqb a b (same_Some a b f)) ∙ sym e)

none_is_null : (x : Option ℕ) → true ≡ is_none x → x ≡ None
none_is_null None e = refl
none_is_null (Some a) e = absurd (true≢false e)

some_is_object : (x : Option ℕ) → false ≡ is_none x → (id : ℕ) × (x ≡ Some id)
some_is_object None e = absurd (true≢false (sym e))
some_is_object (Some a) e = (a, refl)

-- ---- the laws

copy_is_quiet : (target source : Slot) → IsQuiet (call.Copy target source)
copy_is_quiet target source = record { none = λ w a ms e. e; world = λ w a. refl; reply = λ m w. refl }

clear_is_quiet : (slot : Slot) → IsQuiet (call.Clear slot)
clear_is_quiet slot = record { none = λ w a ms e. e; world = λ w a. refl; reply = λ m w. refl }

same_is_quiet : (slot other : Slot) → IsQuiet (call.Same slot other)
same_is_quiet slot other = record { none = λ w a ms e. e; world = λ w a. refl; reply = λ m w. refl }

null_is_quiet : (slot : Slot) → IsQuiet (call.Null slot)
null_is_quiet slot = record { none = λ w a ms e. e; world = λ w a. refl; reply = λ m w. refl }

module _ (formats : ℕ → Layout) (steps later : History) (s : Step) (legal : IsLegalHistoryOf formats (steps ++ s ∷ later)) where
  legal_here : IsLegalStep (reached formats steps) s
  legal_here = (IsLegalFrom-later (empty_world_of formats) steps (s ∷ later) legal).0

pub copy_gives_the_same_object : CopyGivesTheSameObject
copy_gives_the_same_object formats steps later s target source legal is accepted =
    let w = reached formats steps in
    let here = legal_here formats steps later s legal in
    let a = quiet_graph (call.Copy target source) (copy_is_quiet target source) w s here is accepted in
    ap (λ g. target_of_slot (of_graph g) target) a.2 ∙ copied w target source a.0 a.1

pub clear_leaves_null : ClearLeavesNull
clear_leaves_null formats steps later s slot legal is accepted =
    let w = reached formats steps in
    let here = legal_here formats steps later s legal in
    let a = quiet_graph (call.Clear slot) (clear_is_quiet slot) w s here is accepted in
    ap (λ g. target_of_slot (of_graph g) slot) a.2 ∙ cleared w slot a.0 a.1

pub yes_is_the_same_object : YesIsTheSameObject
yes_is_the_same_object formats steps later s slot other legal is says =
    let w = reached formats steps in
    let here = legal_here formats steps later s legal in
    same_is_equal (target_of_slot w slot) (target_of_slot w other)
    (same_answers w slot other true (sym says ∙ quiet_answer (call.Same slot other) (same_is_quiet slot other) w s here is))

pub no_is_another_object : NoIsAnotherObject
no_is_another_object formats steps later s slot other legal is says =
    let w = reached formats steps in
    let here = legal_here formats steps later s legal in
    other_is_unequal (target_of_slot w slot) (target_of_slot w other)
    (same_answers w slot other false (sym says ∙ quiet_answer (call.Same slot other) (same_is_quiet slot other) w s here is))

pub yes_is_no_object : YesIsNoObject
yes_is_no_object formats steps later s slot legal is says =
    let w = reached formats steps in
    let here = legal_here formats steps later s legal in
    none_is_null (target_of_slot w slot)
    (null_answers w slot true (sym says ∙ quiet_answer (call.Null slot) (null_is_quiet slot) w s here is))

pub no_is_an_object : NoIsAnObject
no_is_an_object formats steps later s slot legal is says =
    let w = reached formats steps in
    let here = legal_here formats steps later s legal in
    some_is_object (target_of_slot w slot)
    (null_answers w slot false (sym says ∙ quiet_answer (call.Null slot) (null_is_quiet slot) w s here is))
