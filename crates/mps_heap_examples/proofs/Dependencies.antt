-- What `addr` answers, and which blocks a dependency has after the calls that write it and after a collection.
use Rattle.std.proofs.Common.{◌≡◌, ℕ, true, false, true≢false, refl, sym, ◌∙◌, ap, List, [], ◌∷◌, Option, Some, None, Ok, Err}
use Rattle.std.specs.Prelude.{is_some, length, option_and_then, slice_get, slice_set}
use Rattle.std.specs.Option.{option_map_or}
use Rattle.mps_base.specs.declared.moves.Move.{Move}
use Rattle.mps_base.specs.declared.moves.Move.TheVariants as moves
use Rattle.mps_base.specs.declared.names.Name.{Name}
use Rattle.mps_base.specs.declared.names.Slot.{Slot}
use Rattle.mps_model.specs.declared.call.Call.TheVariants as call
use Rattle.mps_model.specs.declared.reply.Reply.TheVariants as reply
use Rattle.mps_model.specs.Accessing.{act_address, address_or_null}
use Rattle.mps_model.specs.Answer.{Answer, Replied, is_refused}
use Rattle.mps_model.specs.Checked.{Act, Checked, as_dependency, dependency_named, number_named, object_in, slot_in}
use Rattle.mps_model.specs.Dependency.{act_dependency_add, act_dependency_reset, with_added, with_dependency}
use Rattle.mps_model.specs.Effect.{world_after_move, world_after_moves}
use Rattle.mps_model.specs.Graph.{thing_in, with_last}
use Rattle.mps_model.specs.History.{HeldAreLive, IsLegalStep, world_after, world_after_call}
use Rattle.mps_model.specs.Reply.{answer_from, world_from}
use Rattle.mps_model.specs.Step.{Step}
use Rattle.mps_model.specs.World.{Dependency, World, address_of}
use Rattle.mps_laws.specs.Depending.{blocks_of_dependency}
use Rattle.mps_laws.specs.Held.{target_found, target_of_slot}
use Rattle.mps_laws.proofs.Accounting.{move_leaves}
use Rattle.mps_laws.proofs.Depending.{dependency_is, named_blocks}
use Rattle.mps_laws.proofs.Entries.{slice_get-written}
use Rattle.mps_laws.proofs.Reading.{bind_ok, held_is_live, moves_leave_tables, object_found, slot_is_held}
use Rattle.mps_client_laws.proofs.QuietCalls.{IsQuiet, accepted_act, done_world, quiet_answer, quiet_world}

-- ---- where the object in a slot lies

live_lies : (o : Option ℕ) → is_some o ≡ true → o ≡ Some (option_map_or (λ at. at) o 0)
live_lies None live = absurd (true≢false (sym live))
live_lies (Some at) live = refl

-- an object to which a slot refers lies somewhere
pub slot_lies : (w : World) (slot : Slot) (id : ℕ) → HeldAreLive w → target_of_slot w slot ≡ Some id
    → address_of w id ≡ Some (address_or_null w id)
slot_lies w slot id held refers = live_lies (address_of w id) (held_is_live w id held (slot_is_held w slot id refers))

-- what an accepted `addr` answers
pub record IsAddressed (w : World) (slot : Slot) (at : ℕ) : Type 0 where
  pub id : ℕ
  pub refers : target_of_slot w slot ≡ Some id
  pub is : at ≡ address_or_null w id

-- an answer that is no refusal is that of an act which isn't refused
answered_act : (x : Checked Act) (answer : Answer) → answer ≡ answer_from x → is_refused answer ≡ false → (a : Act) × (x ≡ Ok a)
answered_act (Ok a) answer due other = (a, refl)
answered_act (Err why) answer due other = absurd (true≢false (sym (ap is_refused due) ∙ other))

address_is_quiet : (slot : Slot) → IsQuiet (call.Address slot)
address_is_quiet slot = record { none = λ w a ms e. e; world = λ w a. refl; reply = λ m w. refl }

word_is : (at word : ℕ) → Replied (reply.Word at) ≡ Replied (reply.Word word) → at ≡ word
word_is at word e = cc

pub addressed : (w : World) (s : Step) (slot : Slot) (at : ℕ) → IsLegalStep w s → s.call ≡ call.Address slot
    → s.answer ≡ Replied (reply.Word at) → IsAddressed w slot at
addressed w s slot at legal is_address says_word =
    let due = sym says_word ∙ quiet_answer (call.Address slot) (address_is_quiet slot) w s legal is_address in
    let a = answered_act (act_address w slot) (Replied (reply.Word at)) due refl in
    let from = bind_ok (slot_in w slot) _ a.0 a.1 in
    let object = bind_ok (object_in w from.0.value) _ a.0 from.2 in
    let found = object_found w from.0.value object.0 object.1 in
    record {
      id = object.0.number;
      refers = ap target_found from.1 ∙ found.0;
      is = word_is at (address_or_null w object.0.number) (due ∙ ap answer_from (a.1 ∙ sym object.2));
    }

-- ---- the blocks of a dependency

abbrev blocks_in : Option ℕ → List Dependency → List (ℕ × ℕ)
blocks_in number ds = option_map_or (λ n. option_map_or (λ (d : Dependency). d.blocks) (slice_get ds n) []) number []

-- the blocks of one that was written
written_blocks : (number : Option ℕ) (ds : List Dependency) (n : ℕ) (old new : Dependency) → number ≡ Some n → slice_get ds n ≡ Some old
    → blocks_in number (slice_set ds n new) ≡ new.blocks
written_blocks number ds n old new named there =
    ap (λ o. blocks_in o (slice_set ds n new)) named
    ∙ ap (λ o. option_map_or (λ (d : Dependency). d.blocks) o []) (slice_get-written ds n old new there)

reset_is_quiet : (name : Name) → IsQuiet (call.DependencyReset name)
reset_is_quiet name = record { none = λ w a ms e. e; world = λ w a. refl; reply = λ m w. refl }

add_is_quiet : (name : Name) (slot : Slot) → IsQuiet (call.DependencyAdd name slot)
add_is_quiet name slot = record { none = λ w a ms e. e; world = λ w a. refl; reply = λ m w. refl }

module _ (w : World) (s : Step) (name : Name) (legal : IsLegalStep w s) (ok : s.answer ≡ Replied reply.Ok) where
  -- a reset leaves none
  pub reset_leaves_none : s.call ≡ call.DependencyReset name → blocks_of_dependency (world_after w s) name ≡ []
  reset_leaves_none is =
      let c = call.DependencyReset name in
      let due = sym ok ∙ quiet_answer c (reset_is_quiet name) w s legal is in
      let a = accepted_act (act_dependency_reset w name) (Replied reply.Ok) due refl in
      let d = bind_ok (dependency_named w name) _ a.0 a.1 in
      let known = dependency_is w name d.0 d.1 in
      let new : Dependency = record { epoch = length w.flips; zones = 0; blocks = [] } in
      ap (λ v. blocks_of_dependency v name) (quiet_world c (reset_is_quiet name) w s legal is)
      ∙ ap (λ x. blocks_of_dependency (world_from w x) name) a.1
      ∙ ap (λ v. blocks_of_dependency v name) (done_world (with_dependency w d.0.number new) a.0 d.2)
      ∙ written_blocks (number_named w name as_dependency) w.dependencies d.0.number d.0.value new known.named known.there

  -- an add leaves one more, the object in the slot at its address
  pub record HasAdded (slot : Slot) : Type 0 where
    pub id : ℕ
    pub refers : target_of_slot w slot ≡ Some id
    pub added : blocks_of_dependency (world_after w s) name ≡ with_last (blocks_of_dependency w name) (id, address_or_null w id)

  pub add_leaves_one : (slot : Slot) → s.call ≡ call.DependencyAdd name slot → HasAdded slot
  add_leaves_one slot is =
      let c = call.DependencyAdd name slot in
      let due = sym ok ∙ quiet_answer c (add_is_quiet name slot) w s legal is in
      let a = accepted_act (act_dependency_add w name slot) (Replied reply.Ok) due refl in
      let d = bind_ok (dependency_named w name) _ a.0 a.1 in
      let from = bind_ok (slot_in w slot) _ a.0 d.2 in
      let object = bind_ok (object_in w from.0.value) _ a.0 from.2 in
      let found = object_found w from.0.value object.0 object.1 in
      let known = dependency_is w name d.0 d.1 in
      let id = object.0.number in
      let new : Dependency = with_added d.0.value id (address_or_null w id) in
      record {
        id = id;
        refers = ap target_found from.1 ∙ found.0;
        added = ap (λ v. blocks_of_dependency v name) (quiet_world c (add_is_quiet name slot) w s legal is)
            ∙ ap (λ x. blocks_of_dependency (world_from w x) name) a.1
            ∙ ap (λ v. blocks_of_dependency v name) (done_world (with_dependency w d.0.number new) a.0 object.2)
            ∙ written_blocks (number_named w name as_dependency) w.dependencies d.0.number d.0.value new known.named known.there
            ∙ ap (λ blocks. with_last blocks (id, address_or_null w id)) (sym (named_blocks w name d.0 known));
      }

-- ---- a collection leaves them

move_leaves_them : (w : World) (m : Move) → (world_after_move w m).dependencies ≡ w.dependencies
move_leaves_them w (moves.Flip zones chain generation) = refl
move_leaves_them w m = (move_leaves w m refl).dependencies

moves_leave_them : (w : World) (ms : List Move) → (world_after_moves w ms).dependencies ≡ w.dependencies
moves_leave_them w [] = refl
moves_leave_them w (m ∷ ms) = moves_leave_them (world_after_move w m) ms ∙ move_leaves_them w m

pub collect_leaves_blocks : (w : World) (s : Step) (name : Name) → s.call ≡ call.Collect
    → blocks_of_dependency (world_after w s) name ≡ blocks_of_dependency w name
collect_leaves_blocks w s name is =
    ap (λ c. blocks_of_dependency (world_after_call w c s.moves s.answer) name) is
    ∙ ap (λ names. blocks_in (option_and_then as_dependency (thing_in names name)) (world_after_moves w s.moves).dependencies)
    (moves_leave_tables w s.moves).names
    ∙ ap (blocks_in (number_named w name as_dependency)) (moves_leave_them w s.moves)
