-- What calls by keys say of the slots of a list, where the key of its table is good.
use Rattle.std.proofs.Common.{◌≡◌, ℕ, ◌∙◌, ap, subst, List, [], Some}
use Rattle.std.specs.Prelude.{IfSome, option_map}
use Rattle.mps_base.specs.declared.moves.Move.{Move}
use Rattle.mps_base.specs.declared.names.Name.{Name}
use Rattle.mps_base.specs.declared.names.Slot.{Slot}
use Rattle.mps_format.specs.Layout.{Layout}
use Rattle.mps_model.specs.declared.call.Call.TheVariants as call
use Rattle.mps_model.specs.Answer.{Answer}
use Rattle.mps_laws.specs.Held.{letter, slot_of_t}
use Rattle.mps_keys.specs.Keys.{KeysState, table_name}
use Rattle.mps_keys.specs.declared.keys.TableKey.{TableKey}
use Rattle.mps_heap_spec.specs.Keyed.{both, keyed_slot, keyed_slots}
use Rattle.mps_heap_spec.specs.State.{HeapState}
use Rattle.mps_heap_spec.specs.declared.found.KeyedSlot.{KeyedSlot}
use Rattle.mps_refinement.specs.RightMoving.{IsRightMoving}
use Rattle.mps_refinement.specs.RightStep.{IsRight}

-- a slot by the key of the table
abbrev pub slot_by : TableKey → (index : ℕ) → KeyedSlot
slot_by table index = record { table = table; index = index }

module _ (k : KeysState) (table : TableKey) (good : table_name k table ≡ Some (letter 116)) where
  one_is : (index : ℕ) → keyed_slot k (slot_by table index) ≡ Some (slot_of_t index)
  one_is index = ap (option_map (λ (name : Name). record { name = name; index = index })) good

  two_are : (one other : ℕ) → keyed_slots k (slot_by table one) (slot_by table other) ≡ Some (slot_of_t one, slot_of_t other)
  two_are one other =
      ap (λ o. both o (keyed_slot k (slot_by table other))) (one_is one) ∙ ap (λ o. both (Some (slot_of_t one)) o) (one_is other)

module _ {F : Type 0} (layout : F → Layout) (h : HeapState F) (table : TableKey)
    (good : table_name h.names.keys table ≡ Some (letter 116)) where
  pub copy_by : (after : HeapState F) (answer : Answer)
      → IfSome (keyed_slots h.names.keys (slot_by table 1) (slot_by table 0)) (λ at.
      IsRight layout h (call.Copy at.0 at.1) [] answer after)
      → IsRight layout h (call.Copy (slot_of_t 1) (slot_of_t 0)) [] answer after
  copy_by after answer right =
      subst (λ o. IfSome o (λ (at : Slot × Slot). IsRight layout h (call.Copy at.0 at.1) [] answer after))
      (two_are h.names.keys table good 1 0) right

  pub null_by : (answer : Answer) → IfSome (keyed_slot h.names.keys (slot_by table 1)) (λ at. IsRight layout h (call.Null at) [] answer h)
      → IsRight layout h (call.Null (slot_of_t 1)) [] answer h
  null_by answer right =
      subst (λ o. IfSome o (λ (at : Slot). IsRight layout h (call.Null at) [] answer h)) (one_is h.names.keys table good 1) right

  pub number_by : (answer : Answer)
      → IfSome (keyed_slot h.names.keys (slot_by table 1)) (λ at. IsRight layout h (call.Number at 1) [] answer h)
      → IsRight layout h (call.Number (slot_of_t 1) 1) [] answer h
  number_by answer right =
      subst (λ o. IfSome o (λ (at : Slot). IsRight layout h (call.Number at 1) [] answer h)) (one_is h.names.keys table good 1) right

  pub get_by : (trail trail_after : List Move) (answer : Answer) (after : HeapState F)
      → IfSome (keyed_slots h.names.keys (slot_by table 1) (slot_by table 1)) (λ at.
      IsRightMoving layout h (call.Get at.0 at.1 2) trail trail_after answer after)
      → IsRightMoving layout h (call.Get (slot_of_t 1) (slot_of_t 1) 2) trail trail_after answer after
  get_by trail trail_after answer after right =
      subst (λ o. IfSome o (λ (at : Slot × Slot). IsRightMoving layout h (call.Get at.0 at.1 2) trail trail_after answer after))
      (two_are h.names.keys table good 1 1) right
