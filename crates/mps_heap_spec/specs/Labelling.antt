-- The outcomes of the calls on labels of the log. Neither takes memory.
use Rattle.std.specs.Prelude.{ℕ, ◌≡◌, Some, Result, Ok, Err}
use Rattle.mps_base.specs.declared.address.Addr.{Addr}
use Rattle.mps_base.specs.declared.names.Name.{Name}
use Rattle.mps_base.specs.declared.names.Slot.{Slot}
use Rattle.mps_base.specs.declared.refusal.Refusal.{Refusal}
use Rattle.mps_format.specs.Layout.{Layout}
use Rattle.mps_model.specs.Checked.{Checked, ◌>>=◌, ◌>>◌}
use Rattle.mps_model.specs.Making.{most_labels, refuse_at_limit}
use Rattle.mps_names.specs.State.{Updates}
use Rattle.mps_names.specs.declared.names.Thing.TheVariants as thing
use Rattle.mps_heap_spec.specs.State.{HeapState}
use Rattle.mps_heap_spec.specs.Finding.{label_named, object_in}
use Rattle.mps_heap_spec.specs.Making.{refuse_taken}

module _ {F : Type 0} where
  abbrev pub check_label : HeapState F → Name → Checked (Unit {0})
  check_label h name = do
    refuse_taken h name
    refuse_at_limit h.names.counts.labels most_labels

  -- a label is its name, with the number of those before it
  pub record MakesLabel (h : HeapState F) (name : Name) (number : ℕ) (after : HeapState F) : Type 0 where
    pub number_is : number ≡ h.names.counts.labels
    pub names : Updates h.names after.names name (Some (thing.Label number))
    pub state : after ≡ record h { names = after.names }

  -- a call that makes a label: it is refused, or the label is made
  pub data IsInterning (h : HeapState F) (name : Name) : Result ℕ Refusal → HeapState F → Type 0 where
    NotInterned : {why : Refusal} → check_label h name ≡ Err why → IsInterning h name (Err why) h
    Interned : {after : HeapState F} {number : ℕ} → check_label h name ≡ Ok tt → MakesLabel h name number after
        → IsInterning h name (Ok number) after

-- the address of the object in a slot, and the number of a label
abbrev pub labelled : {F : Type 0} → (layout : F → Layout) → HeapState F → Slot → Name → Checked (Addr × ℕ)
labelled layout h slot name = do
  object ← object_in layout h slot
  number ← label_named h name
  Ok (record { 0 = object.at }, number)
