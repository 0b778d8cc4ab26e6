-- What a write to one cell keeps: they are as many, and refer to what they did or to what a slot of the client does.
use Rattle.std.proofs.Common.{◌≡◌, ◌∙◌, ◌⊎◌, ℕ, Bool, true, refl, ap, List, length, map, Option, Some, None, subst, inl, inr}
use Rattle.std.proofs.lemmas.Option.{none-some, slice_get-map}
use Rattle.std.specs.Prelude.{Ok, option_map, slice_get, slice_set}
use Rattle.std.specs.Option.{option_map_or}
use Rattle.mps_base.specs.declared.names.Slot.{Slot}
use Rattle.mps_model.specs.declared.call.Call.{Call}
use Rattle.mps_model.specs.Graph.{Cell, HeadCell, NumberCell, ReferenceCell, contains, entries, target_of_cell, targets_of_cells, retargeted, tagged, with_tag_cell, with_target_cell}
use Rattle.mps_model.specs.World.{World}
use Rattle.mps_model.specs.Checked.{Found, slot_in}
use Rattle.mps_changes.specs.Change.{IsWritten, WritesTag, WritesReference, WritesNumber}
use Rattle.mps_changes.proofs.Lookups.{length-slice_set, map-slice_set}
use Rattle.mps_changes.proofs.Entries.{among_entries, written_entries}

-- ---- how many they are

pub length-with_target_cell : (cells : List Cell) (k : ℕ) (target : Option ℕ) → length (with_target_cell cells k target) ≡ length cells
length-with_target_cell cells k target = of_cell (slice_get cells k)
  where
    of_cell : (o : Option Cell) → length (option_map_or (λ cell. slice_set cells k (retargeted cell target)) o cells) ≡ length cells
    of_cell None = refl
    of_cell (Some c) = length-slice_set cells k (retargeted c target)

length-with_tag_cell : (cells : List Cell) (k tag : ℕ) → length (with_tag_cell cells k tag) ≡ length cells
length-with_tag_cell cells k tag = of_cell (slice_get cells k)
  where
    of_cell : (o : Option Cell) → length (option_map_or (λ cell. slice_set cells k (tagged cell tag)) o cells) ≡ length cells
    of_cell None = refl
    of_cell (Some c) = length-slice_set cells k (tagged c tag)

-- cells are written over as many
pub written_length : {marked : Bool} {c : Call} {judged v : World} {cells : List Cell} {change : List Cell → List Cell}
    → IsWritten marked c judged v cells change → (old : List Cell) → length (change old) ≡ length old
written_length (WritesReference k source from e) old = length-with_target_cell old k from.value
written_length (WritesTag k tag low) old = length-with_tag_cell old k tag
written_length (WritesNumber k was value there) old = length-slice_set old k (NumberCell value)

-- ---- what they refer to

-- a written cell refers to what it refers to, the others to what they did
targets_written : (cells : List Cell) (k : ℕ) (cell : Cell) (t : ℕ) → contains (targets_of_cells (slice_set cells k cell)) t ≡ true
    → (contains (targets_of_cells cells) t ≡ true) ⊎ (target_of_cell cell ≡ Some t)
targets_written cells k cell t h =
    written_entries (map target_of_cell cells) k (target_of_cell cell) t
    (subst (λ os. contains (entries os) t ≡ true) (map-slice_set target_of_cell cells k cell) h)

target_of_retargeted : (cell : Cell) (target : Option ℕ) (t : ℕ) → target_of_cell (retargeted cell target) ≡ Some t → target ≡ Some t
target_of_retargeted HeadCell target t e = absurd (none-some t e)
target_of_retargeted (NumberCell number) target t e = absurd (none-some t e)
target_of_retargeted (ReferenceCell old tag) target t e = e

targets_retargeted : (cells : List Cell) (k : ℕ) (target : Option ℕ) (t : ℕ)
    → contains (targets_of_cells (with_target_cell cells k target)) t ≡ true
    → (contains (targets_of_cells cells) t ≡ true) ⊎ (target ≡ Some t)
targets_retargeted cells k target t h = of_cell (slice_get cells k) h
  where
    of_cell : (o : Option Cell) → contains (targets_of_cells
        (option_map_or (λ cell. slice_set cells k (retargeted cell target)) o cells)) t ≡ true
        → (contains (targets_of_cells cells) t ≡ true) ⊎ (target ≡ Some t)
    of_cell None e = inl e
    of_cell (Some c) e = elim (targets_written cells k (retargeted c target) t e) [
      | inl old ↦ inl old
      | inr new ↦ inr (target_of_retargeted c target t new)
    ]

target_of_tagged : (cell : Cell) (tag t : ℕ) → target_of_cell (tagged cell tag) ≡ Some t → target_of_cell cell ≡ Some t
target_of_tagged HeadCell tag t e = e
target_of_tagged (NumberCell number) tag t e = e
target_of_tagged (ReferenceCell target old) tag t e = e

-- a cell with another tag refers to what it did
targets_tagged : (cells : List Cell) (k tag t : ℕ) → contains (targets_of_cells (with_tag_cell cells k tag)) t ≡ true
    → contains (targets_of_cells cells) t ≡ true
targets_tagged cells k tag t h = of_cell (slice_get cells k) refl h
  where
    of_cell : (o : Option Cell) → slice_get cells k ≡ o
        → contains (targets_of_cells (option_map_or (λ cell. slice_set cells k (tagged cell tag)) o cells)) t ≡ true
        → contains (targets_of_cells cells) t ≡ true
    of_cell None there e = e
    of_cell (Some c) there e = elim (targets_written cells k (tagged c tag) t e) [
      | inl was ↦ was
      | inr new ↦
          among_entries (map target_of_cell cells) k t
          (slice_get-map target_of_cell cells k ∙ ap (option_map target_of_cell) there ∙ ap Some (target_of_tagged c tag t new))
    ]

-- a slot of the client refers to an object
pub record IsOfSlot (v : World) (t : ℕ) : Type 0 where
  pub slot : Slot
  pub from : Found (Option ℕ)
  pub there : slot_in v slot ≡ Ok from
  pub is : from.value ≡ Some t

pub written_targets : {marked : Bool} {c : Call} {judged v : World} {cells : List Cell} {change : List Cell → List Cell}
    → IsWritten marked c judged v cells change → (old : List Cell) (t : ℕ) → contains (targets_of_cells (change old)) t ≡ true
    → (contains (targets_of_cells old) t ≡ true) ⊎ IsOfSlot v t
written_targets (WritesReference k source from e) old t h = elim (targets_retargeted old k from.value t h) [
  | inl was ↦ inl was
  | inr new ↦ inr (record { slot = source; from = from; there = e; is = new })
]
written_targets (WritesTag k tag low) old t h = inl (targets_tagged old k tag t h)
written_targets (WritesNumber k was value there) old t h = elim (targets_written old k (NumberCell value) t h) [
  | inl was ↦ inl was
  | inr none ↦ absurd (none-some t none)
]
