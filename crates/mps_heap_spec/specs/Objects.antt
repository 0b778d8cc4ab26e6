-- The outcomes of the calls on slots and objects.
use Rattle.std.specs.Prelude.{ℕ, ◌==◌, ◌%◌, Bool, Ok, slice_set}
use Rattle.mps_base.specs.Address.{Address}
use Rattle.mps_base.specs.declared.names.Slot.{Slot}
use Rattle.mps_format.specs.Layout.{Layout}
use Rattle.mps_model.specs.Checked.{Checked, ◌>>=◌}
use Rattle.mps_model.specs.Tagging.{tag_count}
use Rattle.mps_root.specs.State.{with_item}
use Rattle.mps_heap_spec.specs.State.{HeapState}
use Rattle.mps_heap_spec.specs.Coming.{Outcome, done}
use Rattle.mps_heap_spec.specs.Finding.{slot_in, object_in, object_at, number_cell_at, reference_cell_at, retagged, with_words}
use Rattle.mps_heap_spec.specs.Referring.{referring}
use Rattle.mps_heap_spec.specs.declared.found.Block.{Block}
use Rattle.mps_heap_spec.specs.declared.found.CellFound.{CellFound}
use Rattle.mps_heap_spec.specs.declared.found.Entry.{Entry}

module _ {F : Type 0} where
  -- a slot has this address
  abbrev pub with_slot : HeapState F → Entry Address → (at : Address) → HeapState F
  with_slot h slot at = record h { roots = record h.roots { tables = with_item h.roots.tables slot.key slot.index at } }

  -- a word of the arena is written
  abbrev pub with_word : HeapState F → (word value : ℕ) → HeapState F
  with_word h word value = with_words h (slice_set h.segs.words word value)

  abbrev pub after_copy : HeapState F → (target source : Slot) → Checked (Outcome F (Unit {0}))
  after_copy h target source = do
    into ← slot_in h target
    from ← slot_in h source
    done (with_slot h into from.value)

  abbrev pub after_clear : HeapState F → Slot → Checked (Outcome F (Unit {0}))
  after_clear h slot = do
    into ← slot_in h slot
    done (with_slot h into 0)

  -- whether two slots hold the same
  abbrev pub are_same : HeapState F → (slot other : Slot) → Checked Bool
  are_same h slot other = do
    one ← slot_in h slot
    two ← slot_in h other
    Ok (one.value == two.value)

  abbrev pub is_null : HeapState F → Slot → Checked Bool
  is_null h slot = do
    from ← slot_in h slot
    Ok (from.value == 0)

module _ {F : Type 0} (layout : F → Layout) where
  abbrev pub head_in : HeapState F → Slot → Checked ℕ
  head_in h slot = do
    object ← object_in layout h slot
    Ok object.head

  abbrev pub address_in : HeapState F → Slot → Checked Address
  address_in h slot = do
    object ← object_in layout h slot
    Ok object.at

  -- the number in cell k
  abbrev pub number_in : HeapState F → Slot → (k : ℕ) → Checked ℕ
  number_in h slot k = do
    object ← object_in layout h slot
    cell ← number_cell_at layout h.segs.words object k
    Ok cell.value

  abbrev pub number_set : HeapState F → Slot → (k value : ℕ) → Checked (Outcome F (Unit {0}))
  number_set h slot k value = do
    object ← object_in layout h slot
    cell ← number_cell_at layout h.segs.words object k
    done (with_word h cell.word value)

  -- a slot has what cell k of an object refers to
  abbrev pub reference_got : HeapState F → (target source : Slot) → (k : ℕ) → Checked (Outcome F (Unit {0}))
  reference_got h target source k = do
    into ← slot_in h target
    object ← object_in layout h source
    cell ← reference_cell_at layout h.segs.words object k
    done (with_slot h into ((layout object.format).target cell.value))

  -- a cell of a block refers to an address
  abbrev pub with_reference : HeapState F → Block F → CellFound → (to : Address) → HeapState F
  with_reference h b cell to = record h { segs = referring (layout b.format) h.segs b.at cell to }

  -- cell k of an object refers to what a slot has
  abbrev pub reference_put : HeapState F → (target : Slot) → (k : ℕ) → (source : Slot) → Checked (Outcome F (Unit {0}))
  reference_put h target k source = do
    into ← slot_in h target
    from ← slot_in h source
    object ← object_at layout h into.value
    cell ← reference_cell_at layout h.segs.words object k
    done (with_reference h object cell from.value)

  -- the tag of the reference in cell k
  abbrev pub tag_got : HeapState F → Slot → (k : ℕ) → Checked ℕ
  tag_got h slot k = do
    object ← object_in layout h slot
    cell ← reference_cell_at layout h.segs.words object k
    Ok (cell.value % tag_count)

  -- the reference in cell k has this tag, and refers to what it did
  abbrev pub tag_set : HeapState F → Slot → (k tag : ℕ) → Checked (Outcome F (Unit {0}))
  tag_set h slot k tag = do
    object ← object_in layout h slot
    cell ← reference_cell_at layout h.segs.words object k
    done (with_word h cell.word (retagged (layout object.format) cell.value tag))
