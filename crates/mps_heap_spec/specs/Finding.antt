-- What a call finds by its words, and with which refusal it finds nothing.
use Rattle.std.specs.Prelude.{ℕ, ◌+◌, ◌%◌, ◌==◌, not, nat_le, if◌then◌else◌, Option, Some, None, option_and_then, option_map, Ok, Err, List, length, slice_get}
use Rattle.mps_base.specs.Address.{Address, word_of}
use Rattle.mps_base.specs.declared.names.Name.{Name}
use Rattle.mps_base.specs.declared.names.Slot.{Slot}
use Rattle.mps_base.specs.declared.refusal.Refusal.TheVariants as refusal
use Rattle.mps_buffer.specs.declared.point.Point.{Point}
use Rattle.mps_buffer.specs.Points.{point_at}
use Rattle.mps_format.specs.Layout.{Layout}
use Rattle.mps_trace.specs.LdState.{LdState}
use Rattle.mps_model.specs.Checked.{Checked, ◌>>=◌, ◌>>◌, required, refuse_when}
use Rattle.mps_names.specs.State.{as_label, thing_named}
use Rattle.mps_names.specs.declared.names.Thing.{Thing}
use Rattle.mps_names.specs.declared.names.Thing.TheVariants as thing
use Rattle.mps_root.specs.State.{kept}
use Rattle.mps_root.specs.declared.roots.Stored.{Stored}
use Rattle.mps_heap_spec.specs.State.{HeapState, format_over}
use Rattle.mps_heap_spec.specs.declared.found.Block.{Block}
use Rattle.mps_heap_spec.specs.declared.found.CellFound.{CellFound}
use Rattle.mps_heap_spec.specs.declared.found.Entry.{Entry}
use Rattle.mps_heap_spec.specs.declared.found.Kept.{Kept}
use Rattle.mps_format.specs.declared.pool.Pool.{Pool}

-- ---- things by name

abbrev pub as_chain : Thing → Option ℕ
as_chain (thing.Chain number) = Some number
as_chain _ = None

abbrev pub as_pool : Thing → Option ℕ
as_pool (thing.Pool number) = Some number
as_pool _ = None

abbrev pub as_table : Thing → Option ℕ
as_table (thing.Table key) = Some key
as_table _ = None

abbrev pub as_area : Thing → Option ℕ
as_area (thing.Area key) = Some key
as_area _ = None

abbrev pub as_blocks : Thing → Option ℕ
as_blocks (thing.Blocks number) = Some number
as_blocks _ = None

abbrev pub as_point : Thing → Option ℕ
as_point (thing.Point key) = Some key
as_point _ = None

abbrev pub as_dependency : Thing → Option ℕ
as_dependency (thing.Dependency number) = Some number
as_dependency _ = None

abbrev pub as_transform : Thing → Option ℕ
as_transform (thing.Transform number) = Some number
as_transform _ = None

-- what is kept under a key, if there is something
abbrev pub under : {A : Type 0} → (key : ℕ) → Option A → Checked (Kept A)
under key (Some value) = Ok (record { key = key; value = value })
under key None = Err refusal.BadName

-- the entry at an index of a list that is kept under a key
abbrev pub entry_in : {A : Type 0} → Kept (List A) → (index : ℕ) → Checked (Entry A)
entry_in from index = do
  value ← required (slice_get from.value index) refusal.BadIndex
  Ok (record { key = from.key; index = index; value = value })

module _ {F : Type 0} (h : HeapState F) where
  -- the number or the key of the thing of the wanted kind that has a name
  abbrev pub key_named : Name → (Thing → Option ℕ) → Checked ℕ
  key_named name as_wanted = required (option_and_then as_wanted (thing_named h.names name)) refusal.BadName

  -- a chain, with how many generations it has
  abbrev pub chain_named : Name → Checked (Kept ℕ)
  chain_named name = do
    number ← key_named name as_chain
    under number (option_map length (slice_get h.chains.chains number))

  abbrev pub pool_named : Name → Checked (Kept (Pool F))
  pool_named name = do
    number ← key_named name as_pool
    under number (slice_get h.pools number)

  abbrev pub point_named : Name → Checked (Kept Point)
  point_named name = do
    key ← key_named name as_point
    under key (point_at h.points key)

  abbrev pub dependency_named : Name → Checked (Kept LdState)
  dependency_named name = do
    number ← key_named name as_dependency
    under number (slice_get h.dependencies number)

  -- the number of the transform that has a name
  abbrev pub transform_named : Name → Checked ℕ
  transform_named name = key_named name as_transform

  -- the number of the label that has a name
  abbrev pub label_named : Name → Checked ℕ
  label_named name = key_named name as_label

  -- a slot of a table
  abbrev pub slot_in : Slot → Checked (Entry Address)
  slot_in slot = do
    key ← key_named slot.name as_table
    table ← under key (kept h.roots.tables key)
    entry_in table slot.index

  -- a word of an area
  abbrev pub word_in : Slot → Checked (Entry Stored)
  word_in slot = do
    key ← key_named slot.name as_area
    area ← under key (kept h.roots.areas key)
    entry_in area slot.index

  -- a place of a table of blocks
  abbrev pub block_place_in : Slot → Checked (Entry Address)
  block_place_in slot = do
    number ← key_named slot.name as_blocks
    places ← under number (slice_get h.roots.blocks number)
    entry_in places slot.index

-- refused if the address is null
abbrev pub not_null : Address → Checked Address
not_null at = if at == 0 then Err refusal.NullRef else Ok at

-- ---- objects and cells

module _ {F : Type 0} (layout : F → Layout) (h : HeapState F) where
  -- the object at an address that stands in a slot
  abbrev pub object_at : Address → Checked (Block F)
  object_at address = do
    at ← not_null address
    format ← required (format_over h at) refusal.NullRef
    head ← required (slice_get h.segs.words (word_of at)) refusal.NullRef
    refuse_when (not ((layout format).is_valid head)) refusal.NullRef
    Ok (record { at = at; format = format; head = head })

  -- the object that a slot refers to
  abbrev pub object_in : Slot → Checked (Block F)
  object_in slot = do
    from ← slot_in h slot
    object_at from.value

module _ {F : Type 0} (layout : F → Layout) (words : List ℕ) (b : Block F) where
  -- cell k
  abbrev pub cell_at : (k : ℕ) → Checked CellFound
  cell_at k = do
    refuse_when (nat_le ((layout b.format).size b.head) k) refusal.BadIndex
    value ← required (slice_get words (word_of b.at + k)) refusal.BadIndex
    Ok (record { word = word_of b.at + k; value = value })

  -- cell k, if it is a number: no reference, and not the head
  abbrev pub number_cell_at : (k : ℕ) → Checked CellFound
  number_cell_at k = do
    cell ← cell_at k
    refuse_when (k == 0) refusal.NotANumber
    refuse_when ((layout b.format).is_reference b.head k) refusal.NotANumber
    Ok cell

  -- cell k, if it is a reference
  abbrev pub reference_cell_at : (k : ℕ) → Checked CellFound
  reference_cell_at k = do
    cell ← cell_at k
    refuse_when (not ((layout b.format).is_reference b.head k)) refusal.NotARef
    Ok cell

-- the reference word that leads to an address, a multiple of 8, and has the tag of another
abbrev pub retargeted : Layout → (word : ℕ) → (to : Address) → ℕ
retargeted f word to = if to % 8 == 0 then f.retarget word to else word

-- the reference word that leads to what another does, and has this tag, a number below 8
abbrev pub retagged : Layout → (word tag : ℕ) → ℕ
retagged f word tag = f.target word + tag

-- ---- a state with one thing changed

module _ {F : Type 0} (h : HeapState F) where
  abbrev pub with_words : List ℕ → HeapState F
  with_words words = record h { segs = record h.segs { words = words } }
