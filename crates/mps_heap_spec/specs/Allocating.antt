-- The outcomes of `reserve`, `init` and `commit`.
use Rattle.std.specs.Prelude.{ℕ, ◌==◌, ◌&&◌, Bool, not, Some, option_and_then, is_some, Ok, slice_get, if◌then◌else◌}
use Rattle.mps_seg.specs.Arena.{answer_of_placement}
use Rattle.mps_base.specs.Trail.{Moves, with_move}
use Rattle.mps_base.specs.declared.address.Addr.{Addr}
use Rattle.mps_base.specs.declared.moves.Move.TheVariants as moves
use Rattle.mps_base.specs.declared.names.Name.{Name}
use Rattle.mps_base.specs.declared.names.Slot.{Slot}
use Rattle.mps_base.specs.declared.refusal.Refusal.TheVariants as refusal
use Rattle.mps_buffer.specs.declared.point.Held.{Held}
use Rattle.mps_buffer.specs.declared.point.Point.{Point}
use Rattle.mps_buffer.specs.Points.{with_point, placement_at, with_place, with_reservation, with_block, after_open, after_close}
use Rattle.mps_format.specs.Layout.{Layout}
use Rattle.mps_model.specs.Checked.{Checked, ◌>>=◌, ◌>>◌, required, refuse_when}
use Rattle.mps_model.specs.Graph.{has_references}
use Rattle.mps_seg.specs.Segs.{moves_after}
use Rattle.mps_heap_spec.specs.State.{HeapState}
use Rattle.mps_format.specs.Pools.{format_of_pool, is_leaf_pool}
use Rattle.mps_heap_spec.specs.declared.found.Block.{Block}
use Rattle.mps_heap_spec.specs.declared.found.CellFound.{CellFound}
use Rattle.mps_heap_spec.specs.declared.found.Committed.{Committed}
use Rattle.mps_heap_spec.specs.declared.found.Committed.TheVariants.{AsBlock, AsFlipped}
use Rattle.mps_heap_spec.specs.declared.found.Kept.{Kept}
use Rattle.mps_heap_spec.specs.declared.found.Reserving.{Reserving}
use Rattle.mps_format.specs.declared.pool.Pool.{Pool}
use Rattle.mps_heap_spec.specs.Coming.{Outcome, Moved, done}
use Rattle.mps_heap_spec.specs.Finding.{point_named, slot_in, number_cell_at, reference_cell_at}
use Rattle.mps_heap_spec.specs.Objects.{with_reference, with_slot, with_word}
use Rattle.mps_base.specs.Address.{Address}
use Rattle.mps_seg.specs.Collecting.{is_white_at, keeping}

module _ {F : Type 0} (layout : F → Layout) where
  -- whether a pool takes blocks with this head, in its format
  abbrev pub takes_head : Pool F → (format : F) → (head : ℕ) → Bool
  takes_head p format head = (layout format).is_valid head && not (is_leaf_pool p && has_references (layout format) head)

  abbrev pub check_reserve : HeapState F → Name → (head : ℕ) → Checked Reserving
  check_reserve h name head = do
    point ← point_named h name
    of ← required (slice_get h.pools point.value.pool) refusal.BadName
    format ← required (format_of_pool of) refusal.WrongPool
    refuse_when (not (takes_head of format head)) refusal.BadHead
    refuse_when (is_some point.value.reservation) refusal.Open
    Ok (record { point = point; words = (layout format).size head })

  -- the reservation that was made at an address
  abbrev pub held_at : HeapState F → (at : Addr) → (head words : ℕ) → Held
  held_at h at head words = record { at = at; head = head; words = words; flips = h.points.flips }

  -- the state with a reservation at a point
  abbrev pub with_reserved : HeapState F → Kept Point → Held → HeapState F
  with_reserved h point held = record h {
    segs = with_reservation (with_place h.segs point.value (placement_at point.value h.segs held.words)) held;
    points = with_point h.points point.key (Some (after_open point.value (placement_at point.value h.segs held.words) held));
  }

  abbrev pub after_reserve : HeapState F → Moves → Name → (head : ℕ) → Checked (Moved F (Unit {0}))
  after_reserve h trail name head = do
    r ← check_reserve h name head
    at ← answer_of_placement (placement_at r.point.value h.segs r.words)
    Ok (record {
      answer = tt;
      state = with_reserved h r.point (held_at h at head r.words);
      trail = moves_after (placement_at r.point.value h.segs r.words) r.point.value.pool 0 trail;
    })

  -- ---- init

  -- the block that a reservation is to become
  abbrev pub block_held : HeapState F → Point → Held → Checked (Block F)
  block_held h p held = do
    format ← required (option_and_then format_of_pool (slice_get h.pools p.pool)) refusal.NotOpen
    refuse_when (not ((layout format).is_valid held.head)) refusal.NotOpen
    Ok (record { at = held.at.0; format = format; head = held.head })

  -- a word of a reservation is written; nothing if a flip ended it
  abbrev pub with_reserved_word : HeapState F → Held → (word value : ℕ) → HeapState F
  with_reserved_word h held word value = if held.flips == h.points.flips then with_word h word value else h

  -- a reference of a reservation refers to an address; nothing changes if a flip ended it
  abbrev pub with_reserved_reference : HeapState F → Held → Block F → CellFound → (to : Address) → HeapState F
  with_reserved_reference h held b cell to = if held.flips == h.points.flips then with_reference layout h b cell to else h

  abbrev pub number_initialised : HeapState F → Name → (k value : ℕ) → Checked (Outcome F (Unit {0}))
  number_initialised h name k value = do
    point ← point_named h name
    held ← required point.value.reservation refusal.NotOpen
    block ← block_held h point.value held
    cell ← number_cell_at layout h.segs.words block k
    done (with_reserved_word h held cell.word value)

  abbrev pub reference_initialised : HeapState F → Name → (k : ℕ) → (source : Slot) → Checked (Outcome F (Unit {0}))
  reference_initialised h name k source = do
    point ← point_named h name
    from ← slot_in h source
    held ← required point.value.reservation refusal.NotOpen
    block ← block_held h point.value held
    cell ← reference_cell_at layout h.segs.words block k
    done (with_reserved_reference h held block cell from.value)

-- ---- commit

module _ {F : Type 0} where
  -- the state where the point has no reservation any more
  abbrev pub with_closed : HeapState F → Kept Point → HeapState F
  with_closed h point = record h { points = with_point h.points point.key (Some (after_close point.value)) }

  -- a block that was made while a collection runs is kept, if it lies in a condemned segment: the collection doesn't free it
  abbrev pub keeping_new : HeapState F → (at : Address) → HeapState F
  keeping_new h at = record h { segs = if is_some h.running && is_white_at h.segs at then keeping h.segs at else h.segs }

  abbrev pub after_commit : HeapState F → Moves → Name → Slot → Checked (Moved F Committed)
  after_commit h trail name target = do
    point ← point_named h name
    slot ← slot_in h target
    held ← required point.value.reservation refusal.NotOpen
    Ok (if held.flips == h.points.flips then record {
      answer = AsBlock;
      state = with_slot (keeping_new (record (with_closed h point) { segs = with_block h.segs held }) held.at.0) slot held.at.0;
      trail = with_move trail (moves.Commit held.at held.words point.value.pool);
    } else record { answer = AsFlipped; state = with_closed h point; trail = trail })
