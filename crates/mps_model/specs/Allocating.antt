-- The commands that reserve, initialise and commit objects, and those on manual blocks.
use Rattle.std.specs.Prelude.{ℕ, ◌+◌, ◌-◌, Bool, false, not, ◌&&◌, ◌==◌, if◌then◌else◌, Option, Some, None, is_some, List, [], length, replicate, slice_get, slice_set, Ok, Err}
use Rattle.std.specs.Option.{option_map_or}
use Rattle.mps_base.specs.Address.{Address, Id, address_of_word, address_of_grain}
use Rattle.mps_base.specs.Run.{Run}
use Rattle.mps_base.specs.Placement.{Placement, Place, NewSegment, OverLimit, NoFreeRun}
use Rattle.mps_base.specs.declared.names.Name.{Name}
use Rattle.mps_base.specs.declared.names.Slot.{Slot}
use Rattle.mps_base.specs.declared.refusal.Refusal.TheVariants as refusal
use Rattle.mps_format.specs.Layout.{Layout}
use Rattle.mps_model.specs.declared.reply.Reply.TheVariants as reply
use Rattle.mps_model.specs.Graph.{Graph, PoolFrames, Cell, NumberCell, Body, Automatic, Manual, Object, Point, Reservation, for_object, with_last, with_target_cell, new_cells, has_references, frames_changed}
use Rattle.mps_model.specs.World.{World, Pool, PoolKind, Collected, OneSize, AnySize, Frames, has_frames, is_automatic_kind, is_copying_pool, is_leaf_kind, pool_at, pool_is, pool_of}
use Rattle.mps_model.specs.Placement.{ForReserve, ForAlloc, placement_of, buffer_of}
use Rattle.mps_model.specs.Making.{is_block_size, is_weak_rank}
use Rattle.mps_model.specs.Checked.{Act, Checked, Found, Numbered, ◌>>=◌, ◌>>◌, required, refuse_when, says, done, point_named, pool_named, slot_in, block_place_in, number_at, reference_at, words_of_body, with_graph}

-- ---- writing into the lists of a graph

-- a slot refers to this
abbrev pub with_slot : Graph → Found (Option ℕ) → (target : Option ℕ) → Graph
with_slot g slot target = record g { tables = slice_set g.tables slot.number (Some (slice_set slot.list slot.index target)) }

-- a place of a table of blocks has this
abbrev pub with_block_place : Graph → Found (Option ℕ) → (block : Option ℕ) → Graph
with_block_place g place block = record g { blocks = slice_set g.blocks place.number (slice_set place.list place.index block) }

-- a point has this reservation, or none
abbrev pub with_reservation : Graph → Numbered Point → Option Reservation → Graph
with_reservation g point reservation =
    record g { points = slice_set g.points point.number (Some (record point.value { reservation = reservation })) }

-- ---- reserve

-- what the formats' numbers mean to a pool
abbrev pub layout_of : World → Pool → Layout
layout_of w p = w.formats p.format

-- whether a pool takes blocks with this head
abbrev pub takes_head : World → Pool → (head : ℕ) → Bool
takes_head w p head =
    (layout_of w p).is_valid head && not (is_leaf_kind p.kind && has_references (layout_of w p) head)

-- what a `reserve` checks before it looks for a place
pub record Reserving : Type 0 where
  pub point : Numbered Point
  pub cells : List Cell

abbrev pub check_reserve : World → Name → (head : ℕ) → Checked Reserving
check_reserve w name head = do
  point ← point_named w name
  pool ← required (pool_at w point.value.pool) refusal.BadName
  refuse_when (not (takes_head w pool head)) refusal.BadHead
  refuse_when (is_some point.value.reservation) refusal.Open
  Ok (record { point = point; cells = new_cells (layout_of w pool) head })

-- refused if there is neither a place nor room for a new segment
abbrev pub refuse_without_place : Placement → Checked (Unit {0})
refuse_without_place (Place word) = Ok tt
refuse_without_place (NewSegment grain grains) = Ok tt
refuse_without_place (OverLimit committed need limit) = Err (refusal.CommitLimit committed need limit)
refuse_without_place (NoFreeRun need longest) = Err (refusal.NoRun need longest)

-- the address of a placement
abbrev pub address_of_placement : Placement → ℕ
address_of_placement (Place word) = address_of_word word
address_of_placement (NewSegment grain grains) = address_of_grain grain
address_of_placement (OverLimit committed need limit) = 0
address_of_placement (NoFreeRun need longest) = 0

-- a run without n numbers at its front
abbrev pub without_front : Run → (count : ℕ) → Run
without_front r count = record { from = r.from + count; count = r.count - count }

-- the buffer of a point after a reservation of n words there
abbrev pub buffer_after : World → (number : ℕ) → Point → (words : ℕ) → Run
buffer_after w number p words =
    if is_copying_pool w p.pool then without_front (buffer_of w number) words else buffer_of w number

-- the world with a reservation at a point, at an address
abbrev pub with_reserved : World → Numbered Point → Reservation → (address : Address) → World
with_reserved w point r address = record w {
  graph = with_reservation w.graph point (Some r);
  point_memories = slice_set w.point_memories point.number (record {
    reserved_at = address;
    buffer = buffer_after w point.number point.value (length r.cells);
  });
}

-- reserves: the place is judged before the segment is taken, and found in the world after it
abbrev pub act_reserve : (judged after : World) → Name → (head : ℕ) → Checked Act
act_reserve judged after name head = do
  reserving ← check_reserve judged name head
  refuse_without_place (placement_of judged (ForReserve reserving.point.number (length reserving.cells)))
  point ← point_named after name
  done (with_reserved after point (record { head = head; cells = reserving.cells; is_doomed = false })
      (address_of_placement (placement_of after (ForReserve point.number (length reserving.cells)))))

-- ---- init and commit

-- the cells of a reservation changed; nothing if a flip ended it
abbrev pub with_reserved_cells : World → Numbered Point → Reservation → List Cell → World
with_reserved_cells w point r cells =
    if r.is_doomed then w else with_graph w (with_reservation w.graph point (Some (record r { cells = cells })))

abbrev pub act_init_number : World → Name → (k value : ℕ) → Checked Act
act_init_number w name k value = do
  point ← point_named w name
  r ← required point.value.reservation refusal.NotOpen
  number_at r.cells k
  done (with_reserved_cells w point r (slice_set r.cells k (NumberCell value)))

abbrev pub act_init_reference : World → Name → (k : ℕ) → Slot → Checked Act
act_init_reference w name k source = do
  point ← point_named w name
  from ← slot_in w source
  r ← required point.value.reservation refusal.NotOpen
  reference_at r.cells k
  done (with_reserved_cells w point r (with_target_cell r.cells k from.value))

-- the object that a reservation becomes
abbrev pub committed_object : Point → Reservation → Object
committed_object p r = record { pool = p.pool; body = Automatic r.head r.cells (is_weak_rank p.rank) }

-- the graph with one more object, its last
abbrev pub with_object : Graph → Object → Graph
with_object g o = record g { objects = with_last g.objects o }

-- the graph after a commit of a live reservation into a slot
abbrev pub graph_committed : Graph → Numbered Point → Reservation → Found (Option ℕ) → Graph
graph_committed g point r slot =
    with_slot (with_object (with_reservation g point None) (committed_object point.value r)) slot (Some (length g.objects))

-- the address of the reservation of a point
abbrev pub reserved_address : World → (point : ℕ) → Address
reserved_address w point = option_map_or (λ memory. memory.reserved_at) (slice_get w.point_memories point) 0

-- the world after that commit: the new object lies where the reservation did
abbrev pub world_committed : World → Numbered Point → Reservation → Found (Option ℕ) → World
world_committed w point r slot = record w {
  graph = graph_committed w.graph point r slot;
  addresses = with_last w.addresses (Some (reserved_address w point.number));
}

-- `flipped` exactly if a flip ended the reservation
abbrev pub act_commit : World → Name → Slot → Checked Act
act_commit w name target = do
  point ← point_named w name
  slot ← slot_in w target
  r ← required point.value.reservation refusal.NotOpen
  if r.is_doomed then says reply.Flipped (with_graph w (with_reservation w.graph point None))
      else done (world_committed w point r slot)

-- ---- manual blocks

-- whether a manual pool has blocks of n words
abbrev pub allows_size : PoolKind → (words : ℕ) → Bool
allows_size (Collected kind) words = false
allows_size (OneSize size) words = is_block_size words && words == size
allows_size AnySize words = is_block_size words
allows_size Frames words = is_block_size words

-- the frames of pools, with one more block of a pool, if that has frames: its last
abbrev pub with_block_noted : List PoolFrames → (pool : ℕ) → (block : Id) → List PoolFrames
with_block_noted fs pool block = frames_changed fs pool (λ f. record f { blocks = with_last f.blocks block })

-- the graph with a new block of zeros in a place
abbrev pub graph_allocated : Graph → (pool words : ℕ) → Found (Option ℕ) → Graph
graph_allocated g pool words place =
    record (with_block_place (with_object g (record { pool = pool; body = Manual (replicate words 0) })) place (Some (length g.objects))) {
      frames = with_block_noted g.frames pool (length g.objects);
    }

-- the world with a new block of a pool in a place, at its placement in the world in which the call is judged
abbrev pub world_allocated : (judged after : World) → (pool words : ℕ) → Found (Option ℕ) → World
world_allocated judged after pool words place = record after {
  graph = graph_allocated after.graph pool words place;
  addresses = with_last after.addresses (Some (address_of_placement (placement_of judged (ForAlloc pool words))));
}

abbrev pub act_alloc : (judged after : World) → (pool : Name) → (words : ℕ) → Slot → Checked Act
act_alloc judged after pool words into = do
  from ← pool_named judged pool
  refuse_when (is_automatic_kind from.value.kind) refusal.WrongPool
  place ← block_place_in judged into
  refuse_when (not (allows_size from.value.kind words)) refusal.BadSize
  refuse_when (is_some place.value) refusal.NameTaken
  refuse_without_place (placement_of judged (ForAlloc from.number words))
  done (world_allocated judged after from.number words place)

-- the id of the block in a place
abbrev pub block_in : Found (Option ℕ) → Checked ℕ
block_in place = required place.value refusal.NotABlock

-- a block of a pool of frames goes by its frame alone
abbrev pub act_free : World → Slot → Checked Act
act_free w from = do
  place ← block_place_in w from
  id ← block_in place
  refuse_when (pool_is has_frames w (pool_of w id)) refusal.WrongPool
  done (with_graph w (with_block_place w.graph place None))

abbrev pub words_at : Graph → (id : Id) → List ℕ
words_at g id = for_object g id (λ o. words_of_body o.body) []

abbrev pub act_load : World → Slot → (k : ℕ) → Checked Act
act_load w from k = do
  place ← block_place_in w from
  id ← block_in place
  word ← required (slice_get (words_at w.graph id) k) refusal.BadIndex
  says (reply.Number word) w

abbrev pub body_with_word : Body → (k value : ℕ) → Body
body_with_word (Automatic head cells is_weak) k value = Automatic head cells is_weak
body_with_word (Manual words) k value = Manual (slice_set words k value)

-- a graph with one word of a manual block changed
abbrev pub graph_with_word : Graph → (id k value : ℕ) → Graph
graph_with_word g id k value = record g {
  objects = for_object g id (λ o. slice_set g.objects id (record o { body = body_with_word o.body k value })) g.objects;
}

abbrev pub act_store : World → Slot → (k value : ℕ) → Checked Act
act_store w into k value = do
  place ← block_place_in w into
  id ← block_in place
  required (slice_get (words_at w.graph id) k) refusal.BadIndex
  done (with_graph w (graph_with_word w.graph id k value))
