-- The commands that reserve, initialise and commit objects, and those on manual blocks: their refusals in order.
use Rattle.std.specs.Prelude.{◌≡◌, false, Some, None, List, [], ◌∷◌}
use Rattle.mps_base.specs.declared.refusal.Refusal.TheVariants as refusal
use Rattle.mps_model.specs.declared.call.Call.TheVariants as call
use Rattle.mps_model.specs.declared.reply.Reply.TheVariants as reply
use Rattle.mps_model.specs.Graph.{entry_at}
use Rattle.mps_model.specs.Reply.{graph_after}
use Rattle.mps_refusal_examples.specs.Row.{Row, refuses, replies, AreAnswered}
use Rattle.mps_refusal_examples.specs.SmallWorld.{unknown, a_table, amc_pool, mfs_pool, mvff_pool, idle_point, open_point, doomed_point, amcz_point, lo_point, pair_slot, null_slot, weak_slot, slot_past, no_slot, full_place, empty_place, place_past, no_place, front, mapped, leaf, exact_point, pair_cells, small}

-- ---- reserve, init and commit

-- three grains are more than the limit allows, and two stand nowhere side by side
abbrev pub reserve : List Row
reserve =
    refuses (call.Reserve unknown 0) refusal.BadName
    ∷ refuses (call.Reserve amc_pool (front 3 1)) refusal.BadName
    ∷ refuses (call.Reserve open_point 0) refusal.BadHead
    ∷ refuses (call.Reserve open_point (front 1025 0)) refusal.Open
    ∷ refuses (call.Reserve doomed_point (front 1025 0)) refusal.Open
    ∷ refuses (call.Reserve idle_point (front 1025 0)) (refusal.CommitLimit 3 3 5)
    ∷ refuses (call.Reserve idle_point (front 513 0)) (refusal.NoRun 2 1)
    ∷ replies (call.Reserve idle_point (front 3 1)) reply.Ok
    ∷ []

-- the pools have the format `front`
abbrev pub reserve_heads : List Row
reserve_heads =
    refuses (call.Reserve idle_point (front 1 0)) refusal.BadHead
    ∷ refuses (call.Reserve idle_point (front 3 3)) refusal.BadHead
    ∷ refuses (call.Reserve idle_point (front 65537 0)) refusal.BadHead
    ∷ refuses (call.Reserve idle_point (mapped 3 2)) refusal.BadHead
    ∷ refuses (call.Reserve idle_point (leaf 3)) refusal.BadHead
    ∷ replies (call.Reserve idle_point (front 3 2)) reply.Ok
    ∷ refuses (call.Reserve amcz_point (front 3 1)) refusal.BadHead
    ∷ replies (call.Reserve amcz_point (front 3 0)) reply.Ok
    ∷ refuses (call.Reserve lo_point (front 3 1)) refusal.BadHead
    ∷ replies (call.Reserve lo_point (front 3 0)) reply.Ok
    ∷ []

abbrev pub init_number : List Row
init_number =
    refuses (call.InitNumber unknown 3 9) refusal.BadName
    ∷ refuses (call.InitNumber amc_pool 3 9) refusal.BadName
    ∷ refuses (call.InitNumber idle_point 3 9) refusal.NotOpen
    ∷ refuses (call.InitNumber open_point 3 9) refusal.BadIndex
    ∷ refuses (call.InitNumber open_point 0 9) refusal.NotANumber
    ∷ refuses (call.InitNumber open_point 1 9) refusal.NotANumber
    ∷ replies (call.InitNumber open_point 2 9) reply.Ok
    ∷ []

abbrev pub init_reference : List Row
init_reference =
    refuses (call.InitReference unknown 3 slot_past) refusal.BadName
    ∷ refuses (call.InitReference idle_point 3 no_slot) refusal.BadName
    ∷ refuses (call.InitReference idle_point 3 slot_past) refusal.BadIndex
    ∷ refuses (call.InitReference idle_point 3 pair_slot) refusal.NotOpen
    ∷ refuses (call.InitReference open_point 3 pair_slot) refusal.BadIndex
    ∷ refuses (call.InitReference open_point 0 pair_slot) refusal.NotARef
    ∷ refuses (call.InitReference open_point 2 pair_slot) refusal.NotARef
    ∷ replies (call.InitReference open_point 1 pair_slot) reply.Ok
    ∷ replies (call.InitReference open_point 1 null_slot) reply.Ok
    ∷ []

-- a reservation that a flip ended is checked as any other
abbrev pub init_doomed : List Row
init_doomed =
    refuses (call.InitNumber doomed_point 3 9) refusal.BadIndex
    ∷ refuses (call.InitNumber doomed_point 1 9) refusal.NotANumber
    ∷ replies (call.InitNumber doomed_point 2 9) reply.Ok
    ∷ refuses (call.InitReference doomed_point 3 no_slot) refusal.BadName
    ∷ refuses (call.InitReference doomed_point 3 pair_slot) refusal.BadIndex
    ∷ refuses (call.InitReference doomed_point 2 pair_slot) refusal.NotARef
    ∷ replies (call.InitReference doomed_point 1 pair_slot) reply.Ok
    ∷ []

abbrev pub commit : List Row
commit =
    refuses (call.Commit unknown slot_past) refusal.BadName
    ∷ refuses (call.Commit idle_point no_slot) refusal.BadName
    ∷ refuses (call.Commit idle_point slot_past) refusal.BadIndex
    ∷ refuses (call.Commit idle_point null_slot) refusal.NotOpen
    ∷ replies (call.Commit open_point null_slot) reply.Ok
    ∷ refuses (call.Commit doomed_point slot_past) refusal.BadIndex
    ∷ replies (call.Commit doomed_point null_slot) reply.Flipped
    ∷ []

-- ---- manual blocks

abbrev pub alloc : List Row
alloc =
    refuses (call.Alloc unknown 0 place_past) refusal.BadName
    ∷ refuses (call.Alloc a_table 0 place_past) refusal.BadName
    ∷ refuses (call.Alloc amc_pool 0 no_place) refusal.WrongPool
    ∷ refuses (call.Alloc mvff_pool 0 no_place) refusal.BadName
    ∷ refuses (call.Alloc mvff_pool 0 place_past) refusal.BadIndex
    ∷ refuses (call.Alloc mvff_pool 0 full_place) refusal.BadSize
    ∷ refuses (call.Alloc mvff_pool 65537 full_place) refusal.BadSize
    ∷ refuses (call.Alloc mfs_pool 3 full_place) refusal.BadSize
    ∷ refuses (call.Alloc mvff_pool 1025 full_place) refusal.NameTaken
    ∷ refuses (call.Alloc mvff_pool 1025 empty_place) (refusal.CommitLimit 3 3 5)
    ∷ refuses (call.Alloc mvff_pool 513 empty_place) (refusal.NoRun 2 1)
    ∷ replies (call.Alloc mvff_pool 512 empty_place) reply.Ok
    ∷ replies (call.Alloc mfs_pool 4 empty_place) reply.Ok
    ∷ []

abbrev pub free : List Row
free =
    refuses (call.Free no_place) refusal.BadName
    ∷ refuses (call.Free pair_slot) refusal.BadName
    ∷ refuses (call.Free place_past) refusal.BadIndex
    ∷ refuses (call.Free empty_place) refusal.NotABlock
    ∷ replies (call.Free full_place) reply.Ok
    ∷ []

abbrev pub load : List Row
load =
    refuses (call.Load no_place 4) refusal.BadName
    ∷ refuses (call.Load place_past 4) refusal.BadIndex
    ∷ refuses (call.Load empty_place 4) refusal.NotABlock
    ∷ refuses (call.Load full_place 4) refusal.BadIndex
    ∷ replies (call.Load full_place 0) (reply.Number 1)
    ∷ replies (call.Load full_place 3) (reply.Number 4)
    ∷ []

abbrev pub store : List Row
store =
    refuses (call.Store no_place 4 9) refusal.BadName
    ∷ refuses (call.Store place_past 4 9) refusal.BadIndex
    ∷ refuses (call.Store empty_place 4 9) refusal.NotABlock
    ∷ refuses (call.Store full_place 4 9) refusal.BadIndex
    ∷ replies (call.Store full_place 3 9) reply.Ok
    ∷ []

-- ---- what the tables promise

pub record ReservationsAnswer : Type 0 where
  pub reserve : AreAnswered small reserve
  pub reserve_heads : AreAnswered small reserve_heads
  pub init_number : AreAnswered small init_number
  pub init_reference : AreAnswered small init_reference
  pub init_doomed : AreAnswered small init_doomed
  pub commit : AreAnswered small commit

-- an accepted `init` stores; into a reservation that a flip ended it stores nothing
pub record InitStores : Type 0 where
  pub a_number : entry_at (graph_after false small small (call.InitNumber open_point 2 9)).points 1
      ≡ exact_point 0 (Some (record { head = front 3 1; cells = pair_cells None 9; is_doomed = false }))
  pub a_reference : entry_at (graph_after false small small (call.InitReference open_point 1 weak_slot)).points 1
      ≡ exact_point 0 (Some (record { head = front 3 1; cells = pair_cells (Some 1) 0; is_doomed = false }))
  pub no_number : graph_after false small small (call.InitNumber doomed_point 2 9) ≡ small.graph
  pub no_reference : graph_after false small small (call.InitReference doomed_point 1 weak_slot) ≡ small.graph

pub record ManualBlocksAnswer : Type 0 where
  pub alloc : AreAnswered small alloc
  pub free : AreAnswered small free
  pub load : AreAnswered small load
  pub store : AreAnswered small store
