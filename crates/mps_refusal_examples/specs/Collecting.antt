-- The commands of collection, finalization and dependencies: their refusals in order. Those of one collection that runs hold
-- of any.
use Rattle.std.specs.Prelude.{◌≡◌, ℕ, ◌+◌, List, [], ◌∷◌, length}
use Rattle.mps_base.specs.declared.refusal.Refusal.TheVariants as refusal
use Rattle.mps_model.specs.declared.call.Call.TheVariants as call
use Rattle.mps_model.specs.declared.reply.Reply.TheVariants as reply
use Rattle.mps_model.specs.Collection.{Collection}
use Rattle.mps_model.specs.World.{World}
use Rattle.mps_refusal_examples.specs.Row.{Row, refuses, replies, dumps, AreAnswered}
use Rattle.mps_refusal_examples.specs.SmallWorld.{unknown, a_table, a_chain, a_dependency, amc_pool, pair_slot, null_slot, weak_slot, slot_past, no_slot, front, small, running}

-- ---- collections

abbrev pub start : List Row
start =
    replies call.Start reply.Ok
    ∷ []

abbrev pub start_while_running : List Row
start_while_running =
    refuses call.Start refusal.Running
    ∷ []

abbrev pub start_chain : List Row
start_chain =
    refuses (call.StartChain unknown 2) refusal.BadName
    ∷ refuses (call.StartChain amc_pool 2) refusal.BadName
    ∷ refuses (call.StartChain a_chain 2) refusal.BadIndex
    ∷ replies (call.StartChain a_chain 1) reply.Ok
    ∷ []

abbrev pub start_chain_while_running : List Row
start_chain_while_running =
    refuses (call.StartChain unknown 2) refusal.BadName
    ∷ refuses (call.StartChain a_chain 2) refusal.BadIndex
    ∷ refuses (call.StartChain a_chain 1) refusal.Running
    ∷ []

-- the commands of collection that refuse nothing
abbrev pub never_refused : List Row
never_refused =
    replies (call.Step 0) reply.Idle
    ∷ replies call.Collect reply.Ok
    ∷ replies call.Clamp reply.Ok
    ∷ replies call.Park reply.Ok
    ∷ replies call.Release reply.Ok
    ∷ replies call.Live (reply.Pair 3 9)
    ∷ []

abbrev pub never_refused_while_running : List Row
never_refused_while_running =
    replies (call.Step 0) reply.More
    ∷ replies call.Clamp reply.Ok
    ∷ replies call.Release reply.Ok
    ∷ replies call.Live (reply.Pair 3 9)
    ∷ []

-- the address of a block, of a word within it, of a reservation, and of no segment
abbrev pub dump : List Row
dump =
    dumps (call.Dump 0x1000) (front 3 1 ∷ 0x1000 ∷ 7 ∷ [])
    ∷ dumps (call.Dump 0x5000) (1 ∷ 2 ∷ 3 ∷ 4 ∷ [])
    ∷ refuses (call.Dump 0x1008) refusal.NotABlock
    ∷ refuses (call.Dump 0x1018) refusal.NotABlock
    ∷ refuses (call.Dump 0x9000) refusal.NotABlock
    ∷ []

abbrev pub dump_while_running : List Row
dump_while_running =
    refuses (call.Dump 0x9000) refusal.Running
    ∷ refuses (call.Dump 0x1000) refusal.Running
    ∷ []

-- ---- finalization

abbrev pub finalize : List Row
finalize =
    refuses (call.Finalize no_slot) refusal.BadName
    ∷ refuses (call.Finalize slot_past) refusal.BadIndex
    ∷ refuses (call.Finalize null_slot) refusal.NullRef
    ∷ replies (call.Finalize pair_slot) reply.Ok
    ∷ []

abbrev pub finalize_where_full : List Row
finalize_where_full =
    refuses (call.Finalize no_slot) refusal.BadName
    ∷ refuses (call.Finalize slot_past) refusal.BadIndex
    ∷ refuses (call.Finalize null_slot) refusal.NullRef
    ∷ refuses (call.Finalize pair_slot) (refusal.TooMany 65536)
    ∷ []

abbrev pub finalize_where_one_is_left : List Row
finalize_where_one_is_left =
    replies (call.Finalize pair_slot) reply.Ok
    ∷ []

abbrev pub definalize : List Row
definalize =
    refuses (call.Definalize no_slot) refusal.BadName
    ∷ refuses (call.Definalize slot_past) refusal.BadIndex
    ∷ refuses (call.Definalize null_slot) refusal.NullRef
    ∷ refuses (call.Definalize weak_slot) refusal.NotRegistered
    ∷ replies (call.Definalize pair_slot) reply.Ok
    ∷ []

abbrev pub message : List Row
message =
    refuses (call.Message no_slot) refusal.BadName
    ∷ refuses (call.Message slot_past) refusal.BadIndex
    ∷ replies (call.Message null_slot) reply.None_
    ∷ []

-- the small world with these registrations and messages
abbrev pub with_registered : (registered messages : List ℕ) → World
with_registered registered messages = record small { graph = record small.graph { registered = registered; messages = messages } }

abbrev pub message_that_waits : List Row
message_that_waits =
    refuses (call.Message slot_past) refusal.BadIndex
    ∷ replies (call.Message null_slot) reply.Ok
    ∷ []

-- ---- dependencies

abbrev pub ldreset : List Row
ldreset =
    refuses (call.DependencyReset unknown) refusal.BadName
    ∷ refuses (call.DependencyReset a_table) refusal.BadName
    ∷ replies (call.DependencyReset a_dependency) reply.Ok
    ∷ []

abbrev pub ldadd : List Row
ldadd =
    refuses (call.DependencyAdd unknown slot_past) refusal.BadName
    ∷ refuses (call.DependencyAdd a_dependency no_slot) refusal.BadName
    ∷ refuses (call.DependencyAdd a_dependency slot_past) refusal.BadIndex
    ∷ refuses (call.DependencyAdd a_dependency null_slot) refusal.NullRef
    ∷ replies (call.DependencyAdd a_dependency pair_slot) reply.Ok
    ∷ []

abbrev pub ldmerge : List Row
ldmerge =
    refuses (call.DependencyMerge unknown a_dependency) refusal.BadName
    ∷ refuses (call.DependencyMerge a_dependency unknown) refusal.BadName
    ∷ refuses (call.DependencyMerge a_dependency a_table) refusal.BadName
    ∷ replies (call.DependencyMerge a_dependency a_dependency) reply.Ok
    ∷ []

abbrev pub ldstale : List Row
ldstale =
    refuses (call.DependencyStale unknown) refusal.BadName
    ∷ refuses (call.DependencyStale a_table) refusal.BadName
    ∷ replies (call.DependencyStale a_dependency) reply.No
    ∷ []

-- ---- what the tables promise

pub record CollectionsAnswer : Type 0 where
  pub start : AreAnswered small start
  pub start_while_running : (c : Collection) → AreAnswered (running c) start_while_running
  pub start_chain : AreAnswered small start_chain
  pub start_chain_while_running : (c : Collection) → AreAnswered (running c) start_chain_while_running
  pub never_refused : AreAnswered small never_refused
  pub never_refused_while_running : (c : Collection) → AreAnswered (running c) never_refused_while_running
  pub dump : AreAnswered small dump
  pub dump_while_running : (c : Collection) → AreAnswered (running c) dump_while_running

pub record FinalizationAnswers : Type 0 where
  pub finalize : AreAnswered small finalize
  -- whatever is registered and waits, where these are 65,536 together, or one less
  pub finalize_where_full : (registered messages : List ℕ) → length registered + length messages ≡ 65536
      → AreAnswered (with_registered registered messages) finalize_where_full
  pub finalize_where_one_is_left : (registered messages : List ℕ) → length registered + length messages ≡ 65535
      → AreAnswered (with_registered registered messages) finalize_where_one_is_left
  pub definalize : AreAnswered small definalize
  pub message : AreAnswered small message
  pub message_that_waits : AreAnswered (with_registered [] (1 ∷ [])) message_that_waits

pub record DependenciesAnswer : Type 0 where
  pub ldreset : AreAnswered small ldreset
  pub ldadd : AreAnswered small ldadd
  pub ldmerge : AreAnswered small ldmerge
  pub ldstale : AreAnswered small ldstale
