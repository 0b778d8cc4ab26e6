-- The commands of collection: what they answer and leave, besides what their moves do.
use Rattle.std.specs.Prelude.{ℕ, ◌+◌, ◌-◌, nat_lt, nat_le, if◌then◌else◌, Option, Some, option_map, List, [], ◌∷◌, length, sum_by, Ok}
use Rattle.mps_base.specs.Address.{Address}
use Rattle.mps_base.specs.declared.names.Name.{Name}
use Rattle.mps_base.specs.declared.names.Slot.{Slot}
use Rattle.mps_base.specs.declared.refusal.Refusal.TheVariants as refusal
use Rattle.mps_model.specs.declared.reply.Reply.TheVariants as reply
use Rattle.mps_model.specs.Answer.{Dumped}
use Rattle.mps_model.specs.Graph.{with_last, position_of_first, without_first}
use Rattle.mps_model.specs.Collection.{Collection}
use Rattle.mps_model.specs.World.{World, ArenaState, Unclamped, Clamped, Parked, pairs_in, is_running, live_ids, id_at, words_of}
use Rattle.mps_model.specs.Image.{image_of}
use Rattle.mps_model.specs.Checked.{Act, Checked, Found, ◌>>=◌, ◌>>◌, required, refuse_when, says, done, chain_named, slot_in, object_in, with_graph}
use Rattle.mps_model.specs.Allocating.{with_slot}

-- ---- the arena's state. A call that leaves the arena unclamped or clamped, and a `collect`, empties every transform; a `park` does not

abbrev pub with_state : World → ArenaState → World
with_state w s = record w { state = s }

abbrev pub act_start : (judged after : World) → Checked Act
act_start judged after = do
  refuse_when (is_running judged) refusal.Running
  done (with_state after Unclamped)

abbrev pub act_start_chain : (judged after : World) → Name → (generation : ℕ) → Checked Act
act_start_chain judged after chain generation = do
  on ← chain_named judged chain
  refuse_when (nat_le (length on.value) generation) refusal.BadIndex
  refuse_when (is_running judged) refusal.Running
  done (with_state after Unclamped)

abbrev pub act_step : (after : World) → Checked Act
act_step after = says (if is_running after then reply.More else reply.Idle) after

abbrev pub act_collect : (after : World) → Checked Act
act_collect after = done (with_state after (Parked []))

abbrev pub act_clamp : World → Checked Act
act_clamp w = done (with_state w Clamped)

abbrev pub act_park : (after : World) → Checked Act
act_park after = done (with_state after (Parked (pairs_in after.state)))

abbrev pub act_release : World → Checked Act
act_release w = done (with_state w Unclamped)

-- ---- finalization

-- n registrations and waiting messages together
abbrev pub most_registrations : ℕ
most_registrations = 65536

abbrev pub act_finalize : World → Slot → Checked Act
act_finalize w slot = do
  from ← slot_in w slot
  object ← object_in w from.value
  refuse_when (nat_le most_registrations (length w.graph.registered + length w.graph.messages)) (refusal.TooMany most_registrations)
  done (with_graph w (record w.graph { registered = with_last w.graph.registered object.number }))

-- one less if a position before it was taken away
abbrev pub without_position : (count position : ℕ) → ℕ
without_position count position = if nat_lt position count then count - 1 else count

-- a running collection, where the registration at this position was taken away
abbrev pub without_registration : (position : ℕ) → Collection → Collection
without_registration position c = record c {
  registered_before = without_position c.registered_before position;
  examined = without_position c.examined position;
}

abbrev pub act_definalize : World → Slot → Checked Act
act_definalize w slot = do
  from ← slot_in w slot
  object ← object_in w from.value
  position ← required (position_of_first w.graph.registered object.number) refusal.NotRegistered
  done (record w {
    graph = record w.graph { registered = without_first w.graph.registered object.number };
    collection = option_map (without_registration position) w.collection;
  })

-- the first message goes into a slot
abbrev pub act_message_in : World → Found (Option ℕ) → List ℕ → Checked Act
act_message_in w into [] = says reply.None_ w
act_message_in w into (id ∷ ids) = done (with_graph w (with_slot (record w.graph { messages = ids }) into (Some id)))

abbrev pub act_message : World → Slot → Checked Act
act_message w slot = do
  into ← slot_in w slot
  act_message_in w into w.graph.messages

-- ---- what lives

-- how many blocks live, and the sum of their words
abbrev pub act_live : World → Checked Act
act_live w = says (reply.Pair (length (live_ids w)) (sum_by (words_of w) (live_ids w))) w

abbrev pub act_dump : World → (address : Address) → Checked Act
act_dump w address = do
  refuse_when (is_running w) refusal.Running
  id ← required (id_at w address) refusal.NotABlock
  Ok (record { answer = Dumped (image_of w id); world = w })
