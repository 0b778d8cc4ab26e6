-- The commands on objects, slots and areas.
use Rattle.std.specs.Prelude.{ℕ, ◌-◌, Bool, true, false, not, ◌||◌, ◌==◌, if◌then◌else◌, Option, Some, None, is_none, slice_set, Ok, Err}
use Rattle.std.specs.Option.{option_map_or}
use Rattle.mps_base.specs.Address.{Id, Address}
use Rattle.mps_base.specs.declared.names.Slot.{Slot}
use Rattle.mps_base.specs.declared.refusal.Refusal.TheVariants as refusal
use Rattle.mps_model.specs.declared.reply.Reply.TheVariants as reply
use Rattle.mps_model.specs.Graph.{Graph, NumberCell, AreaWord, PlainWord, Hold, graph_with_cells, with_target_cell}
use Rattle.mps_model.specs.Collection.{Collection, is_condemned, is_settled}
use Rattle.mps_model.specs.World.{World, address_of, block_of_word, is_copying_object, shown_word}
use Rattle.mps_model.specs.Checked.{Act, Checked, Found, ◌>>=◌, ◌>>◌, says, done, tells, slot_in, word_in, object_in, cells_of_body, head_of_body, number_at, reference_at, with_graph}
use Rattle.mps_model.specs.Allocating.{with_slot}

-- ---- objects and slots

-- a reference is read after the read barrier's moves, which may have splatted it
abbrev pub act_get : (judged after : World) → Slot → Slot → (k : ℕ) → Checked Act
act_get judged after target source k = do
  into ← slot_in judged target
  from ← slot_in judged source
  object ← object_in judged from.value
  reference_at (cells_of_body object.value.body) k
  now ← object_in after from.value
  reference ← reference_at (cells_of_body now.value.body) k
  done (with_graph after (with_slot after.graph into reference))

abbrev pub act_put : World → Slot → (k : ℕ) → Slot → Checked Act
act_put w target k source = do
  into ← slot_in w target
  from ← slot_in w source
  object ← object_in w into.value
  reference_at (cells_of_body object.value.body) k
  done (with_graph w (graph_with_cells w.graph object.number (λ cells. with_target_cell cells k from.value)))

abbrev pub act_number : World → Slot → (k : ℕ) → Checked Act
act_number w slot k = do
  from ← slot_in w slot
  object ← object_in w from.value
  number ← number_at (cells_of_body object.value.body) k
  says (reply.Number number) w

abbrev pub act_set_number : World → Slot → (k value : ℕ) → Checked Act
act_set_number w slot k value = do
  into ← slot_in w slot
  object ← object_in w into.value
  number_at (cells_of_body object.value.body) k
  done (with_graph w (graph_with_cells w.graph object.number (λ cells. slice_set cells k (NumberCell value))))

abbrev pub act_copy : World → Slot → Slot → Checked Act
act_copy w target source = do
  into ← slot_in w target
  from ← slot_in w source
  done (with_graph w (with_slot w.graph into from.value))

abbrev pub act_clear : World → Slot → Checked Act
act_clear w slot = do
  into ← slot_in w slot
  done (with_graph w (with_slot w.graph into None))

-- both null, or the same object
abbrev pub same_target : Option ℕ → Option ℕ → Bool
same_target None None = true
same_target (Some these) (Some those) = these == those
same_target _ _ = false

abbrev pub act_same : World → Slot → Slot → Checked Act
act_same w slot other = do
  one ← slot_in w slot
  two ← slot_in w other
  tells (same_target one.value two.value) w

abbrev pub act_null : World → Slot → Checked Act
act_null w slot = do
  from ← slot_in w slot
  tells (is_none from.value) w

abbrev pub act_head : World → Slot → Checked Act
act_head w slot = do
  from ← slot_in w slot
  object ← object_in w from.value
  says (reply.Head (head_of_body object.value.body)) w

-- the address of a live object; a client never holds another
abbrev pub address_or_null : World → (id : Id) → Address
address_or_null w id = option_map_or (λ at. at) (address_of w id) 0

abbrev pub act_address : World → Slot → Checked Act
act_address w slot = do
  from ← slot_in w slot
  object ← object_in w from.value
  says (reply.Word (address_or_null w object.number)) w

-- ---- areas

-- a word of an area holds this
abbrev pub with_word : Graph → Found AreaWord → AreaWord → Graph
with_word g at word = record g { areas = slice_set g.areas at.number (Some (slice_set at.list at.index word)) }

-- how a word that lies in a live block is taken
pub data Poked : Type 0 where
  -- it holds the object
  AsBlock : Poked
  -- it is a number
  AsNumber : Poked
  -- the fate of the object isn't decided yet: as the collector has marked it or not
  AsMarked : Poked

-- in a running collection: a number if the block is condemned, not settled, and of a copying pool
abbrev pub poked_in : World → (id : Id) → Option Collection → Poked
poked_in w id None = AsBlock
poked_in w id (Some c) =
    if not (is_condemned c id) || is_settled c id then AsBlock
    else (if is_copying_object w id then AsNumber else AsMarked)

abbrev pub poked : World → (id : Id) → Poked
poked w id = poked_in w id w.collection

-- an area word that holds an object, by a word that lies in it
abbrev pub hold_of : World → (id word : ℕ) → AreaWord
hold_of w id word = Hold id (word - address_or_null w id)

abbrev pub act_poked : World → Found AreaWord → (id word : ℕ) → Poked → (marked : Bool) → Checked Act
act_poked w at id word AsBlock marked = says reply.Block (with_graph w (with_word w.graph at (hold_of w id word)))
act_poked w at id word AsNumber marked = says reply.Plain (with_graph w (with_word w.graph at (PlainWord word)))
act_poked w at id word AsMarked true = says reply.Block (with_graph w (with_word w.graph at (hold_of w id word)))
act_poked w at id word AsMarked false = says reply.Plain (with_graph w (with_word w.graph at (PlainWord word)))

abbrev pub act_poke_in : World → Found AreaWord → (word : ℕ) → (marked : Bool) → Option ℕ → Checked Act
act_poke_in w at word marked None = says reply.Plain (with_graph w (with_word w.graph at (PlainWord word)))
act_poke_in w at word marked (Some id) = act_poked w at id word (poked w id) marked

-- `marked` says whether the collector has marked a block whose fate isn't decided: there alone it counts
abbrev pub act_poke : (marked : Bool) → World → Slot → (word : ℕ) → Checked Act
act_poke marked w place word = do
  at ← word_in w place
  act_poke_in w at word marked (block_of_word w word)

abbrev pub act_peek : World → Slot → Checked Act
act_peek w place = do
  at ← word_in w place
  says (reply.Word (shown_word w at.value)) w

abbrev pub act_pin : World → Slot → Slot → Checked Act
act_pin w place slot = do
  at ← word_in w place
  from ← slot_in w slot
  object ← object_in w from.value
  done (with_graph w (with_word w.graph at (Hold object.number 0)))

-- the object that a word holds
abbrev pub held_in : AreaWord → Checked ℕ
held_in (Hold id offset) = Ok id
held_in (PlainWord number) = Err refusal.NotARef

abbrev pub act_take : World → Slot → Slot → Checked Act
act_take w slot place = do
  into ← slot_in w slot
  at ← word_in w place
  id ← held_in at.value
  done (with_graph w (with_slot w.graph into (Some id)))
