-- The commands on objects, slots and areas: their refusals in order.
use Rattle.std.specs.Prelude.{List, [], ◌∷◌}
use Rattle.mps_base.specs.declared.refusal.Refusal.TheVariants as refusal
use Rattle.mps_model.specs.declared.call.Call.TheVariants as call
use Rattle.mps_model.specs.declared.reply.Reply.TheVariants as reply
use Rattle.mps_refusal_examples.specs.Row.{Row, refuses, replies, AreAnswered}
use Rattle.mps_refusal_examples.specs.SmallWorld.{pair_slot, null_slot, weak_slot, slot_past, no_slot, plain_word, holding_word, word_past, no_word, front, small}

-- ---- cells

abbrev pub get : List Row
get =
    refuses (call.Get no_slot slot_past 3) refusal.BadName
    ∷ refuses (call.Get plain_word slot_past 3) refusal.BadName
    ∷ refuses (call.Get slot_past no_slot 3) refusal.BadIndex
    ∷ refuses (call.Get null_slot no_slot 3) refusal.BadName
    ∷ refuses (call.Get null_slot slot_past 3) refusal.BadIndex
    ∷ refuses (call.Get pair_slot null_slot 3) refusal.NullRef
    ∷ refuses (call.Get null_slot pair_slot 3) refusal.BadIndex
    ∷ refuses (call.Get null_slot pair_slot 0) refusal.NotARef
    ∷ refuses (call.Get null_slot pair_slot 2) refusal.NotARef
    ∷ replies (call.Get null_slot pair_slot 1) reply.Ok
    ∷ []

abbrev pub put : List Row
put =
    refuses (call.Put no_slot 3 slot_past) refusal.BadName
    ∷ refuses (call.Put slot_past 3 no_slot) refusal.BadIndex
    ∷ refuses (call.Put null_slot 3 no_slot) refusal.BadName
    ∷ refuses (call.Put null_slot 3 slot_past) refusal.BadIndex
    ∷ refuses (call.Put null_slot 3 pair_slot) refusal.NullRef
    ∷ refuses (call.Put pair_slot 3 null_slot) refusal.BadIndex
    ∷ refuses (call.Put pair_slot 0 null_slot) refusal.NotARef
    ∷ refuses (call.Put pair_slot 2 null_slot) refusal.NotARef
    ∷ replies (call.Put pair_slot 1 null_slot) reply.Ok
    ∷ []

abbrev pub num : List Row
num =
    refuses (call.Number no_slot 3) refusal.BadName
    ∷ refuses (call.Number slot_past 3) refusal.BadIndex
    ∷ refuses (call.Number null_slot 3) refusal.NullRef
    ∷ refuses (call.Number pair_slot 3) refusal.BadIndex
    ∷ refuses (call.Number pair_slot 0) refusal.NotANumber
    ∷ refuses (call.Number pair_slot 1) refusal.NotANumber
    ∷ replies (call.Number pair_slot 2) (reply.Number 7)
    ∷ []

abbrev pub setnum : List Row
setnum =
    refuses (call.SetNumber no_slot 3 9) refusal.BadName
    ∷ refuses (call.SetNumber slot_past 3 9) refusal.BadIndex
    ∷ refuses (call.SetNumber null_slot 3 9) refusal.NullRef
    ∷ refuses (call.SetNumber pair_slot 3 9) refusal.BadIndex
    ∷ refuses (call.SetNumber pair_slot 0 9) refusal.NotANumber
    ∷ refuses (call.SetNumber pair_slot 1 9) refusal.NotANumber
    ∷ replies (call.SetNumber pair_slot 2 9) reply.Ok
    ∷ []

-- ---- slots

abbrev pub copy : List Row
copy =
    refuses (call.Copy no_slot slot_past) refusal.BadName
    ∷ refuses (call.Copy slot_past no_slot) refusal.BadIndex
    ∷ refuses (call.Copy null_slot no_slot) refusal.BadName
    ∷ refuses (call.Copy null_slot slot_past) refusal.BadIndex
    ∷ replies (call.Copy pair_slot null_slot) reply.Ok
    ∷ []

abbrev pub clear : List Row
clear =
    refuses (call.Clear no_slot) refusal.BadName
    ∷ refuses (call.Clear slot_past) refusal.BadIndex
    ∷ replies (call.Clear null_slot) reply.Ok
    ∷ []

abbrev pub same : List Row
same =
    refuses (call.Same no_slot slot_past) refusal.BadName
    ∷ refuses (call.Same slot_past no_slot) refusal.BadIndex
    ∷ refuses (call.Same null_slot no_slot) refusal.BadName
    ∷ refuses (call.Same null_slot slot_past) refusal.BadIndex
    ∷ replies (call.Same null_slot null_slot) reply.Yes
    ∷ replies (call.Same pair_slot pair_slot) reply.Yes
    ∷ replies (call.Same pair_slot null_slot) reply.No
    ∷ replies (call.Same pair_slot weak_slot) reply.No
    ∷ []

abbrev pub null : List Row
null =
    refuses (call.Null no_slot) refusal.BadName
    ∷ refuses (call.Null slot_past) refusal.BadIndex
    ∷ replies (call.Null null_slot) reply.Yes
    ∷ replies (call.Null pair_slot) reply.No
    ∷ []

abbrev pub head : List Row
head =
    refuses (call.Head no_slot) refusal.BadName
    ∷ refuses (call.Head slot_past) refusal.BadIndex
    ∷ refuses (call.Head null_slot) refusal.NullRef
    ∷ replies (call.Head pair_slot) (reply.Head (front 3 1))
    ∷ []

abbrev pub addr : List Row
addr =
    refuses (call.Address no_slot) refusal.BadName
    ∷ refuses (call.Address slot_past) refusal.BadIndex
    ∷ refuses (call.Address null_slot) refusal.NullRef
    ∷ replies (call.Address weak_slot) (reply.Word 0x3000)
    ∷ []

-- ---- areas

-- a word lies in a block of a copying pool by its bytes, and in another one exactly at its address; never in a reservation,
-- nor in a manual block
abbrev pub poke : List Row
poke =
    refuses (call.Poke no_word 0x1000) refusal.BadName
    ∷ refuses (call.Poke pair_slot 0x1000) refusal.BadName
    ∷ refuses (call.Poke word_past 0x1000) refusal.BadIndex
    ∷ replies (call.Poke plain_word 0xfff) reply.Plain
    ∷ replies (call.Poke plain_word 0x1000) reply.Block
    ∷ replies (call.Poke plain_word 0x1017) reply.Block
    ∷ replies (call.Poke plain_word 0x1018) reply.Plain
    ∷ replies (call.Poke plain_word 0x3000) reply.Block
    ∷ replies (call.Poke plain_word 0x3008) reply.Plain
    ∷ replies (call.Poke plain_word 0x5000) reply.Plain
    ∷ []

abbrev pub peek : List Row
peek =
    refuses (call.Peek no_word) refusal.BadName
    ∷ refuses (call.Peek word_past) refusal.BadIndex
    ∷ replies (call.Peek plain_word) (reply.Word 5)
    ∷ replies (call.Peek holding_word) (reply.Word 0x1008)
    ∷ []

abbrev pub pin : List Row
pin =
    refuses (call.Pin no_word slot_past) refusal.BadName
    ∷ refuses (call.Pin word_past no_slot) refusal.BadIndex
    ∷ refuses (call.Pin plain_word no_slot) refusal.BadName
    ∷ refuses (call.Pin plain_word slot_past) refusal.BadIndex
    ∷ refuses (call.Pin plain_word null_slot) refusal.NullRef
    ∷ replies (call.Pin plain_word pair_slot) reply.Ok
    ∷ []

abbrev pub take : List Row
take =
    refuses (call.Take no_slot word_past) refusal.BadName
    ∷ refuses (call.Take slot_past no_word) refusal.BadIndex
    ∷ refuses (call.Take null_slot no_word) refusal.BadName
    ∷ refuses (call.Take null_slot word_past) refusal.BadIndex
    ∷ refuses (call.Take null_slot plain_word) refusal.NotARef
    ∷ replies (call.Take null_slot holding_word) reply.Ok
    ∷ []

-- ---- what the tables promise

pub record CellsAnswer : Type 0 where
  pub get : AreAnswered small get
  pub put : AreAnswered small put
  pub num : AreAnswered small num
  pub setnum : AreAnswered small setnum

pub record SlotsAnswer : Type 0 where
  pub copy : AreAnswered small copy
  pub clear : AreAnswered small clear
  pub same : AreAnswered small same
  pub null : AreAnswered small null
  pub head : AreAnswered small head
  pub addr : AreAnswered small addr

pub record AreasAnswer : Type 0 where
  pub poke : AreAnswered small poke
  pub peek : AreAnswered small peek
  pub pin : AreAnswered small pin
  pub take : AreAnswered small take
