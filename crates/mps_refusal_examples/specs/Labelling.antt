-- The commands on tags and labels: their refusals in order.
use Rattle.std.specs.Prelude.{List, [], ◌∷◌}
use Rattle.mps_base.specs.declared.address.Addr.{Addr}
use Rattle.mps_base.specs.declared.refusal.Refusal.TheVariants as refusal
use Rattle.mps_model.specs.declared.call.Call.TheVariants as call
use Rattle.mps_model.specs.declared.reply.Reply.TheVariants as reply
use Rattle.mps_refusal_examples.specs.Row.{Row, refuses, replies, AreAnswered}
use Rattle.mps_refusal_examples.specs.SmallWorld.{unknown, a_table, a_label, pair_slot, null_slot, slot_past, no_slot, small, crowded}

-- ---- tags

-- cell 9 is past the last, cell 0 is the head and cell 2 a number
abbrev pub settag : List Row
settag =
    refuses (call.SetTag no_slot 9 5) refusal.BadName
    ∷ refuses (call.SetTag slot_past 9 5) refusal.BadIndex
    ∷ refuses (call.SetTag null_slot 9 5) refusal.NullRef
    ∷ refuses (call.SetTag pair_slot 9 5) refusal.BadIndex
    ∷ refuses (call.SetTag pair_slot 0 5) refusal.NotARef
    ∷ refuses (call.SetTag pair_slot 2 5) refusal.NotARef
    ∷ replies (call.SetTag pair_slot 1 5) reply.Ok
    ∷ []

abbrev pub tag : List Row
tag =
    refuses (call.Tag no_slot 9) refusal.BadName
    ∷ refuses (call.Tag slot_past 9) refusal.BadIndex
    ∷ refuses (call.Tag null_slot 9) refusal.NullRef
    ∷ refuses (call.Tag pair_slot 9) refusal.BadIndex
    ∷ refuses (call.Tag pair_slot 0) refusal.NotARef
    ∷ refuses (call.Tag pair_slot 2) refusal.NotARef
    ∷ replies (call.Tag pair_slot 1) (reply.Number 0)
    ∷ []

-- ---- labels

abbrev pub intern_where_full : List Row
intern_where_full =
    refuses (call.Intern a_table) refusal.NameTaken
    ∷ refuses (call.Intern a_label) refusal.NameTaken
    ∷ refuses (call.Intern unknown) (refusal.TooMany 256)
    ∷ []

abbrev pub intern_where_one_is_left : List Row
intern_where_one_is_left =
    refuses (call.Intern a_table) refusal.NameTaken
    ∷ replies (call.Intern unknown) (reply.Interned 255)
    ∷ []

-- the address of the pair
abbrev pub pair_address : Addr
pair_address = record { 0 = 0x1000 }

abbrev pub label : List Row
label =
    refuses (call.Label no_slot unknown) refusal.BadName
    ∷ refuses (call.Label slot_past unknown) refusal.BadIndex
    ∷ refuses (call.Label null_slot unknown) refusal.NullRef
    ∷ refuses (call.Label pair_slot unknown) refusal.BadName
    ∷ refuses (call.Label pair_slot a_table) refusal.BadName
    ∷ replies (call.Label pair_slot a_label) (reply.Labelled pair_address 0)
    ∷ []

-- ---- what the tables promise

pub record TagsAnswer : Type 0 where
  pub settag : AreAnswered small settag
  pub tag : AreAnswered small tag

pub record LabelsAnswer : Type 0 where
  pub intern_where_full : AreAnswered (crowded 0) intern_where_full
  pub intern_where_one_is_left : AreAnswered (crowded 1) intern_where_one_is_left
  pub label : AreAnswered small label
