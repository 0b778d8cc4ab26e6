-- The commands on labels of the log: names that are interned, and objects that are labelled by them.
use Rattle.std.specs.Prelude.{length}
use Rattle.mps_base.specs.declared.names.Name.{Name}
use Rattle.mps_base.specs.declared.names.Slot.{Slot}
use Rattle.mps_model.specs.declared.reply.Reply.TheVariants as reply
use Rattle.mps_model.specs.Graph.{Graph, LabelThing, with_last}
use Rattle.mps_model.specs.World.{World}
use Rattle.mps_model.specs.Checked.{Act, Checked, ◌>>=◌, ◌>>◌, says, slot_in, object_in, label_named, named, with_graph}
use Rattle.mps_model.specs.Making.{refuse_taken, refuse_at_limit, most_labels}
use Rattle.mps_model.specs.Accessing.{address_or_null}

-- the graph with one more label
abbrev pub graph_with_label : Graph → Name → Graph
graph_with_label g label = record (named g label (LabelThing (length g.labels))) { labels = with_last g.labels label }

-- makes a label. Labels are numbered from 0, in the order of making
abbrev pub act_intern : World → Name → Checked Act
act_intern w label = do
  refuse_taken w label
  refuse_at_limit (length w.graph.labels) most_labels
  says (reply.Interned (length w.graph.labels)) (with_graph w (graph_with_label w.graph label))

-- labels an object in the log: nothing of the world changes
abbrev pub act_label : World → Slot → Name → Checked Act
act_label w slot label = do
  from ← slot_in w slot
  object ← object_in w from.value
  found ← label_named w label
  says (reply.Labelled (record { 0 = address_or_null w object.number }) found.number) w
