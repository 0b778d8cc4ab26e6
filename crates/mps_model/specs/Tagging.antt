-- The commands on the tags of references. No target is looked at: a tag is set and read without a read barrier.
use Rattle.std.specs.Prelude.{◌≡◌, ℕ, ◌%◌, Some, None, List, [], ◌∷◌, Err, refl}
use Rattle.mps_base.specs.declared.names.Slot.{Slot}
use Rattle.mps_base.specs.declared.refusal.Refusal.TheVariants as refusal
use Rattle.mps_model.specs.declared.reply.Reply.TheVariants as reply
use Rattle.mps_model.specs.Graph.{Cell, HeadCell, NumberCell, ReferenceCell, graph_with_cells, with_tag_cell}
use Rattle.mps_model.specs.World.{World}
use Rattle.mps_model.specs.Checked.{Act, Checked, ◌>>=◌, ◌>>◌, says, done, slot_in, object_in, cells_of_body, reference_at, tag_at, with_graph}

-- how many tags there are: 0 to 7
abbrev pub tag_count : ℕ
tag_count = 8

-- the tag of a reference becomes this number modulo 8
abbrev pub act_set_tag : World → Slot → (k tag : ℕ) → Checked Act
act_set_tag w slot k tag = do
  from ← slot_in w slot
  object ← object_in w from.value
  reference_at (cells_of_body object.value.body) k
  done (with_graph w (graph_with_cells w.graph object.number (λ cells. with_tag_cell cells k (tag % tag_count))))

abbrev pub act_tag : World → Slot → (k : ℕ) → Checked Act
act_tag w slot k = do
  from ← slot_in w slot
  object ← object_in w from.value
  tag ← tag_at (cells_of_body object.value.body) k
  says (reply.Number tag) w

-- ---- vectors

abbrev three_cells : List Cell
three_cells = HeadCell ∷ ReferenceCell (Some 4) 3 ∷ NumberCell 9 ∷ []

pub a_tag_is_set_and_the_target_stays : with_tag_cell three_cells 1 5 ≡ HeadCell ∷ ReferenceCell (Some 4) 5 ∷ NumberCell 9 ∷ []
a_tag_is_set_and_the_target_stays = refl

pub a_number_has_no_tag : with_tag_cell three_cells 2 5 ≡ three_cells
a_number_has_no_tag = refl

pub no_tag_is_read_of_a_number : tag_at three_cells 2 ≡ Err refusal.NotARef
no_tag_is_read_of_a_number = refl

pub no_target_is_lost : with_tag_cell three_cells 1 5 ≡ HeadCell ∷ ReferenceCell None 5 ∷ NumberCell 9 ∷ [] → ⊥
no_target_is_lost e = absurd cc
