-- The commands on transforms: while the arena is parked, references to old objects are replaced by references to new ones, all at once.
use Rattle.std.specs.Prelude.{◌≡◌, ℕ, Bool, true, false, not, ◌==◌, if◌then◌else◌, Option, Some, None, option_map, List, [], ◌∷◌, map, length, filter, slice_set, count_by, refl}
use Rattle.std.specs.List.{list_any}
use Rattle.std.specs.Option.{option_map_or}
use Rattle.mps_base.specs.Address.{Id}
use Rattle.mps_base.specs.declared.names.Name.{Name}
use Rattle.mps_base.specs.declared.names.Slot.{Slot}
use Rattle.mps_base.specs.declared.names.Kind.TheVariants as kind
use Rattle.mps_base.specs.declared.refusal.Refusal.TheVariants as refusal
use Rattle.mps_model.specs.declared.reply.Reply.TheVariants as reply
use Rattle.mps_model.specs.Graph.{Graph, Object, Body, Automatic, Manual, Cell, HeadCell, NumberCell, ReferenceCell, Point, Slots, PlainWord, TransformThing, is_live_reservation, without_name, with_last, empty_graph}
use Rattle.mps_model.specs.World.{World, ArenaState, Unclamped, Clamped, Parked, TransformPair, Collected, is_parked, pairs_in, has_area_word, empty_world}
use Rattle.mps_model.specs.Checked.{Act, Checked, ◌>>=◌, ◌>>◌, refuse_when, says, done, named, transform_named, slot_in, object_in, with_graph}
use Rattle.mps_model.specs.Making.{refuse_taken, refuse_at_limit}
use Rattle.mps_model.specs.Collecting.{with_state}

-- n transforms
abbrev pub most_transforms : ℕ
most_transforms = 16

-- n pairs of all transforms together
abbrev pub most_pairs : ℕ
most_pairs = 4096

-- ---- making, adding, dropping

abbrev pub graph_with_transform : Graph → Name → Graph
graph_with_transform g name =
    record (named g name (TransformThing (length g.transforms))) { transforms = with_last g.transforms true }

abbrev pub act_transform : World → Name → Checked Act
act_transform w name = do
  refuse_taken w name
  refuse_at_limit (count_by (λ is_there. is_there) w.graph.transforms) most_transforms
  done (with_graph w (graph_with_transform w.graph name))

-- the pairs of one transform
abbrev pub pairs_of : ArenaState → (transform : ℕ) → List TransformPair
pairs_of s transform = filter (λ p. p.transform == transform) (pairs_in s)

-- whether an object is the old one of a pair
abbrev pub is_old : List TransformPair → (id : Id) → Bool
is_old pairs id = list_any (λ p. p.old == id) pairs

abbrev pub with_pair : List TransformPair → (transform : ℕ) → (old new : Id) → List TransformPair
with_pair pairs transform old new = with_last pairs (record { transform = transform; old = old; new = new })

abbrev pub act_transform_add : World → Name → Slot → Slot → Checked Act
act_transform_add w name old new = do
  transform ← transform_named w name
  from ← slot_in w old
  to ← slot_in w new
  first ← object_in w from.value
  second ← object_in w to.value
  refuse_when (not (is_parked w)) refusal.NotParked
  refuse_when (is_old (pairs_of w.state transform) first.number) refusal.OldTwice
  refuse_at_limit (length (pairs_in w.state)) most_pairs
  done (with_state w (Parked (with_pair (pairs_in w.state) transform first.number second.number)))

-- the arena without the pairs of one transform
abbrev pub state_without_pairs : ArenaState → (transform : ℕ) → ArenaState
state_without_pairs Unclamped transform = Unclamped
state_without_pairs Clamped transform = Clamped
state_without_pairs (Parked pairs) transform = Parked (filter (λ p. not (p.transform == transform)) pairs)

abbrev pub graph_without_transform : Graph → Name → (transform : ℕ) → Graph
graph_without_transform g name transform =
    record g { transforms = slice_set g.transforms transform false; names = without_name g.names name }

-- a transform is dropped with its pairs; its name is free again
abbrev pub without_transform : World → Name → (transform : ℕ) → World
without_transform w name transform =
    record w { graph = graph_without_transform w.graph name transform; state = state_without_pairs w.state transform }

abbrev pub act_transform_drop : World → Name → Checked Act
act_transform_drop w name = do
  transform ← transform_named w name
  done (without_transform w name transform)

-- ---- applying

-- the new object for an old one; any other stays
abbrev pub new_for : List TransformPair → (id : Id) → ℕ
new_for [] id = id
new_for (p ∷ pairs) id = if p.old == id then p.new else new_for pairs id

abbrev pub target_substituted : List TransformPair → Option ℕ → Option ℕ
target_substituted pairs target = option_map (new_for pairs) target

abbrev pub cell_substituted : List TransformPair → Cell → Cell
cell_substituted pairs HeadCell = HeadCell
cell_substituted pairs (NumberCell number) = NumberCell number
cell_substituted pairs (ReferenceCell target tag) = ReferenceCell (target_substituted pairs target) tag

abbrev pub body_substituted : List TransformPair → Body → Body
body_substituted pairs (Automatic head cells is_weak) = Automatic head (map (cell_substituted pairs) cells) is_weak
body_substituted pairs (Manual words) = Manual words

abbrev pub object_substituted : List TransformPair → Object → Object
object_substituted pairs o = record o { body = body_substituted pairs o.body }

abbrev pub slots_substituted : List TransformPair → Option Slots → Option Slots
slots_substituted pairs slots = option_map (map (target_substituted pairs)) slots

-- Each slot, and each reference of an automatic object, weak or not, that is to an old object of a pair is to its new one, once. Tags,
-- area words, messages, registrations, dependents and reservations stay
abbrev pub graph_substituted : Graph → List TransformPair → Graph
graph_substituted g pairs =
    record g { tables = map (slots_substituted pairs) g.tables; objects = map (object_substituted pairs) g.objects }

-- the world after a transform was applied, which drops it
abbrev pub world_substituted : World → Name → (transform : ℕ) → World
world_substituted w name transform =
    without_transform (with_graph w (graph_substituted w.graph (pairs_of w.state transform))) name transform

-- whether an area word lies in an old object
abbrev pub is_blocked : World → List TransformPair → Bool
is_blocked w pairs = list_any (λ p. has_area_word w p.old) pairs

abbrev pub has_live_reservation : Option Point → Bool
has_live_reservation None = false
has_live_reservation (Some p) = option_map_or is_live_reservation p.reservation false

-- `no` exactly if an area word lies in an old object, and then nothing changes
abbrev pub act_transform_apply : World → Name → Checked Act
act_transform_apply w name = do
  transform ← transform_named w name
  refuse_when (not (is_parked w)) refusal.NotParked
  refuse_when (list_any has_live_reservation w.graph.points) refusal.Open
  if is_blocked w (pairs_of w.state transform) then says reply.No w else says reply.Yes (world_substituted w name transform)

-- ---- vectors

-- one pair of transform 0
abbrev replace : (old new : Id) → TransformPair
replace old new = record { transform = 0; old = old; new = new }

-- a block of a reference with a tag and a number
abbrev two_cells : (target : Option ℕ) → Object
two_cells target = record { pool = 0; body = Automatic 0x100000301 (HeadCell ∷ ReferenceCell target 3 ∷ NumberCell 7 ∷ []) false }

pub a_reference_is_replaced_and_keeps_its_tag : object_substituted (replace 7 1 ∷ []) (two_cells (Some 7)) ≡ two_cells (Some 1)
a_reference_is_replaced_and_keeps_its_tag = refl

pub others_stay : map (object_substituted (replace 7 1 ∷ [])) (two_cells None ∷ two_cells (Some 2) ∷ [])
    ≡ two_cells None ∷ two_cells (Some 2) ∷ []
others_stay = refl

pub a_manual_block_stays : body_substituted (replace 7 1 ∷ []) (Manual (7 ∷ [])) ≡ Manual (7 ∷ [])
a_manual_block_stays = refl

pub a_slot_is_replaced : slots_substituted (replace 0 1 ∷ []) (Some (Some 0 ∷ None ∷ Some 2 ∷ [])) ≡ Some (Some 1 ∷ None ∷ Some 2 ∷ [])
a_slot_is_replaced = refl

-- all at once: an object that was replaced isn't looked up again
pub each_is_replaced_once : map (new_for (replace 0 1 ∷ replace 1 2 ∷ [])) (0 ∷ 1 ∷ 2 ∷ []) ≡ 1 ∷ 2 ∷ 2 ∷ []
each_is_replaced_once = refl

pub no_pair_follows_another : new_for (replace 0 1 ∷ replace 1 2 ∷ []) 0 ≡ 2 → ⊥
no_pair_follows_another e = absurd cc

pub two_may_change_places : map (new_for (replace 0 1 ∷ replace 1 0 ∷ [])) (0 ∷ 1 ∷ []) ≡ 1 ∷ 0 ∷ []
two_may_change_places = refl

pub other_transforms_keep_their_pairs :
    state_without_pairs (Parked (replace 0 1 ∷ record { transform = 1; old = 0; new = 2 } ∷ [])) 0
    ≡ Parked (record { transform = 1; old = 0; new = 2 } ∷ [])
other_transforms_keep_their_pairs = refl

-- one object at 0x1000, and an area with one word
abbrev word_beside : (word : ℕ) → World
word_beside word = record empty_world {
  graph = record empty_graph { objects = two_cells None ∷ []; areas = Some (PlainWord word ∷ []) ∷ [] };
  pools = record { kind = Collected kind.Amc; format = 1; chain = None } ∷ [];
  addresses = Some 0x1000 ∷ [];
}

pub a_word_in_an_old_object_blocks : is_blocked (word_beside 0x1010) (replace 0 1 ∷ []) ≡ true
a_word_in_an_old_object_blocks = refl

pub no_word_past_it_blocks : is_blocked (word_beside 0x1018) (replace 0 1 ∷ []) ≡ false
no_word_past_it_blocks = refl

pub no_word_in_a_new_object_blocks : is_blocked (word_beside 0x1010) (replace 1 0 ∷ []) ≡ false
no_word_in_a_new_object_blocks = refl
