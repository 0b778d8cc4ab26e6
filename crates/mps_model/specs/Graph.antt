-- The object graph: what a client sees of a heap in which nothing ever moves or is freed. An object is known by its id, its
-- position in the list of objects. The graph has no address, segment, mark, forwarding word or generation.
use Rattle.std.specs.Prelude.{◌≡◌, ℕ, zero, suc, ◌+◌, ◌-◌, Bool, true, false, not, filter, ◌&&◌, ◌==◌, if◌then◌else◌, Option, Some, None, option_and_then, option_map, is_some, List, [], ◌∷◌, ◌++◌, map, length, slice_get, slice_set, refl}
use Rattle.std.specs.List.{list_any, flat_map}
use Rattle.std.specs.Option.{option_map_or}
use Rattle.mps_base.specs.Address.{Id}
use Rattle.mps_base.specs.declared.names.Name.{Name}
use Rattle.mps_base.specs.declared.names.Rank.{Rank}
use Rattle.mps_format.specs.Layout.{Layout}
use Rattle.mps_base.specs.Name.{same_name}

-- a cell of an automatic object
pub data Cell : Type 0 where
  -- cell 0, which represents the head
  HeadCell : Cell
  NumberCell : (number : ℕ) → Cell
  -- a reference to null or to an object, with the client's tag, 0 to 7
  ReferenceCell : (target : Option ℕ) (tag : ℕ) → Cell

-- what an object is made of
pub data Body : Type 0 where
  -- an object of an automatic pool: its head word, a cell for each of its words, and whether its references are weak
  Automatic : (head : ℕ) (cells : List Cell) (is_weak : Bool) → Body
  -- a block of a manual pool: its words
  Manual : (words : List ℕ) → Body

pub record Object : Type 0 where
  -- the number of its pool
  pub pool : ℕ
  pub body : Body

-- an open reservation of a point: what its block is to hold, and whether a flip ended it
pub record Reservation : Type 0 where
  pub head : ℕ
  pub cells : List Cell
  pub is_doomed : Bool

-- an allocation point
pub record Point : Type 0 where
  pub pool : ℕ
  pub rank : Rank
  pub reservation : Option Reservation

-- a word of an area
pub data AreaWord : Type 0 where
  PlainWord : (number : ℕ) → AreaWord
  -- the address n bytes into an object, which the word keeps alive and in place
  Hold : (id offset : ℕ) → AreaWord

-- what a name represents, by its number among the things of its kind
pub data Thing : Type 0 where
  ChainThing : (number : ℕ) → Thing
  PoolThing : (number : ℕ) → Thing
  TableThing : (number : ℕ) → Thing
  AreaThing : (number : ℕ) → Thing
  BlocksThing : (number : ℕ) → Thing
  PointThing : (number : ℕ) → Thing
  DependencyThing : (number : ℕ) → Thing
  TransformThing : (number : ℕ) → Thing
  CacheThing : (number : ℕ) → Thing
  LabelThing : (number : ℕ) → Thing

pub record NamedThing : Type 0 where
  pub name : Name
  pub thing : Thing

-- a slot of a table, or a place of a table of blocks: null or empty, or the id of an object
abbrev pub Slots : Type 0
Slots = List (Option ℕ)

-- a class of an allocation cache: how many words its blocks have, how many it keeps at most, and those that lie in it
pub record CacheClass : Type 0 where
  pub words : ℕ
  pub limit : ℕ
  -- the block that was cached last stands last
  pub cached : List Id

-- an allocation cache over a pool of blocks of any sizes
pub record Cache : Type 0 where
  pub pool : ℕ
  pub classes : List CacheClass

-- what a pool of frames has: its live blocks in the order of making, and for each open frame how many blocks there were
-- when it was opened
pub record PoolFrames : Type 0 where
  pub pool : ℕ
  pub blocks : List Id
  pub opened : List ℕ

pub record Graph : Type 0 where
  -- all objects that were ever made, by their ids
  pub objects : List Object
  -- tables by their numbers, in the order of making; none if the table was dropped
  pub tables : List (Option Slots)
  -- areas by their numbers; none if the area was dropped
  pub areas : List (Option (List AreaWord))
  -- tables of manual blocks by their numbers
  pub blocks : List Slots
  -- allocation points by their numbers; none if the point was dropped
  pub points : List (Option Point)
  -- the registrations for finalization, in order: an object may be registered more than once
  pub registered : List Id
  -- the finalization messages that wait, in order
  pub messages : List Id
  -- what each live name represents
  pub names : List NamedThing
  -- the labels of the log, in the order of making
  pub labels : List Name
  -- weak objects, each with the object whose references go with its own
  pub dependents : List (Id × Id)
  -- transforms by their numbers, in the order of making: whether there is one, which was not dropped
  pub transforms : List Bool
  -- allocation caches by their numbers
  pub caches : List Cache
  -- the frames of each pool that has some
  pub frames : List PoolFrames

-- the frames of a pool, changed: of the first that there are for it
abbrev pub frames_changed : List PoolFrames → (pool : ℕ) → (PoolFrames → PoolFrames) → List PoolFrames
frames_changed [] pool change = []
frames_changed (f ∷ fs) pool change = if f.pool == pool then change f ∷ fs else f ∷ frames_changed fs pool change

-- ---- lists by number

-- the entry of a number, if there is one and it wasn't dropped
abbrev pub entry_at : {X : Type 0} → List (Option X) → (number : ℕ) → Option X
entry_at entries number = option_and_then (λ entry. entry) (slice_get entries number)

-- one more at the end
abbrev pub with_last : {X : Type 0} → List X → X → List X
with_last xs x = xs ++ x ∷ []

-- from the last to the first
abbrev pub from_last : {X : Type 0} → List X → List X
from_last [] = []
from_last (x ∷ xs) = with_last (from_last xs) x

-- whether a number is in a list
abbrev pub contains : List ℕ → ℕ → Bool
contains ns n = list_any (λ m. m == n) ns

-- how often a number stands in a list
abbrev pub occurrences : List ℕ → ℕ → ℕ
occurrences [] n = 0
occurrences (m ∷ ms) n = (if m == n then 1 else 0) + occurrences ms n

-- where in a list a number first stands
abbrev pub position_of_first : List ℕ → ℕ → Option ℕ
position_of_first [] n = None
position_of_first (m ∷ ms) n = if m == n then Some 0 else option_map (λ position. position + 1) (position_of_first ms n)

-- a list without the first occurrence of a number
abbrev pub without_first : List ℕ → ℕ → List ℕ
without_first [] n = []
without_first (m ∷ ms) n = if m == n then ms else m ∷ without_first ms n

-- the numbers of the entries that there are
abbrev pub entries : List (Option ℕ) → List ℕ
entries [] = []
entries (None ∷ os) = entries os
entries (Some n ∷ os) = n ∷ entries os

-- ---- names

-- what a name represents
abbrev pub thing_in : List NamedThing → Name → Option Thing
thing_in [] name = None
thing_in (n ∷ ns) name = if same_name n.name name then Some n.thing else thing_in ns name

abbrev pub thing_named : Graph → Name → Option Thing
thing_named g name = thing_in g.names name

-- whether a live thing has this name
abbrev pub is_taken : Graph → Name → Bool
is_taken g name = is_some (thing_named g name)

-- the names without this one
abbrev pub without_name : List NamedThing → Name → List NamedThing
without_name [] name = []
without_name (n ∷ ns) name = if same_name n.name name then ns else n ∷ without_name ns name

-- ---- objects

abbrev pub object_at : Graph → (id : Id) → Option Object
object_at g id = slice_get g.objects id

-- what a function gives for an object, if there is one, and else this
abbrev pub for_object : {A : Type 0} → Graph → (id : Id) → (Object → A) → (otherwise : A) → A
for_object g id f otherwise = option_map_or f (object_at g id) otherwise

abbrev pub size_of_body : Body → ℕ
size_of_body (Automatic head cells is_weak) = length cells
size_of_body (Manual words) = length words

-- an object's size in words
abbrev pub size_of : Object → ℕ
size_of o = size_of_body o.body

abbrev pub is_automatic_body : Body → Bool
is_automatic_body (Automatic head cells is_weak) = true
is_automatic_body (Manual words) = false

abbrev pub is_automatic : Object → Bool
is_automatic o = is_automatic_body o.body

abbrev pub is_weak_body : Body → Bool
is_weak_body (Automatic head cells is_weak) = is_weak
is_weak_body (Manual words) = false

-- whether all references of an object are weak
abbrev pub is_weak_object : Object → Bool
is_weak_object o = is_weak_body o.body

-- the object that a cell refers to
abbrev pub target_of_cell : Cell → Option ℕ
target_of_cell HeadCell = None
target_of_cell (NumberCell number) = None
target_of_cell (ReferenceCell target tag) = target

-- the objects that some cells refer to, in order
abbrev pub targets_of_cells : List Cell → List ℕ
targets_of_cells cells = entries (map target_of_cell cells)

abbrev pub targets_of_body : Body → List ℕ
targets_of_body (Automatic head cells is_weak) = targets_of_cells cells
targets_of_body (Manual words) = []

-- the objects that an object refers to, weakly or not
abbrev pub targets_of : Object → List ℕ
targets_of o = targets_of_body o.body

-- the objects that an object refers to and keeps alive
abbrev pub strong_targets_of : Object → List ℕ
strong_targets_of o = if is_weak_object o then [] else targets_of o

abbrev pub targets : Graph → (id : Id) → List Id
targets g id = for_object g id targets_of []

abbrev pub strong_targets : Graph → (id : Id) → List Id
strong_targets g id = for_object g id strong_targets_of []

abbrev pub is_reference_cell : Cell → Bool
is_reference_cell HeadCell = false
is_reference_cell (NumberCell number) = false
is_reference_cell (ReferenceCell target tag) = true

-- n cells of a new block, from cell k on
abbrev pub new_cells_from : Layout → (head k count : ℕ) → List Cell
new_cells_from f head k zero = []
new_cells_from f head k (suc count) =
    (if f.is_reference head k then ReferenceCell None 0 else NumberCell 0) ∷ new_cells_from f head (k + 1) count

-- the cells of a new block with this head: its numbers are 0, its references are null with tag 0
abbrev pub new_cells : Layout → (head : ℕ) → List Cell
new_cells f head = HeadCell ∷ new_cells_from f head 1 (f.size head - 1)

-- whether a block with this head has a reference cell
abbrev pub has_references : Layout → (head : ℕ) → Bool
has_references f head = list_any is_reference_cell (new_cells f head)

-- a reference with another target; other cells stay
abbrev pub retargeted : Cell → (target : Option ℕ) → Cell
retargeted (ReferenceCell old tag) target = ReferenceCell target tag
retargeted HeadCell target = HeadCell
retargeted (NumberCell number) target = NumberCell number

-- cell k refers to another target, and keeps its tag
abbrev pub with_target_cell : List Cell → (k : ℕ) → (target : Option ℕ) → List Cell
with_target_cell cells k target = option_map_or (λ cell. slice_set cells k (retargeted cell target)) (slice_get cells k) cells

-- a reference with another tag; other cells stay
abbrev pub tagged : Cell → (tag : ℕ) → Cell
tagged (ReferenceCell target old) tag = ReferenceCell target tag
tagged HeadCell tag = HeadCell
tagged (NumberCell number) tag = NumberCell number

-- the reference in cell k has another tag, and refers to what it did
abbrev pub with_tag_cell : List Cell → (k tag : ℕ) → List Cell
with_tag_cell cells k tag = option_map_or (λ cell. slice_set cells k (tagged cell tag)) (slice_get cells k) cells

abbrev pub body_with_cells : Body → (List Cell → List Cell) → Body
body_with_cells (Automatic head cells is_weak) change = Automatic head (change cells) is_weak
body_with_cells (Manual words) change = Manual words

-- an object with its cells changed
abbrev pub object_with_cells : Object → (List Cell → List Cell) → Object
object_with_cells o change = record o { body = body_with_cells o.body change }

-- a graph with the cells of one object changed
abbrev pub graph_with_cells : Graph → (id : Id) → (List Cell → List Cell) → Graph
graph_with_cells g id change = record g {
  objects = for_object g id (λ o. slice_set g.objects id (object_with_cells o change)) g.objects;
}

-- ---- roots

-- a live reservation: one that no flip ended
abbrev pub is_live_reservation : Reservation → Bool
is_live_reservation r = if r.is_doomed then false else true

abbrev pub targets_of_reservation : Reservation → List ℕ
targets_of_reservation r = if r.is_doomed then [] else targets_of_cells r.cells

abbrev pub targets_of_point : Option Point → List ℕ
targets_of_point None = []
targets_of_point (Some p) = option_map_or targets_of_reservation p.reservation []

abbrev pub held_by_word : AreaWord → Option ℕ
held_by_word (PlainWord number) = None
held_by_word (Hold id offset) = Some id

abbrev pub slots_of : Option Slots → List ℕ
slots_of None = []
slots_of (Some slots) = entries slots

abbrev pub holds_of : Option (List AreaWord) → List ℕ
holds_of None = []
holds_of (Some words) = entries (map held_by_word words)

-- the ids in the slots of tables, table by table in the order of making, and slot by slot
abbrev pub ids_in_slots : Graph → List ℕ
ids_in_slots g = flat_map slots_of g.tables

-- the ids that area words hold
abbrev pub ids_in_holds : Graph → List ℕ
ids_in_holds g = flat_map holds_of g.areas

-- the ids in reference cells of live reservations
abbrev pub ids_in_reservations : Graph → List ℕ
ids_in_reservations g = flat_map targets_of_point g.points

-- the ids in the places of tables of blocks
abbrev pub ids_in_places : Graph → List ℕ
ids_in_places g = flat_map entries g.blocks

-- the blocks of pools of frames, pool by pool and in the order of making
abbrev pub ids_in_frames : Graph → List ℕ
ids_in_frames g = flat_map (λ (f : PoolFrames). f.blocks) g.frames

-- the ids that lie in the classes of a cache
abbrev pub ids_of_cache : Cache → List ℕ
ids_of_cache q = flat_map (λ (k : CacheClass). k.cached) q.classes

-- the ids that lie in caches
abbrev pub ids_in_caches : Graph → List ℕ
ids_in_caches g = flat_map ids_of_cache g.caches

-- the manual blocks that the client has: those in places, and those in caches
abbrev pub ids_in_blocks : Graph → List ℕ
ids_in_blocks g = ids_in_places g ++ ids_in_caches g

-- what the client holds: the ids in slots, holds, messages and live reservations. From here reachability begins
abbrev pub ids_of_client : Graph → List ℕ
ids_of_client g = ids_in_slots g ++ ids_in_holds g ++ g.messages ++ ids_in_reservations g

-- ---- dependents

-- the object whose references go with those of a holder
abbrev pub dependent_in : List (Id × Id) → (holder : Id) → Option ℕ
dependent_in [] holder = None
dependent_in (p ∷ ps) holder = if p.0 == holder then Some p.1 else dependent_in ps holder

-- the pairs without that of a holder
abbrev pub without_holder : List (Id × Id) → (holder : Id) → List (Id × Id)
without_holder ps holder = filter (λ p. not (p.0 == holder)) ps

-- the pairs that don't name an object
abbrev pub without_named : List (Id × Id) → (id : Id) → List (Id × Id)
without_named ps id = filter (λ p. not (p.0 == id) && not (p.1 == id)) ps

-- the graph before anything was made
abbrev pub empty_graph : Graph
empty_graph = record {
  objects = [];
  tables = [];
  areas = [];
  blocks = [];
  points = [];
  registered = [];
  messages = [];
  names = [];
  labels = [];
  dependents = [];
  transforms = [];
  caches = [];
  frames = [];
}

-- ---- vectors

pub the_last_comes_first : from_last {X = ℕ} (7 ∷ 9 ∷ 8 ∷ []) ≡ 8 ∷ 9 ∷ 7 ∷ []
the_last_comes_first = refl

pub nothing_comes_of_nothing : ◌≡◌ {A = List ℕ} (from_last []) []
nothing_comes_of_nothing = refl

pub the_first_does_not_come_first : from_last {X = ℕ} (7 ∷ 9 ∷ []) ≡ 7 ∷ 9 ∷ [] → ⊥
the_first_does_not_come_first e = absurd cc
