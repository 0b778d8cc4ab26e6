-- What a call checks, in order, and what it comes to: the first refusal whose condition holds, or an answer and a world.
use Rattle.std.specs.Prelude.{ℕ, Bool, true, false, Option, Some, None, option_and_then, Result, Ok, Err, slice_get, ⊤, List, []}
use Rattle.mps_base.specs.declared.names.Name.{Name}
use Rattle.mps_base.specs.declared.names.Slot.{Slot}
use Rattle.mps_base.specs.declared.refusal.Refusal.{Refusal}
use Rattle.mps_base.specs.declared.refusal.Refusal.TheVariants as refusal
use Rattle.mps_model.specs.declared.reply.Reply.{Reply}
use Rattle.mps_model.specs.declared.reply.Reply.TheVariants as reply
use Rattle.mps_model.specs.Answer.{Answer, Replied}
use Rattle.mps_model.specs.Graph.{Graph, Cell, HeadCell, NumberCell, ReferenceCell, Body, Automatic, Manual, Object, Point, AreaWord, Thing, ChainThing, PoolThing, TableThing, AreaThing, BlocksThing, PointThing, DependencyThing, TransformThing, LabelThing, thing_named, entry_at, object_at, with_last, CacheThing, Cache}
use Rattle.mps_model.specs.World.{World, Pool, Dependency}

-- an answer, and the world after it
pub record Act : Type 0 where
  pub answer : Answer
  pub world : World

-- a value, or the refusal that comes first
abbrev pub Checked : Type 0 → Type 0
Checked A = Result A Refusal

infixl 10 ◌>>=◌
infixl 10 ◌>>◌
abbrev pub ◌>>=◌ : {A B : Type 0} → Checked A → (A → Checked B) → Checked B
(Ok x) >>= f = f x
(Err e) >>= f = Err e

abbrev pub ◌>>◌ : {A B : Type 0} → Checked A → Checked B → Checked B
(Ok x) >> next = next
(Err e) >> next = Err e

-- the value, or this refusal if there is none
abbrev pub required : {A : Type 0} → Option A → Refusal → Checked A
required (Some x) why = Ok x
required None why = Err why

-- this refusal exactly if the condition holds
abbrev pub refuse_when : Bool → Refusal → Checked ⊤
refuse_when true why = Err why
refuse_when false why = Ok tt

-- accepted, with this reply and this world
abbrev pub says : Reply → World → Checked Act
says given w = Ok (record { answer = Replied given; world = w })

-- accepted with `ok`
abbrev pub done : World → Checked Act
done w = says reply.Ok w

-- accepted with a yes or a no
abbrev pub tells : Bool → World → Checked Act
tells true w = says reply.Yes w
tells false w = says reply.No w

-- ---- the things that a name may represent

abbrev pub as_chain : Thing → Option ℕ
as_chain (ChainThing number) = Some number
as_chain _ = None

abbrev pub as_pool : Thing → Option ℕ
as_pool (PoolThing number) = Some number
as_pool _ = None

abbrev pub as_table : Thing → Option ℕ
as_table (TableThing number) = Some number
as_table _ = None

abbrev pub as_area : Thing → Option ℕ
as_area (AreaThing number) = Some number
as_area _ = None

abbrev pub as_blocks : Thing → Option ℕ
as_blocks (BlocksThing number) = Some number
as_blocks _ = None

abbrev pub as_point : Thing → Option ℕ
as_point (PointThing number) = Some number
as_point _ = None

abbrev pub as_dependency : Thing → Option ℕ
as_dependency (DependencyThing number) = Some number
as_dependency _ = None

abbrev pub as_transform : Thing → Option ℕ
as_transform (TransformThing number) = Some number
as_transform _ = None

abbrev pub as_cache : Thing → Option ℕ
as_cache (CacheThing number) = Some number
as_cache _ = None

abbrev pub as_label : Thing → Option ℕ
as_label (LabelThing number) = Some number
as_label _ = None

-- the number of the thing of the wanted kind that has this name
abbrev pub number_named : World → Name → (Thing → Option ℕ) → Option ℕ
number_named w name as_wanted = option_and_then as_wanted (thing_named w.graph name)

-- a thing, with its number
pub record Numbered (A : Type 0) : Type 0 where
  pub number : ℕ
  pub value : A

abbrev pub numbered : {A : Type 0} → ℕ → Option A → Checked (Numbered A)
numbered number (Some x) = Ok (record { number = number; value = x })
numbered number None = Err refusal.BadName

-- the chain of this name: the capacities of its generations
abbrev pub chain_named : World → Name → Checked (Numbered (List ℕ))
chain_named w name = do
  number ← required (number_named w name as_chain) refusal.BadName
  numbered number (slice_get w.chains number)

abbrev pub pool_named : World → Name → Checked (Numbered Pool)
pool_named w name = do
  number ← required (number_named w name as_pool) refusal.BadName
  numbered number (slice_get w.pools number)

abbrev pub point_named : World → Name → Checked (Numbered Point)
point_named w name = do
  number ← required (number_named w name as_point) refusal.BadName
  numbered number (entry_at w.graph.points number)

abbrev pub dependency_named : World → Name → Checked (Numbered Dependency)
dependency_named w name = do
  number ← required (number_named w name as_dependency) refusal.BadName
  numbered number (slice_get w.dependencies number)

abbrev pub cache_named : World → Name → Checked (Numbered Cache)
cache_named w name = do
  number ← required (number_named w name as_cache) refusal.BadName
  numbered number (slice_get w.graph.caches number)

-- the label of this name
abbrev pub label_named : World → Name → Checked (Numbered Name)
label_named w name = do
  number ← required (number_named w name as_label) refusal.BadName
  numbered number (slice_get w.graph.labels number)

-- the number of the transform of this name
abbrev pub transform_named : World → Name → Checked ℕ
transform_named w name = required (number_named w name as_transform) refusal.BadName

-- an entry of a list in a list of lists: the number of the list, the list, the index, and what stands there
pub record Found (A : Type 0) : Type 0 where
  pub number : ℕ
  pub list : List A
  pub index : ℕ
  pub value : A

-- the entry at an index of a numbered list
abbrev pub entry_in : {A : Type 0} → Numbered (List A) → (index : ℕ) → Checked (Found A)
entry_in {A} from index = do
  value ← required (slice_get from.value index) refusal.BadIndex
  Ok (record { number = from.number; list = from.value; index = index; value = value })

-- a slot of a table
abbrev pub slot_in : World → Slot → Checked (Found (Option ℕ))
slot_in w slot = do
  number ← required (number_named w slot.name as_table) refusal.BadName
  table ← numbered number (entry_at w.graph.tables number)
  entry_in table slot.index

-- a word of an area
abbrev pub word_in : World → Slot → Checked (Found AreaWord)
word_in w slot = do
  number ← required (number_named w slot.name as_area) refusal.BadName
  area ← numbered number (entry_at w.graph.areas number)
  entry_in area slot.index

-- a place of a table of blocks
abbrev pub block_place_in : World → Slot → Checked (Found (Option ℕ))
block_place_in w slot = do
  number ← required (number_named w slot.name as_blocks) refusal.BadName
  blocks ← numbered number (slice_get w.graph.blocks number)
  entry_in blocks slot.index

-- ---- objects and cells

-- the object that a slot refers to, with its id
abbrev pub object_in : World → Option ℕ → Checked (Numbered Object)
object_in w target = do
  id ← required target refusal.NullRef
  object ← required (object_at w.graph id) refusal.NullRef
  Ok (record { number = id; value = object })

abbrev pub cells_of_body : Body → List Cell
cells_of_body (Automatic head cells is_weak) = cells
cells_of_body (Manual words) = []

abbrev pub words_of_body : Body → List ℕ
words_of_body (Automatic head cells is_weak) = []
words_of_body (Manual words) = words

abbrev pub head_of_body : Body → ℕ
head_of_body (Automatic head cells is_weak) = head
head_of_body (Manual words) = 0

-- cell k
abbrev pub cell_of : List Cell → (k : ℕ) → Checked Cell
cell_of cells k = required (slice_get cells k) refusal.BadIndex

-- the number in a cell
abbrev pub number_of_cell : Cell → Checked ℕ
number_of_cell (NumberCell number) = Ok number
number_of_cell HeadCell = Err refusal.NotANumber
number_of_cell (ReferenceCell target tag) = Err refusal.NotANumber

-- what a cell refers to
abbrev pub reference_in : Cell → Checked (Option ℕ)
reference_in (ReferenceCell target tag) = Ok target
reference_in HeadCell = Err refusal.NotARef
reference_in (NumberCell number) = Err refusal.NotARef

-- the tag of a reference
abbrev pub tag_in : Cell → Checked ℕ
tag_in (ReferenceCell target tag) = Ok tag
tag_in HeadCell = Err refusal.NotARef
tag_in (NumberCell number) = Err refusal.NotARef

-- the tag of the reference in cell k
abbrev pub tag_at : List Cell → (k : ℕ) → Checked ℕ
tag_at cells k = do
  cell ← cell_of cells k
  tag_in cell

-- the number in cell k
abbrev pub number_at : List Cell → (k : ℕ) → Checked ℕ
number_at cells k = do
  cell ← cell_of cells k
  number_of_cell cell

-- what cell k refers to
abbrev pub reference_at : List Cell → (k : ℕ) → Checked (Option ℕ)
reference_at cells k = do
  cell ← cell_of cells k
  reference_in cell

-- ---- a world with one thing changed

abbrev pub with_graph : World → Graph → World
with_graph w g = record w { graph = g }

-- one more name
abbrev pub named : Graph → Name → Thing → Graph
named g name thing = record g { names = with_last g.names (record { name = name; thing = thing }) }
