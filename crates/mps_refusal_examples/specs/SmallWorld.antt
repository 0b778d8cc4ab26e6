-- A small world with one of each thing, on which the tables of calls are tried, and the words by which they name its things.
use Rattle.std.specs.Prelude.{ℕ, ◌-◌, Bool, true, false, codes, Option, Some, None, List, [], ◌∷◌, ◌++◌, length, replicate}
use Rattle.mps_base.specs.Segment.{Segment}
use Rattle.mps_base.specs.declared.names.Name.{Name}
use Rattle.mps_base.specs.declared.names.Slot.{Slot}
use Rattle.mps_base.specs.declared.names.Kind.{Kind}
use Rattle.mps_base.specs.declared.names.Kind.TheVariants as kind
use Rattle.mps_base.specs.declared.names.Rank.{Rank}
use Rattle.mps_base.specs.declared.names.Rank.TheVariants as rank
use Rattle.mps_model.specs.Fields.{head_word}
use Rattle.mps_model.specs.Graph.{Cell, HeadCell, NumberCell, ReferenceCell, Automatic, Manual, Object, Reservation, Point, PlainWord, Hold, Thing, ChainThing, PoolThing, TableThing, AreaThing, BlocksThing, PointThing, DependencyThing, LabelThing, NamedThing, empty_graph}
use Rattle.mps_model.specs.Collection.{Collection}
use Rattle.mps_model.specs.World.{World, PoolKind, Pool, Collected, OneSize, AnySize, Dependency, PointMemory, empty_run, empty_world}

-- ---- names

abbrev pub name : (letters : List ℕ) → Name
name letters = record { bytes = letters ++ replicate (16 - length letters) 0 }

-- a name that nothing has
abbrev pub unknown : Name
unknown = name (codes "unknown")

abbrev pub a_table : Name
a_table = name (codes "table")

abbrev pub an_area : Name
an_area = name (codes "area")

abbrev pub some_blocks : Name
some_blocks = name (codes "blocks")

-- a chain of two generations
abbrev pub a_chain : Name
a_chain = name (codes "chain")

abbrev pub a_dependency : Name
a_dependency = name (codes "ld")

abbrev pub amc_pool : Name
amc_pool = name (codes "amc")

abbrev pub amcz_pool : Name
amcz_pool = name (codes "amcz")

abbrev pub ams_pool : Name
ams_pool = name (codes "ams")

abbrev pub awl_pool : Name
awl_pool = name (codes "awl")

abbrev pub lo_pool : Name
lo_pool = name (codes "lo")

-- of blocks of 4 words
abbrev pub mfs_pool : Name
mfs_pool = name (codes "mfs")

abbrev pub mvff_pool : Name
mvff_pool = name (codes "mvff")

-- the label 0
abbrev pub a_label : Name
a_label = name (codes "label")

-- a point of the AMC pool without reservation
abbrev pub idle_point : Name
idle_point = name (codes "idle")

-- one with an open reservation
abbrev pub open_point : Name
open_point = name (codes "open")

-- one with a reservation that a flip ended
abbrev pub doomed_point : Name
doomed_point = name (codes "doomed")

abbrev pub amcz_point : Name
amcz_point = name (codes "of_amcz")

abbrev pub lo_point : Name
lo_point = name (codes "of_lo")

-- ---- slots, words and places

-- the slot of the pair
abbrev pub pair_slot : Slot
pair_slot = record { name = a_table; index = 0 }

abbrev pub null_slot : Slot
null_slot = record { name = a_table; index = 1 }

-- the slot of the weak object
abbrev pub weak_slot : Slot
weak_slot = record { name = a_table; index = 2 }

-- past the last slot
abbrev pub slot_past : Slot
slot_past = record { name = a_table; index = 3 }

-- a slot of no table
abbrev pub no_slot : Slot
no_slot = record { name = unknown; index = 0 }

abbrev pub plain_word : Slot
plain_word = record { name = an_area; index = 0 }

-- the word that holds the pair
abbrev pub holding_word : Slot
holding_word = record { name = an_area; index = 1 }

abbrev pub word_past : Slot
word_past = record { name = an_area; index = 2 }

abbrev pub no_word : Slot
no_word = record { name = unknown; index = 0 }

abbrev pub full_place : Slot
full_place = record { name = some_blocks; index = 0 }

abbrev pub empty_place : Slot
empty_place = record { name = some_blocks; index = 1 }

abbrev pub place_past : Slot
place_past = record { name = some_blocks; index = 2 }

abbrev pub no_place : Slot
no_place = record { name = unknown; index = 0 }

-- ---- heads

-- `f:SIZE:REFS`
abbrev pub front : (size references : ℕ) → ℕ
front size references = head_word 1 size references

-- `m:SIZE:MASK`
abbrev pub mapped : (size mask : ℕ) → ℕ
mapped size mask = head_word 2 size mask

-- `l:SIZE`
abbrev pub leaf : (size : ℕ) → ℕ
leaf size = head_word 3 size 0

-- ---- the things of the world

-- three words: a head, a reference and a number
abbrev pub pair_cells : (target : Option ℕ) → (number : ℕ) → List Cell
pair_cells target number = HeadCell ∷ ReferenceCell target 0 ∷ NumberCell number ∷ []

-- it refers to itself, and its number is 7
abbrev pub pair : Object
pair = record { pool = 0; body = Automatic (front 3 1) (pair_cells (Some 0) 7) false }

abbrev pub weak_object : Object
weak_object = record { pool = 3; body = Automatic (front 2 1) (HeadCell ∷ ReferenceCell (Some 0) 0 ∷ []) true }

abbrev pub manual_block : Object
manual_block = record { pool = 5; body = Manual (1 ∷ 2 ∷ 3 ∷ 4 ∷ []) }

-- an automatic pool of the format `front`
abbrev pub front_pool : Kind → Pool
front_pool kind = record { kind = Collected kind; format = 1; chain = None }

abbrev pub manual_pool : PoolKind → Pool
manual_pool kind = record { kind = kind; format = 0; chain = None }

-- a point of the exact rank
abbrev pub exact_point : (pool : ℕ) → Option Reservation → Option Point
exact_point pool reservation = Some (record { pool = pool; rank = rank.Exact; reservation = reservation })

-- a reservation of a pair, which a flip ended or not
abbrev pub reserved_pair : Bool → Option Reservation
reserved_pair is_doomed = Some (record { head = front 3 1; cells = pair_cells None 0; is_doomed = is_doomed })

abbrev pub no_memory : PointMemory
no_memory = record { reserved_at = 0; buffer = empty_run }

-- the open reservation lies after the pair, and the rest of their segment is the buffer
abbrev pub open_memory : PointMemory
open_memory = record { reserved_at = 0x1018; buffer = record { from = 518; count = 506 } }

abbrev pub segment : (base pool : ℕ) → Rank → Segment
segment base pool at_rank = record { base = base; grains = 1; pool = pool; generation = 0; rank = at_rank }

abbrev pub called : Name → Thing → NamedThing
called of thing = record { name = of; thing = thing }

abbrev pub things : List NamedThing
things =
    called a_table (TableThing 0)
    ∷ called an_area (AreaThing 0)
    ∷ called some_blocks (BlocksThing 0)
    ∷ called a_chain (ChainThing 0)
    ∷ called a_dependency (DependencyThing 0)
    ∷ called amc_pool (PoolThing 0)
    ∷ called amcz_pool (PoolThing 1)
    ∷ called ams_pool (PoolThing 2)
    ∷ called awl_pool (PoolThing 3)
    ∷ called lo_pool (PoolThing 4)
    ∷ called mfs_pool (PoolThing 5)
    ∷ called mvff_pool (PoolThing 6)
    ∷ called idle_point (PointThing 0)
    ∷ called open_point (PointThing 1)
    ∷ called doomed_point (PointThing 2)
    ∷ called amcz_point (PointThing 3)
    ∷ called lo_point (PointThing 4)
    ∷ called a_label (LabelThing 0)
    ∷ []

-- the pools in the order of their numbers
abbrev pub some_pools : List Pool
some_pools =
    front_pool kind.Amc
    ∷ front_pool kind.Amcz
    ∷ front_pool kind.Ams
    ∷ front_pool kind.Awl
    ∷ front_pool kind.Lo
    ∷ manual_pool (OneSize 4)
    ∷ manual_pool AnySize
    ∷ []

abbrev pub fresh_dependency : Dependency
fresh_dependency = record { epoch = 0; zones = 0; blocks = [] }

-- grains 1, 3 and 5 of six are held, and five are the limit: no two free grains lie side by side. No collection runs
abbrev pub small : World
small = record empty_world {
  graph = record empty_graph {
    objects = pair ∷ weak_object ∷ manual_block ∷ [];
    tables = Some (Some 0 ∷ None ∷ Some 1 ∷ []) ∷ [];
    areas = Some (PlainWord 5 ∷ Hold 0 8 ∷ []) ∷ [];
    blocks = (Some 2 ∷ None ∷ []) ∷ [];
    points =
        exact_point 0 None
        ∷ exact_point 0 (reserved_pair false)
        ∷ exact_point 0 (reserved_pair true)
        ∷ exact_point 1 None
        ∷ exact_point 4 None
        ∷ [];
    registered = 0 ∷ [];
    names = things;
    labels = a_label ∷ [];
  };
  grains = 6;
  limit = 5;
  pools = some_pools;
  chains = (1 ∷ 2 ∷ []) ∷ [];
  segments = segment 0x1000 0 rank.Exact ∷ segment 0x3000 3 rank.Weak ∷ segment 0x5000 5 rank.Exact ∷ [];
  addresses = Some 0x1000 ∷ Some 0x3000 ∷ Some 0x5000 ∷ [];
  point_memories = no_memory ∷ open_memory ∷ no_memory ∷ no_memory ∷ no_memory ∷ [];
  flips = 2 ∷ [];
  dependencies = fresh_dependency ∷ [];
}

-- the same while a collection runs, whichever it is
abbrev pub running : Collection → World
running c = record small { collection = Some c }

-- the same with n free places left for each kind of thing. A table and a point that were dropped don't count
abbrev pub crowded : (free : ℕ) → World
crowded free = record small {
  graph = record small.graph {
    tables = small.graph.tables ++ None ∷ replicate (253 - free) (Some (None ∷ []));
    points = small.graph.points ++ None ∷ replicate (251 - free) (exact_point 0 None);
    labels = small.graph.labels ++ replicate (255 - free) a_label;
  };
  pools = small.pools ++ replicate (57 - free) (manual_pool AnySize);
  chains = small.chains ++ replicate (15 - free) (1 ∷ []);
  point_memories = small.point_memories ++ no_memory ∷ replicate (251 - free) no_memory;
  dependencies = small.dependencies ++ replicate (255 - free) fresh_dependency;
}
