-- The world: an object graph with the addresses of its objects in an arena, and what the arena and its collector remember.
-- Addresses are in bytes, runs in words or grains as they say.
use Rattle.std.specs.Prelude.{ℕ, ◌+◌, ◌*◌, Bool, true, false, not, ◌&&◌, ◌==◌, nat_lt, nat_le, if◌then◌else◌, Option, Some, None, option_map, option_and_then, is_some, List, [], ◌∷◌, ◌++◌, map, length, slice_get, find, sum_by, filter}
use Rattle.std.specs.List.{list_any, flat_map}
use Rattle.std.specs.Option.{option_map_or}
use Rattle.mps_base.specs.Address.{Address, Id, word_of, bytes_of_word, address_of_word}
use Rattle.mps_base.specs.Run.{Run, in_order}
use Rattle.mps_base.specs.Segment.{Segment, is_in_segment, segment_over, grains_of_segment}
use Rattle.mps_base.specs.Generation.{target_generation}
use Rattle.mps_base.specs.declared.names.Kind.{Kind}
use Rattle.mps_base.specs.PoolKind.{traits_of}
use Rattle.mps_format.specs.Layout.{Layout}
use Rattle.mps_format.specs.Any.{numbered_layout}
use Rattle.mps_model.specs.Graph.{Graph, Object, Point, Reservation, AreaWord, PlainWord, Hold, entry_at, for_object, size_of, is_automatic, is_live_reservation, empty_graph}
use Rattle.mps_model.specs.Collection.{Collection}

-- the kind of a pool
pub data PoolKind : Type 0 where
  -- an automatic pool
  Collected : (kind : Kind) → PoolKind
  -- a manual pool of blocks of n words
  OneSize : (words : ℕ) → PoolKind
  -- a manual pool of blocks of any sizes
  AnySize : PoolKind
  -- a manual pool of blocks of any sizes, which are freed frame by frame
  Frames : PoolKind

pub record Pool : Type 0 where
  pub kind : PoolKind
  -- the number of its object format; a manual pool has none, and 0 stands here
  pub format : ℕ
  -- the number of its chain
  pub chain : Option ℕ

-- what a point has in the arena
pub record PointMemory : Type 0 where
  -- the address of its open reservation, if it has one
  pub reserved_at : Address
  -- the buffer: what is left of the segment that its last new segment gave, in a copying pool
  pub buffer : Run

-- the tail for blocks that move to a generation of a pool: what is left of the last segment taken for them
pub record Tail : Type 0 where
  pub pool : ℕ
  pub generation : ℕ
  pub words : Run

-- a pair of a transform: the number of the transform, an old object, and the new one that is to stand in its place
pub record TransformPair : Type 0 where
  pub transform : ℕ
  pub old : Id
  pub new : Id

pub data ArenaState : Type 0 where
  Unclamped : ArenaState
  Clamped : ArenaState
  -- a parked arena has the pairs of all transforms, in the order of adding. No other arena has any
  Parked : (pairs : List TransformPair) → ArenaState

-- a location dependency
pub record Dependency : Type 0 where
  -- how many flips there were when it was reset
  pub epoch : ℕ
  pub zones : ℕ
  -- the objects that were added, each with its address at that moment
  pub blocks : List (ℕ × ℕ)

pub record World : Type 0 where
  pub graph : Graph
  -- the grains of the arena, numbered from 1; 0 before it is made
  pub grains : ℕ
  -- the commit limit, in grains
  pub limit : ℕ
  -- what each number of an object format means
  pub formats : ℕ → Layout
  -- the pools, by their numbers
  pub pools : List Pool
  -- the capacities of the generations of each chain, in grains
  pub chains : List (List ℕ)
  -- the held segments, in ascending order
  pub segments : List Segment
  -- the address of each object, by its id; none if it isn't live
  pub addresses : List (Option Address)
  -- by the number of the point
  pub point_memories : List PointMemory
  pub tails : List Tail
  pub state : ArenaState
  -- the zones of all flips since the arena was made, the first flip first
  pub flips : List ℕ
  pub dependencies : List Dependency
  -- the collection that runs
  pub collection : Option Collection

abbrev pub empty_run : Run
empty_run = record { from = 0; count = 0 }

-- the world before the arena is made, where these are the object formats
abbrev pub empty_world_of : (formats : ℕ → Layout) → World
empty_world_of formats = record {
  graph = empty_graph;
  grains = 0;
  limit = 0;
  formats = formats;
  pools = [];
  chains = [];
  segments = [];
  addresses = [];
  point_memories = [];
  tails = [];
  state = Unclamped;
  flips = [];
  dependencies = [];
  collection = None;
}

-- the same, with the three formats that have numbers
abbrev pub empty_world : World
empty_world = empty_world_of numbered_layout

-- whether a collection runs
abbrev pub is_running : World → Bool
is_running w = is_some w.collection

abbrev pub is_unclamped_state : ArenaState → Bool
is_unclamped_state Unclamped = true
is_unclamped_state Clamped = false
is_unclamped_state (Parked pairs) = false

abbrev pub is_unclamped : World → Bool
is_unclamped w = is_unclamped_state w.state

abbrev pub is_parked_state : ArenaState → Bool
is_parked_state Unclamped = false
is_parked_state Clamped = false
is_parked_state (Parked pairs) = true

abbrev pub is_parked : World → Bool
is_parked w = is_parked_state w.state

-- the pairs of all transforms
abbrev pub pairs_in : ArenaState → List TransformPair
pairs_in Unclamped = []
pairs_in Clamped = []
pairs_in (Parked pairs) = pairs

abbrev pub ids_of_pair : TransformPair → List ℕ
ids_of_pair p = p.old ∷ p.new ∷ []

-- the objects in pairs of transforms
abbrev pub ids_in_pairs : ArenaState → List ℕ
ids_in_pairs s = flat_map ids_of_pair (pairs_in s)

-- ---- pools

abbrev pub is_automatic_kind : PoolKind → Bool
is_automatic_kind (Collected kind) = true
is_automatic_kind (OneSize words) = false
is_automatic_kind AnySize = false
is_automatic_kind Frames = false

-- whether a collection moves blocks of this kind of pool
abbrev pub is_copying_kind : PoolKind → Bool
is_copying_kind (Collected kind) = (traits_of kind).moves
is_copying_kind (OneSize words) = false
is_copying_kind AnySize = false
is_copying_kind Frames = false

-- whether blocks of this kind of pool have no references
abbrev pub is_leaf_kind : PoolKind → Bool
is_leaf_kind (Collected kind) = (traits_of kind).leaf
is_leaf_kind (OneSize words) = false
is_leaf_kind AnySize = false
is_leaf_kind Frames = false

-- whether this kind of pool may hold weak references
abbrev pub is_weak_kind : PoolKind → Bool
is_weak_kind (Collected kind) = (traits_of kind).weak
is_weak_kind (OneSize words) = false
is_weak_kind AnySize = false
is_weak_kind Frames = false

-- whether an empty segment of this kind of pool is given back at once
abbrev pub is_any_size_kind : PoolKind → Bool
is_any_size_kind AnySize = true
is_any_size_kind Frames = true
is_any_size_kind _ = false

-- whether a pool of this kind frees its blocks frame by frame
abbrev pub has_frames : PoolKind → Bool
has_frames Frames = true
has_frames _ = false

abbrev pub pool_at : World → (number : ℕ) → Option Pool
pool_at w number = slice_get w.pools number

-- whether there is a pool of this number, and its kind passes a test
abbrev pub pool_is : (PoolKind → Bool) → World → (number : ℕ) → Bool
pool_is test w number = option_map_or (λ p. test p.kind) (pool_at w number) false

abbrev pub is_copying_pool : World → (number : ℕ) → Bool
is_copying_pool w number = pool_is is_copying_kind w number

-- how many generations the chain of a pool has, if it is on one
abbrev pub generations_of : World → (pool : ℕ) → Option ℕ
generations_of w pool = option_map length (option_and_then (λ chain. slice_get w.chains chain)
    (option_and_then (λ p. p.chain) (pool_at w pool)))

-- the generation to which a block of this pool and generation moves
abbrev pub target_generation_of : World → (pool generation : ℕ) → ℕ
target_generation_of w pool generation = target_generation (generations_of w pool) generation

-- ---- segments

-- the held segment that begins at an address
abbrev pub segment_at : World → (base : Address) → Option Segment
segment_at w base = find (λ s. s.base == base) w.segments

-- the held segment in which an address lies
abbrev pub segment_of : World → (address : Address) → Option Segment
segment_of w address = segment_over w.segments address

-- the runs of grains that are held, in ascending order
abbrev pub held_grains : World → List Run
held_grains w = map grains_of_segment w.segments

-- how many grains are held
abbrev pub committed : World → ℕ
committed w = sum_by (λ s. s.grains) w.segments

-- ---- blocks and reservations

-- the address of an object, if it is live
abbrev pub address_of : World → (id : Id) → Option ℕ
address_of w id = entry_at w.addresses id

abbrev pub is_live : World → (id : Id) → Bool
is_live w id = is_some (address_of w id)

-- whether an object is live, and its address passes a test
abbrev pub is_live_and : (Address → Bool) → World → (id : Id) → Bool
is_live_and test w id = option_map_or test (address_of w id) false

abbrev pub is_at : (address : Address) → Option ℕ → Bool
is_at address None = false
is_at address (Some other) = other == address

-- the numbers, from the first one on, of the entries that pass a test
abbrev pub numbers_of : {X : Type 0} → (X → Bool) → (first : ℕ) → List X → List ℕ
numbers_of test first [] = []
numbers_of test first (x ∷ xs) = if test x then first ∷ numbers_of test (first + 1) xs else numbers_of test (first + 1) xs

-- the ids of all live objects, in ascending order
abbrev pub live_ids : World → List ℕ
live_ids w = numbers_of is_some 0 w.addresses

abbrev pub first_id : List ℕ → Option ℕ
first_id [] = None
first_id (n ∷ ns) = Some n

-- the live object at an address
abbrev pub id_at : World → (address : Address) → Option ℕ
id_at w address = first_id (numbers_of (is_at address) 0 w.addresses)

-- whether the object passes a test
abbrev pub object_is : (Object → Bool) → World → (id : Id) → Bool
object_is test w id = for_object w.graph id test false

-- the ids of all live objects of automatic pools, in ascending order
abbrev pub live_automatic_ids : World → List ℕ
live_automatic_ids w = filter (object_is is_automatic w) (live_ids w)

-- the number of an object's pool
abbrev pub pool_of : World → (id : Id) → ℕ
pool_of w id = for_object w.graph id (λ o. o.pool) 0

-- the size of an object in words
abbrev pub words_of : World → (id : Id) → ℕ
words_of w id = for_object w.graph id size_of 0

-- whether a collection moves this object
abbrev pub is_copying_object : World → (id : Id) → Bool
is_copying_object w id = object_is (λ o. is_copying_pool w o.pool) w id

abbrev pub extent : (address words : ℕ) → Run
extent address words = record { from = word_of address; count = words }

-- the words of the live blocks, of these objects at these addresses
abbrev pub extents_of : List Object → List (Option ℕ) → List Run
extents_of [] addresses = []
extents_of (o ∷ os) [] = []
extents_of (o ∷ os) (None ∷ addresses) = extents_of os addresses
extents_of (o ∷ os) (Some at ∷ addresses) = extent at (size_of o) ∷ extents_of os addresses

-- the words of a live reservation, with what its point has in the arena
abbrev pub extent_of_reservation : Option Reservation → PointMemory → List Run
extent_of_reservation None memory = []
extent_of_reservation (Some r) memory = if is_live_reservation r then extent memory.reserved_at (length r.cells) ∷ [] else []

-- the words of the live reservations, of these points
abbrev pub reserved_extents : List (Option Point) → List PointMemory → List Run
reserved_extents [] memories = []
reserved_extents (p ∷ ps) [] = []
reserved_extents (None ∷ ps) (memory ∷ memories) = reserved_extents ps memories
reserved_extents (Some p ∷ ps) (memory ∷ memories) = extent_of_reservation p.reservation memory ++ reserved_extents ps memories

-- the words of all live blocks and live reservations, in ascending order
abbrev pub covered : World → List Run
covered w = in_order (extents_of w.graph.objects w.addresses ++ reserved_extents w.graph.points w.point_memories)

-- whether a run of words begins in a segment. A block or reservation lies in one segment
abbrev pub begins_in : Segment → Run → Bool
begins_in s r = is_in_segment s (address_of_word r.from)

-- whether no live block and no live reservation lies in a segment
abbrev pub is_empty_segment : World → Segment → Bool
is_empty_segment w s = not (list_any (begins_in s) (covered w))

-- the generation of a live object: that of its segment
abbrev pub generation_of : World → (id : Id) → ℕ
generation_of w id = option_map_or (λ s. s.generation) (option_and_then (segment_of w) (address_of w id)) 0

-- the generation to which a live object moves
abbrev pub target_generation_for : World → (id : Id) → ℕ
target_generation_for w id = target_generation_of w (pool_of w id) (generation_of w id)

-- ---- area words

-- the number that an area word shows: of a hold, the address that it holds
abbrev pub shown_word : World → AreaWord → ℕ
shown_word w (PlainWord number) = number
shown_word w (Hold id offset) = option_map_or (λ at. at + offset) (address_of w id) 0

abbrev pub shown_words : World → Option (List AreaWord) → List ℕ
shown_words w None = []
shown_words w (Some words) = map (shown_word w) words

-- the numbers that all area words show
abbrev pub area_words : World → List ℕ
area_words w = flat_map (shown_words w) w.graph.areas

-- whether a word lies in a block of n words: in a copying pool by bytes, else exactly at its address
abbrev pub is_word_in : (is_copying : Bool) → (at words word : ℕ) → Bool
is_word_in true at words word = nat_le at word && nat_lt word (at + bytes_of_word * words)
is_word_in false at words word = word == at

-- whether a word lies in an object, if it is live. It never lies in a manual block or in a reservation
abbrev pub lies_in : World → (word id : ℕ) → Bool
lies_in w word id = object_is is_automatic w id && is_live_and (λ at. is_word_in (is_copying_object w id) at (words_of w id) word) w id

-- the live object in which a word lies
abbrev pub block_of_word : World → (word : ℕ) → Option ℕ
block_of_word w word = find (λ id. lies_in w word id) (live_ids w)

-- whether an area word lies in an object
abbrev pub has_area_word : World → (id : Id) → Bool
has_area_word w id = list_any (λ word. lies_in w word id) (area_words w)

-- ---- tails

abbrev pub is_tail_of : (pool generation : ℕ) → Tail → Bool
is_tail_of pool generation t = t.pool == pool && t.generation == generation

-- the tail for blocks that move to a generation of a pool
abbrev pub tail_of : World → (pool generation : ℕ) → Run
tail_of w pool generation = option_map_or (λ t. t.words) (find (is_tail_of pool generation) w.tails) empty_run

-- the tail of a generation of a pool is these words, in place of what it was
abbrev pub with_tail : World → (pool generation : ℕ) → Run → World
with_tail w pool generation words = record w {
  tails = record { pool = pool; generation = generation; words = words } ∷ filter (λ t. not (is_tail_of pool generation t)) w.tails;
}

-- the live automatic objects in which an area word lies
abbrev pub ids_of_area_words : World → List ℕ
ids_of_area_words w = filter (has_area_word w) (live_automatic_ids w)
