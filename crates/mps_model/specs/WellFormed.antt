-- What holds of every world that a legal history reaches in which only the first command makes an arena, as in any script.
use Rattle.std.specs.Prelude.{◌≡◌, ℕ, Bool, true, false, not, ◌&&◌, ◌||◌, ◌==◌, nat_lt, nat_le, IsTrue, if◌then◌else◌, Option, Some, None, is_some, slice_get, List, [], ◌∷◌, ◌++◌, map, length, filter, replicate, codes, ◌+◌, refl}
use Rattle.std.proofs.Common.{arith}
use Rattle.std.specs.List.{list_any, list_all}
use Rattle.std.specs.Option.{option_map_or}
use Rattle.mps_base.specs.Address.{Id, address_of_grain}
use Rattle.mps_base.specs.Run.{Run, end_of, in_order}
use Rattle.mps_base.specs.Segment.{Segment, same_rank, words_of_segment, grains_of_segment}
use Rattle.mps_base.specs.Name.{same_name}
use Rattle.mps_base.specs.declared.names.Name.{Name}
use Rattle.mps_base.specs.declared.names.Kind.TheVariants as kind
use Rattle.mps_base.specs.declared.names.Rank.TheVariants as rank
use Rattle.mps_model.specs.Graph.{Graph, Thing, ChainThing, PoolThing, TableThing, AreaThing, BlocksThing, PointThing, DependencyThing, TransformThing, CacheThing, LabelThing, NamedThing, thing_named, entry_at, Cell, HeadCell, NumberCell, ReferenceCell, Body, Automatic, Manual, Object, Reservation, Point, AreaWord, PlainWord, Hold, is_automatic, is_weak_object, new_cells, targets_of_cells, with_target_cell, graph_with_cells, empty_graph, ids_in_slots, ids_in_blocks, Cache, CacheClass, PoolFrames, size_of}
use Rattle.mps_model.specs.Collection.{Collection, empty_collection}
use Rattle.mps_model.specs.World.{World, committed, segment_at, Pool, PointMemory, Tail, is_automatic_kind, is_weak_kind, pool_is, pool_at, generations_of, is_live, is_live_and, live_ids, object_is, pool_of, words_of, extent, covered, shown_word, lies_in, Collected, Parked, TransformPair, is_parked, is_running, ids_in_pairs, empty_run, empty_world, OneSize, AnySize, Frames, has_frames, PoolKind, Dependency}
use Rattle.mps_model.specs.Making.{is_weak_rank}
use Rattle.mps_model.specs.Dependents.{may_depend}
use Rattle.mps_model.specs.Allocating.{allows_size, takes_head}
use Rattle.mps_model.specs.Caches.{may_have_cache}

-- ---- runs of words

-- whether runs in ascending order are apart: each ends where the next begins, or before
abbrev pub are_apart : List Run → Bool
are_apart [] = true
are_apart (r ∷ []) = true
are_apart (r ∷ s ∷ rs) = nat_le (end_of r) s.from && are_apart (s ∷ rs)

-- whether a run lies within another
abbrev pub lies_within : Run → Run → Bool
lies_within outer r = nat_le outer.from r.from && nat_le (end_of r) (end_of outer)

-- whether a run of words lies in a held segment of a pool that passes a test
abbrev pub is_in_segment_of : World → (pool : ℕ) → (Segment → Bool) → Run → Bool
is_in_segment_of w pool test r = list_any (λ s. s.pool == pool && test s && lies_within (words_of_segment s) r) w.segments

-- whether a run of words lies in a held segment of a pool and a rank
abbrev pub is_home : World → (pool : ℕ) → (is_weak : Bool) → Run → Bool
is_home w pool is_weak r = is_in_segment_of w pool (λ s. same_rank s.rank (if is_weak then rank.Weak else rank.Exact)) r

-- ---- segments

-- whether a segment has grains of the arena, all of them; and only a pool of weak references has weak ones
abbrev pub is_right_segment : World → Segment → Bool
is_right_segment w s =
    address_of_grain (grains_of_segment s).from == s.base && nat_lt 0 s.grains
    && lies_within (record { from = 1; count = w.grains }) (grains_of_segment s)
    && (not (is_weak_rank s.rank) || pool_is is_weak_kind w s.pool)

-- whether a segment is of a pool that there is, and of generation 0 or of one that the chain of its pool has
abbrev pub is_of_pool : World → Segment → Bool
is_of_pool w s =
    pool_is (λ kind. true) w s.pool
    && (s.generation == 0 || nat_lt s.generation (option_map_or (λ count. count) (generations_of w s.pool) 0))

-- ---- cells

-- whether a cell is of the kind of another, and its tag is below 8
abbrev pub is_shaped : (like : Cell) → Cell → Bool
is_shaped HeadCell HeadCell = true
is_shaped (NumberCell number) (NumberCell other) = true
is_shaped (ReferenceCell target tag) (ReferenceCell other its_tag) = nat_lt its_tag 8
is_shaped _ _ = false

abbrev pub are_shaped : (like : List Cell) → List Cell → Bool
are_shaped [] [] = true
are_shaped (like ∷ likes) (c ∷ cs) = is_shaped like c && are_shaped likes cs
are_shaped _ _ = false

-- whether a pool takes blocks with this head, cells are those of such a block, and they refer to automatic objects. So an object of a
-- leaf pool has no reference cell
abbrev pub are_right_cells : World → Pool → (head : ℕ) → List Cell → Bool
are_right_cells w p head cells =
    takes_head w p head && are_shaped (new_cells (w.formats p.format) head) cells
    && list_all (object_is is_automatic w) (targets_of_cells cells)

-- ---- objects, reservations, buffers and tails

abbrev pub is_right_body : World → Pool → Body → Bool
is_right_body w p (Automatic head cells is_weak) =
    is_automatic_kind p.kind && are_right_cells w p head cells && (not is_weak || is_weak_kind p.kind)
is_right_body w p (Manual words) = not (is_automatic_kind p.kind) && allows_size p.kind (length words)

abbrev pub is_right_object : World → Object → Bool
is_right_object w o = option_map_or (λ p. is_right_body w p o.body) (pool_at w o.pool) false

-- whether a live object lies in a held segment of its pool, and a weak one in a weak one
abbrev pub is_right_place : World → (id : Id) → Bool
is_right_place w id = is_live_and (λ at. is_home w (pool_of w id) (object_is is_weak_object w id) (extent at (words_of w id))) w id

-- the same of a reservation, and of the buffer of a point
abbrev pub is_right_reservation : World → Point → PointMemory → Reservation → Bool
is_right_reservation w p memory r =
    option_map_or (λ of. are_right_cells w of r.head r.cells) (pool_at w p.pool) false
    && (r.is_doomed || is_home w p.pool (is_weak_rank p.rank) (extent memory.reserved_at (length r.cells)))

abbrev pub is_right_at_hand : World → (pool : ℕ) → Run → Bool
is_right_at_hand w pool r = r.count == 0 || is_in_segment_of w pool (λ s. true) r

abbrev pub is_right_point : World → Point → PointMemory → Bool
is_right_point w p memory =
    option_map_or (is_right_reservation w p memory) p.reservation true && is_right_at_hand w p.pool memory.buffer

abbrev pub are_right_points : World → List (Option Point) → List PointMemory → Bool
are_right_points w [] [] = true
are_right_points w (None ∷ ps) (memory ∷ memories) = are_right_points w ps memories
are_right_points w (Some p ∷ ps) (memory ∷ memories) = is_right_point w p memory && are_right_points w ps memories
are_right_points w _ _ = false

-- the buffers of points, and the tails for blocks that move
abbrev pub at_hand : World → List Run
at_hand w = filter (λ r. nat_lt 0 r.count) (map (λ (m : PointMemory). m.buffer) w.point_memories ++ map (λ (t : Tail). t.words) w.tails)

-- ---- what the client holds

-- whether the word that an area word shows lies in the object that it holds
abbrev pub is_right_word : World → AreaWord → Bool
is_right_word w (PlainWord number) = true
is_right_word w (Hold id offset) = lies_in w (shown_word w (Hold id offset)) id

abbrev pub are_right_words : World → Option (List AreaWord) → Bool
are_right_words w None = true
are_right_words w (Some words) = list_all (is_right_word w) words

-- ---- names

-- whether there is what a name represents: it was made, and not dropped
abbrev pub is_there : World → Thing → Bool
is_there w (ChainThing number) = nat_lt number (length w.chains)
is_there w (PoolThing number) = nat_lt number (length w.pools)
is_there w (TableThing number) = is_some (entry_at w.graph.tables number)
is_there w (AreaThing number) = is_some (entry_at w.graph.areas number)
is_there w (BlocksThing number) = nat_lt number (length w.graph.blocks)
is_there w (PointThing number) = is_some (entry_at w.graph.points number)
is_there w (DependencyThing number) = nat_lt number (length w.dependencies)
is_there w (TransformThing number) = option_map_or (λ not_dropped. not_dropped) (slice_get w.graph.transforms number) false
is_there w (CacheThing number) = nat_lt number (length w.graph.caches)
is_there w (LabelThing number) = nat_lt number (length w.graph.labels)

abbrev pub same_thing : Thing → Thing → Bool
same_thing (ChainThing number) (ChainThing other) = number == other
same_thing (PoolThing number) (PoolThing other) = number == other
same_thing (TableThing number) (TableThing other) = number == other
same_thing (AreaThing number) (AreaThing other) = number == other
same_thing (BlocksThing number) (BlocksThing other) = number == other
same_thing (PointThing number) (PointThing other) = number == other
same_thing (DependencyThing number) (DependencyThing other) = number == other
same_thing (TransformThing number) (TransformThing other) = number == other
same_thing (CacheThing number) (CacheThing other) = number == other
same_thing (LabelThing number) (LabelThing other) = number == other
same_thing _ _ = false

-- whether two names are different, and represent different things
abbrev pub are_different : NamedThing → NamedThing → Bool
are_different m n = not (same_name m.name n.name) && not (same_thing m.thing n.thing)

-- whether no name stands twice in a list, and no thing has two names
abbrev pub are_all_different : List NamedThing → Bool
are_all_different [] = true
are_all_different (n ∷ ns) = list_all (are_different n) ns && are_all_different ns

-- ---- labels

-- whether a name represents the label of this number
abbrev pub is_label : (number : ℕ) → Option Thing → Bool
is_label number (Some (LabelThing its_number)) = its_number == number
is_label number _ = false

-- whether names represent the labels of this number and of those after it
abbrev pub are_labels : Graph → (number : ℕ) → List Name → Bool
are_labels g number [] = true
are_labels g number (name ∷ names) = is_label number (thing_named g name) && are_labels g (number + 1) names

-- ---- dependents

-- whether a pair is of two live objects, the second of which may be the dependent of the first
abbrev pub is_right_pair : World → Id × Id → Bool
is_right_pair w p = is_live w p.0 && (is_live w p.1 && object_is (λ holder. object_is (may_depend w holder) w p.1) w p.0)

-- ---- caches

-- whether a block may lie in a class of n words over a pool: it is of this pool and size
abbrev pub is_right_block : World → (pool words : ℕ) → (id : Id) → Bool
is_right_block w pool words id = object_is (λ o. o.pool == pool && size_of o == words) w id

abbrev pub is_right_class : World → (pool : ℕ) → CacheClass → Bool
is_right_class w pool k = list_all (is_right_block w pool k.words) k.cached

-- whether a cache stands over a pool of blocks of any sizes, and each block in it is of this pool and of the size of its class
abbrev pub is_right_cache : World → Cache → Bool
is_right_cache w q = pool_is may_have_cache w q.pool && list_all (is_right_class w q.pool) q.classes

-- ---- frames

-- whether numbers ascend from this one on, and none is above another
abbrev pub are_rising : (from most : ℕ) → List ℕ → Bool
are_rising from most [] = true
are_rising from most (n ∷ ns) = nat_le from n && (nat_le n most && are_rising n most ns)

-- whether an object is a manual block of this pool
abbrev pub is_block_of : World → (pool : ℕ) → (id : Id) → Bool
is_block_of w pool id = object_is (λ o. not (is_automatic o) && o.pool == pool) w id

-- whether a pool of frames has manual blocks of its own, and frames of which none begins before the one before it, or after the last
-- block
abbrev pub are_right_frames : World → PoolFrames → Bool
are_right_frames w f =
    pool_is has_frames w f.pool && (list_all (is_block_of w f.pool) f.blocks && are_rising 0 (length f.blocks) f.opened)

-- ---- dependencies

-- whether a dependency was reset when there were no more flips than there are
abbrev pub is_dated : (flips : ℕ) → Dependency → Bool
is_dated flips d = nat_le d.epoch flips

abbrev pub is_live_automatic : World → (id : Id) → Bool
is_live_automatic w id = is_live w id && object_is is_automatic w id

-- ---- the collection that runs

-- whether a running collection has condemned automatic objects, and segments that are held; no more registrations were made before its flip
-- than there are, and no more of these were examined; and no more units were asked of it than it may take
abbrev pub is_right_collection : World → Collection → Bool
is_right_collection w c =
    list_all (object_is is_automatic w) c.condemned && (list_all (λ base. is_some (segment_at w base)) c.condemned_segments
    && (nat_le c.examined c.registered_before && (nat_le c.registered_before (length w.graph.registered) && nat_le c.spent c.units)))

-- ---- worlds

-- what holds of every world that a legal history reaches in which only the first command makes an arena
pub record IsWellFormed (w : World) : Type 0 where
  -- segments ascend, apart, and lie in the arena
  pub segments : IsTrue (list_all (is_right_segment w) w.segments && are_apart (map grains_of_segment w.segments))
  -- no more grains are held than the limit allows
  pub limit : IsTrue (nat_le (committed w) w.limit)
  -- each segment is of a pool that there is, and of one of its generations
  pub pools : IsTrue (list_all (is_of_pool w) w.segments)
  -- each object has an entry for its address
  pub addresses : length w.addresses ≡ length w.graph.objects
  -- what lies somewhere lies apart from all else, and from buffers and tails
  pub apart : IsTrue (are_apart (in_order (covered w ++ at_hand w)))
  pub objects : IsTrue (list_all (is_right_object w) w.graph.objects)
  pub places : IsTrue (list_all (is_right_place w) (live_ids w))
  pub points : IsTrue (are_right_points w w.graph.points w.point_memories)
  pub tails : IsTrue (list_all (λ t. is_right_at_hand w t.pool t.words) w.tails)
  -- slots and area words hold automatic objects, places of tables of blocks and caches hold manual ones
  pub slots : IsTrue (list_all (object_is is_automatic w) (ids_in_slots w.graph))
  pub words : IsTrue (list_all (are_right_words w) w.graph.areas)
  pub blocks : IsTrue (list_all (object_is (λ o. not (is_automatic o)) w) (ids_in_blocks w.graph))
  -- registrations and messages are of live automatic objects
  pub registered : IsTrue (list_all (is_live_automatic w) w.graph.registered)
  pub messages : IsTrue (list_all (is_live_automatic w) w.graph.messages)
  -- each name stands once and represents a thing that there is, which has no other name
  pub names : IsTrue (list_all (λ (n : NamedThing). is_there w n.thing) w.graph.names && are_all_different w.graph.names)
  -- each label is a name, which represents it by its number: so no name is a label twice
  pub labels : IsTrue (are_labels w.graph 0 w.graph.labels)
  -- each object with a dependent is weak, its dependent isn't, and both are live
  pub dependents : IsTrue (list_all (is_right_pair w) w.graph.dependents)
  -- no collection runs in a parked arena
  pub parked : IsTrue (not (is_parked w && is_running w))
  -- what a running collection has condemned is there, and its numbers are within bounds
  pub running : IsTrue (option_map_or (is_right_collection w) w.collection true)
  -- both objects of each pair of a transform are live and automatic
  pub transforms : IsTrue (list_all (is_live_automatic w) (ids_in_pairs w.state))
  -- what lies in a cache is a block of its pool, and of the size of its class
  pub caches : IsTrue (list_all (is_right_cache w) w.graph.caches)
  -- the frames of a pool ascend, and its blocks are manual and its own
  pub frames : IsTrue (list_all (are_right_frames w) w.graph.frames)
  -- no dependency's epoch is to come
  pub dependencies : IsTrue (list_all (is_dated (length w.flips)) w.dependencies)

-- the name of a label
abbrev pub ring : Name
ring = record { bytes = codes "ring" ++ replicate 12 0 }

-- a weak object at 0x2000, in its own segment, refers to one at 0x1000, and a word of an area holds that one
abbrev pub small_world : World
small_world = record empty_world {
  graph = record empty_graph {
    objects =
        record { pool = 0; body = Automatic 0x201 (HeadCell ∷ NumberCell 7 ∷ []) false }
        ∷ record { pool = 0; body = Automatic 0x100000201 (HeadCell ∷ ReferenceCell (Some 0) 3 ∷ []) true } ∷ [];
    tables = Some (Some 1 ∷ None ∷ []) ∷ [];
    areas = Some (Hold 0 0 ∷ PlainWord 9 ∷ []) ∷ [];
    points =
        Some (record {
          pool = 0;
          rank = rank.Exact;
          reservation = Some (record { head = 0x201; cells = HeadCell ∷ NumberCell 0 ∷ []; is_doomed = false });
        }) ∷ [];
    registered = 0 ∷ [];
    names = record { name = ring; thing = LabelThing 0 } ∷ [];
    labels = ring ∷ [];
    dependents = (1, 0) ∷ [];
  };
  grains = 4;
  limit = 4;
  pools = record { kind = Collected kind.Awl; format = 1; chain = None } ∷ [];
  segments =
      record { base = 0x1000; grains = 1; pool = 0; generation = 0; rank = rank.Exact }
      ∷ record { base = 0x2000; grains = 1; pool = 0; generation = 0; rank = rank.Weak } ∷ [];
  addresses = Some 0x1000 ∷ Some 0x2000 ∷ [];
  point_memories = record { reserved_at = 0x1010; buffer = empty_run } ∷ [];
  state = Parked (record { transform = 0; old = 1; new = 0 } ∷ []);
}

pub small_world_is_well_formed : IsWellFormed small_world
small_world_is_well_formed = record {
  segments = refl;
  limit = refl;
  pools = refl;
  addresses = refl;
  apart = refl;
  objects = refl;
  places = refl;
  points = refl;
  tails = refl;
  slots = refl;
  words = refl;
  blocks = refl;
  registered = refl;
  messages = refl;
  names = refl;
  labels = refl;
  dependents = refl;
  parked = refl;
  running = refl;
  transforms = refl;
  caches = refl;
  frames = refl;
  dependencies = refl;
}

-- what breaks it, a fact at a time
pub two_at_one_address : IsWellFormed (record small_world { addresses = Some 0x2000 ∷ Some 0x2000 ∷ [] }) → ⊥
two_at_one_address w = let h : false ≡ true = w.apart in absurd cc

pub a_weak_object_in_an_exact_segment : IsWellFormed (record small_world { addresses = Some 0x2000 ∷ Some 0x1000 ∷ [] }) → ⊥
a_weak_object_in_an_exact_segment w = let h : false ≡ true = w.places in absurd cc

pub a_block_over_an_end : IsWellFormed (record small_world { addresses = Some 0x1ff8 ∷ Some 0x2010 ∷ [] }) → ⊥
a_block_over_an_end w = let h : false ≡ true = w.places in absurd cc

pub a_reservation_over_a_block :
    IsWellFormed (record small_world { point_memories = record { reserved_at = 0x1008; buffer = empty_run } ∷ [] }) → ⊥
a_reservation_over_a_block w = let h : false ≡ true = w.apart in absurd cc

pub a_segment_outside_the_arena : IsWellFormed (record small_world { grains = 1 }) → ⊥
a_segment_outside_the_arena w = let h : false ≡ true = w.segments in absurd cc

pub an_object_without_an_entry : IsWellFormed (record small_world { addresses = Some 0x1000 ∷ [] }) → ⊥
an_object_without_an_entry w = let h : 1 ≡ 2 = w.addresses in omega (arith, h)

pub a_dead_one_registered : IsWellFormed (record small_world { addresses = None ∷ Some 0x2000 ∷ [] }) → ⊥
a_dead_one_registered w = let h : false ≡ true = w.registered in absurd cc

-- the small world with these pairs
abbrev with_pairs : List (Id × Id) → World
with_pairs ps = record small_world { graph = record small_world.graph { dependents = ps } }

pub a_dependent_of_an_exact_object : IsWellFormed (with_pairs ((0, 1) ∷ [])) → ⊥
a_dependent_of_an_exact_object w = let h : false ≡ true = w.dependents in absurd cc

pub a_weak_dependent : IsWellFormed (with_pairs ((1, 1) ∷ [])) → ⊥
a_weak_dependent w = let h : false ≡ true = w.dependents in absurd cc

pub a_pair_of_a_freed_holder : IsWellFormed (record small_world { addresses = Some 0x1000 ∷ None ∷ [] }) → ⊥
a_pair_of_a_freed_holder w = let h : false ≡ true = w.dependents in absurd cc

pub a_collection_in_a_parked_arena :
    IsWellFormed (record small_world { collection = Some (empty_collection small_world.graph) }) → ⊥
a_collection_in_a_parked_arena w = let h : false ≡ true = w.parked in absurd cc

-- the small world with this pair of a transform
abbrev with_transform_pair : TransformPair → World
with_transform_pair p = record small_world { state = Parked (p ∷ []) }

pub a_transform_of_no_object : IsWellFormed (with_transform_pair (record { transform = 0; old = 1; new = 2 })) → ⊥
a_transform_of_no_object w = let h : false ≡ true = w.transforms in absurd cc

pub a_transform_of_a_freed_object : IsWellFormed (record small_world {
  graph = record small_world.graph { dependents = [] };
  addresses = Some 0x1000 ∷ None ∷ [];
}) → ⊥
a_transform_of_a_freed_object w = let h : false ≡ true = w.transforms in absurd cc

-- a manual block of 2 words at 0x1000, in a cache over the pool 0, whose pools are these
abbrev with_cached : List Pool → CacheClass → World
with_cached pools k = record empty_world {
  graph = record empty_graph {
    objects = record { pool = 0; body = Manual (0 ∷ 0 ∷ []) } ∷ [];
    caches = record { pool = 0; classes = k ∷ [] } ∷ [];
  };
  grains = 1;
  limit = 1;
  pools = pools;
  segments = record { base = 0x1000; grains = 1; pool = 0; generation = 0; rank = rank.Exact } ∷ [];
  addresses = Some 0x1000 ∷ [];
}

abbrev any_sizes : List Pool
any_sizes = record { kind = AnySize; format = 0; chain = None } ∷ []

pub a_cached_block : list_all (is_right_cache (with_cached any_sizes (record { words = 2; limit = 1; cached = 0 ∷ [] })))
    (with_cached any_sizes (record { words = 2; limit = 1; cached = 0 ∷ [] })).graph.caches ≡ true
a_cached_block = refl

pub a_block_in_the_class_of_another_size :
    IsWellFormed (with_cached any_sizes (record { words = 3; limit = 1; cached = 0 ∷ [] })) → ⊥
a_block_in_the_class_of_another_size w = let h : false ≡ true = w.caches in absurd cc

pub a_cache_over_a_pool_of_one_size :
    IsWellFormed (with_cached (record { kind = OneSize 2; format = 0; chain = None } ∷ [])
    (record { words = 2; limit = 1; cached = 0 ∷ [] })) → ⊥
a_cache_over_a_pool_of_one_size w = let h : false ≡ true = w.caches in absurd cc

abbrev with_frames : List Pool
with_frames = record { kind = Frames; format = 0; chain = None } ∷ []

-- a manual block of a pool of frames at 0x1000, where these are the frames
abbrev with_frames_of : PoolFrames → World
with_frames_of f = record (with_cached with_frames (record { words = 2; limit = 1; cached = [] })) {
  graph = record empty_graph {
    objects = record { pool = 0; body = Manual (0 ∷ 0 ∷ []) } ∷ [];
    frames = f ∷ [];
  };
}

pub a_block_of_a_frame : are_right_frames (with_frames_of (record { pool = 0; blocks = 0 ∷ []; opened = 0 ∷ 1 ∷ [] }))
    (record { pool = 0; blocks = 0 ∷ []; opened = 0 ∷ 1 ∷ [] }) ≡ true
a_block_of_a_frame = refl

pub frames_that_fall : IsWellFormed (with_frames_of (record { pool = 0; blocks = 0 ∷ []; opened = 1 ∷ 0 ∷ [] })) → ⊥
frames_that_fall w = let h : false ≡ true = w.frames in absurd cc

pub a_frame_after_the_last_block : IsWellFormed (with_frames_of (record { pool = 0; blocks = 0 ∷ []; opened = 2 ∷ [] })) → ⊥
a_frame_after_the_last_block w = let h : false ≡ true = w.frames in absurd cc

pub a_block_that_was_never_made : IsWellFormed (with_frames_of (record { pool = 0; blocks = 1 ∷ []; opened = [] })) → ⊥
a_block_that_was_never_made w = let h : false ≡ true = w.frames in absurd cc

pub frames_of_a_pool_without_any : IsWellFormed (record (with_frames_of (record { pool = 0; blocks = 0 ∷ []; opened = [] })) {
  pools = any_sizes;
}) → ⊥
frames_of_a_pool_without_any w = let h : false ≡ true = w.frames in absurd cc

-- the small world after one flip, with a dependency of this epoch
abbrev with_epoch : (epoch : ℕ) → World
with_epoch epoch = record small_world { flips = 2 ∷ []; dependencies = record { epoch = epoch; zones = 0; blocks = [] } ∷ [] }

pub an_epoch_of_now : list_all (is_dated 1) (with_epoch 1).dependencies ≡ true
an_epoch_of_now = refl

pub an_epoch_to_come : IsWellFormed (with_epoch 2) → ⊥
an_epoch_to_come w = let h : false ≡ true = w.dependencies in absurd cc

-- a world of one object, of a pool of this kind
abbrev with_one : PoolKind → Object → World
with_one of o = record empty_world {
  graph = record empty_graph { objects = o ∷ [] };
  pools = record { kind = of; format = 1; chain = None } ∷ [];
  addresses = None ∷ [];
}

-- an object of two words, the second of which is a number or a reference
abbrev one_number : Object
one_number = record { pool = 0; body = Automatic 0x201 (HeadCell ∷ NumberCell 7 ∷ []) false }

abbrev one_reference : Object
one_reference = record { pool = 0; body = Automatic 0x100000201 (HeadCell ∷ ReferenceCell None 0 ∷ []) false }

pub a_number_in_a_leaf_pool : is_right_object (with_one (Collected kind.Lo) one_number) one_number ≡ true
a_number_in_a_leaf_pool = refl

pub a_reference_in_another_pool : is_right_object (with_one (Collected kind.Ams) one_reference) one_reference ≡ true
a_reference_in_another_pool = refl

pub a_reference_in_a_leaf_pool : IsWellFormed (with_one (Collected kind.Lo) one_reference) → ⊥
a_reference_in_a_leaf_pool w = let h : false ≡ true = w.objects in absurd cc

-- a block of two words
abbrev two_words : Object
two_words = record { pool = 0; body = Manual (0 ∷ 0 ∷ []) }

pub a_block_of_its_size : is_right_object (with_one (OneSize 2) two_words) two_words ≡ true
a_block_of_its_size = refl

pub a_block_of_another_size : IsWellFormed (with_one (OneSize 3) two_words) → ⊥
a_block_of_another_size w = let h : false ≡ true = w.objects in absurd cc

pub a_reference_to_nothing : IsWellFormed (record small_world {
  graph = graph_with_cells small_world.graph 1
      (λ cells. with_target_cell cells 1 (Some 2));
}) → ⊥
a_reference_to_nothing w = let h : false ≡ true = w.objects in absurd cc
