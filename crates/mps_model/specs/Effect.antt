-- What each move does to a world: a function of the two. A move of the collector touches the object graph in three cases
-- alone: a flip dooms the open reservations, a splat makes a reference null, and a post makes a registration a message.
use Rattle.std.specs.Prelude.{ℕ, ◌+◌, ◌-◌, ◌*◌, Bool, true, false, ◌&&◌, ◌==◌, not, nat_le, if◌then◌else◌, Option, Some, None, option_map, option_and_then, List, [], ◌∷◌, ◌++◌, map, length, slice_set, filter, ◌≡◌, refl}
use Rattle.std.specs.List.{list_any}
use Rattle.std.specs.Option.{option_map_or}
use Rattle.mps_base.specs.Address.{Address, Id, word_of}
use Rattle.mps_base.specs.Run.{Run}
use Rattle.mps_base.specs.Zones.{zones_of_runs}
use Rattle.mps_base.specs.declared.moves.Move.{Move}
use Rattle.mps_base.specs.declared.moves.Move.TheVariants as moves
use Rattle.mps_base.specs.declared.names.Rank.TheVariants as rank
use Rattle.mps_base.specs.Segment.{Segment, is_in_segment, with_segment, without_segment, words_of_segment, grains_of_segment, end_of_segment}
use Rattle.mps_model.specs.Graph.{Graph, Point, Reservation, contains, position_of_first, without_first, is_automatic, with_last, with_target_cell, graph_with_cells, ids_in_slots, dependent_in, without_named, HeadCell, NumberCell, ReferenceCell, Automatic, Object, empty_graph, targets}
use Rattle.mps_model.specs.Collection.{Collection, empty_collection, Splatting, Reclaiming}
use Rattle.mps_model.specs.World.{World, PointMemory, is_automatic_kind, pool_is, is_copying_pool, pool_at, id_at, is_live_and, object_is, live_automatic_ids, has_area_word, segment_of, with_tail, pool_of, words_of, target_generation_for, empty_run}

-- ---- what a flip condemns

pub data Condemnation : Type 0 where
  -- every segment of an automatic pool
  Everything : Condemnation
  -- the segments of the pools on a chain whose generation is at most this one
  Generations : (chain generation : ℕ) → Condemnation

-- the chain number of a flip that condemns everything
abbrev pub every_chain : ℕ
every_chain = 16

-- what a flip with these numbers condemns
abbrev pub condemnation_of : (chain generation : ℕ) → Condemnation
condemnation_of chain generation = if chain == every_chain then Everything else Generations chain generation

-- the numbers of a flip in the log
abbrev pub chain_of : Condemnation → ℕ
chain_of Everything = every_chain
chain_of (Generations chain generation) = chain

abbrev pub oldest_of : Condemnation → ℕ
oldest_of Everything = 0
oldest_of (Generations chain generation) = generation

-- whether the pool of this number is on a chain
abbrev pub is_on_chain : World → (chain pool : ℕ) → Bool
is_on_chain w chain pool = option_map_or (λ on. on == chain) (option_and_then (λ p. p.chain) (pool_at w pool)) false

abbrev pub is_condemned_by : World → Condemnation → Segment → Bool
is_condemned_by w Everything s = pool_is is_automatic_kind w s.pool
is_condemned_by w (Generations chain generation) s = is_on_chain w chain s.pool && nat_le s.generation generation

-- the segments that are condemned, in ascending order
abbrev pub condemned_by : World → Condemnation → List Segment
condemned_by w what = filter (is_condemned_by w what) w.segments

-- the zones of all grains of condemned segments whose blocks move
abbrev pub condemned_zones : World → Condemnation → ℕ
condemned_zones w what =
    zones_of_runs (map grains_of_segment (filter (λ s. is_copying_pool w s.pool) (condemned_by w what)))

-- whether a live object lies in one of these segments
abbrev pub lies_in_one : World → List Segment → (id : Id) → Bool
lies_in_one w segments id = list_any (λ s. is_live_and (is_in_segment s) w id) segments

-- the automatic objects that a flip condemns
abbrev pub condemned_ids : World → Condemnation → List ℕ
condemned_ids w what = filter (lies_in_one w (condemned_by w what)) (live_automatic_ids w)

-- ---- flip

abbrev pub doomed : Option Point → Option Point
doomed None = None
doomed (Some p) = Some (record p { reservation = option_map (λ (r : Reservation). record r { is_doomed = true }) p.reservation })

-- every open reservation of every pool is doomed
abbrev pub doomed_graph : Graph → Graph
doomed_graph g = record g { points = map doomed g.points }

-- the buffer of a point is empty
abbrev pub without_buffer : PointMemory → PointMemory
without_buffer memory = record memory { buffer = empty_run }

-- live automatic objects, registrations and segments of automatic pools: the units that a collection may take
abbrev pub units_of : World → ℕ
units_of w =
    length (live_automatic_ids w) + length w.graph.registered + length (filter (λ s. pool_is is_automatic_kind w s.pool) w.segments)

-- the objects from which what may survive is linked at a flip that condemns these: those in slots and messages, those that
-- area words pin, and the live automatic objects that aren't condemned
abbrev pub origins_at_flip : World → (condemned : List ℕ) → List ℕ
origins_at_flip w condemned =
    ids_in_slots w.graph ++ w.graph.messages ++ filter (has_area_word w) condemned
    ++ filter (λ id. not (contains condemned id)) (live_automatic_ids w)

-- the collection that a flip begins, which condemns these objects in these segments
abbrev pub collection_of : World → List Segment → (condemned : List ℕ) → Collection
collection_of w segments condemned = record (empty_collection w.graph) {
  condemned_segments = map (λ (s : Segment). s.base) segments;
  condemned = condemned;
  pinned = filter (has_area_word w) condemned;
  origins = origins_at_flip w condemned;
  registered_before = length w.graph.registered;
  units = units_of w;
}

abbrev pub collection_at_flip : World → Condemnation → Collection
collection_at_flip w what = collection_of w (condemned_by w what) (condemned_ids w what)

-- the world without reservations, buffers and tails, after a flip of these zones
abbrev pub world_flipped : World → (zones : ℕ) → World
world_flipped w zones = record w {
  graph = doomed_graph w.graph;
  point_memories = map without_buffer w.point_memories;
  tails = [];
  flips = with_last w.flips zones;
}

abbrev pub after_flip : World → (zones : ℕ) → Condemnation → World
after_flip w zones what = record (world_flipped w zones) { collection = Some (collection_at_flip (world_flipped w zones) what) }

-- ---- segments

-- the world with one more segment
abbrev pub holding : World → Segment → World
holding w s = record w { segments = with_segment s w.segments }

-- a segment is taken for a block: in a copying pool, where a collection moves blocks, it is the tail for more of them
abbrev pub after_segment : World → Segment → World
after_segment w s =
    if is_copying_pool w s.pool then with_tail (holding w s) s.pool s.generation (words_of_segment s) else holding w s

-- ---- what the running collection remembers of a move

-- the running collection changed, if one runs
abbrev pub with_collection : World → (Collection → Collection) → World
with_collection w change = record w { collection = option_map change w.collection }

-- an object was moved or made to stay
abbrev pub placing : (id : Id) → Collection → Collection
placing id c = record c { placed = id ∷ c.placed }

abbrev pub splatting : Collection → Collection
splatting c = record c { phase = Splatting }

-- something in a condemned segment was swept
abbrev pub reclaiming : (base : Address) → Collection → Collection
reclaiming base c = record c { phase = Reclaiming; reclaimed_to = base }

-- a condemned segment was given back
abbrev pub giving_back : (base : Address) → Collection → Collection
giving_back base c =
    if contains c.condemned_segments base then reclaiming base (record c { condemned_segments = without_first c.condemned_segments base })
    else c

-- an object was posted, whose registration stood at this position
abbrev pub posting : (id position : ℕ) → Collection → Collection
posting id position c = record c {
  had = id ∷ c.had;
  origins = id ∷ c.origins;
  registered_before = c.registered_before - 1;
  examined = position;
}

-- ---- blocks

-- the world after something was done with an object, if there is one
abbrev pub where_one : World → Option ℕ → ((id : Id) → World) → World
where_one w found change = option_map_or change found w

-- an object at another address, or at none
abbrev pub with_address : World → (id : Id) → (at : Option ℕ) → World
with_address w id at = record w { addresses = slice_set w.addresses id at }

-- the words of a segment from an address on
abbrev pub rest_of_segment : Segment → (address : Address) → Run
rest_of_segment s address = record { from = word_of address; count = word_of (end_of_segment s) - word_of address }

-- the words after a block of n words at an address, in its segment
abbrev pub words_after : World → (address words : ℕ) → Run
words_after w address words = option_map_or (λ s. rest_of_segment s (address + 8 * words)) (segment_of w address) empty_run

-- an object moves from one generation of its pool to the next: what is after it there is the tail
abbrev pub after_moved : World → (id to : ℕ) → World
after_moved w id to =
    with_tail (with_collection (with_address w id (Some to)) (placing id)) (pool_of w id) (target_generation_for w id)
    (words_after w to (words_of w id))

-- the reference in a cell of an object becomes null and keeps its tag; a number stays
abbrev pub graph_nulled : Graph → (id cell : ℕ) → Graph
graph_nulled g id cell = graph_with_cells g id (λ cells. with_target_cell cells cell None)

-- the objects, where the reference in a cell of an object is null, and that of its dependent, if it has one
abbrev pub objects_splatted : Graph → (holder cell : ℕ) → List Object
objects_splatted g holder cell =
    option_map_or (λ dependent. (graph_nulled (graph_nulled g holder cell) dependent cell).objects) (dependent_in g.dependents holder)
    (graph_nulled g holder cell).objects

abbrev pub graph_splatted : Graph → (holder cell : ℕ) → Graph
graph_splatted g holder cell = record g { objects = objects_splatted g holder cell }

-- the weak reference in a cell becomes null, and so does the reference in the same cell of its holder's dependent
abbrev pub after_splat : World → (holder cell : ℕ) → World
after_splat w holder cell = with_collection (record w { graph = graph_splatted w.graph holder cell }) splatting

-- where the first registration of an object stands
abbrev pub registration_of : Graph → (id : Id) → ℕ
registration_of g id = option_map_or (λ position. position) (position_of_first g.registered id) 0

-- the first registration of an object becomes the last message
abbrev pub graph_posted : Graph → (id : Id) → Graph
graph_posted g id = record g { registered = without_first g.registered id; messages = with_last g.messages id }

abbrev pub after_post : World → (id : Id) → World
after_post w id = with_collection (record w { graph = graph_posted w.graph id }) (posting id (registration_of w.graph id))

-- the base of the segment in which an address lies
abbrev pub segment_base_of : World → (address : Address) → Address
segment_base_of w address = option_map_or (λ (s : Segment). s.base) (segment_of w address) 0

-- an object lies nowhere any more, and no pair of dependents names it
abbrev pub without_object : World → (id : Id) → World
without_object w id =
    with_address (record w { graph = record w.graph { dependents = without_named w.graph.dependents id } }) id None

-- a block is freed. Freeing an automatic block is the collector's work
abbrev pub after_free : World → (id at : ℕ) → World
after_free w id at =
    if object_is is_automatic w id then with_collection (without_object w id) (reclaiming (segment_base_of w at))
    else without_object w id

-- a segment that a move takes; its rank is exact
abbrev pub segment_of_move : (base grains pool generation : ℕ) → Segment
segment_of_move base grains pool generation =
    record { base = base; grains = grains; pool = pool; generation = generation; rank = rank.Exact }

-- the world without a segment
abbrev pub after_unseg : World → (base : Address) → World
after_unseg w base = with_collection (record w { segments = without_segment w.segments base }) (giving_back base)

-- the world after a move. The object of a Commit or an Alloc is made, with its address, by the call itself
abbrev pub world_after_move : World → Move → World
world_after_move w (moves.Seg base grains pool generation) = after_segment w (segment_of_move base.0 grains pool generation)
world_after_move w (moves.Unseg base) = after_unseg w base.0
world_after_move w (moves.Flip zones chain generation) = after_flip w zones.0 (condemnation_of chain generation)
world_after_move w moves.End = record w { collection = None }
world_after_move w (moves.Moved from to) = where_one w (id_at w from.0) (λ id. after_moved w id to.0)
world_after_move w (moves.Stay at) = where_one w (id_at w at.0) (λ id. with_collection w (placing id))
world_after_move w (moves.Splat holder cell) = where_one w (id_at w holder.0) (λ id. after_splat w id cell)
world_after_move w (moves.Post at) = where_one w (id_at w at.0) (after_post w)
world_after_move w (moves.Commit at words pool) = w
world_after_move w (moves.Alloc at words pool) = w
world_after_move w (moves.Free at) = where_one w (id_at w at.0) (λ id. after_free w id at.0)

-- the world after some moves, one after the other
abbrev pub world_after_moves : World → List Move → World
world_after_moves w [] = w
world_after_moves w (m ∷ ms) = world_after_moves (world_after_move w m) ms

-- ---- vectors

-- two objects of a reference with a tag and a number; the second is the dependent of the first
abbrev two_cells : (target : Option ℕ) (tag : ℕ) → Object
two_cells target tag =
    record { pool = 0; body = Automatic 0x100000301 (HeadCell ∷ ReferenceCell target tag ∷ NumberCell 7 ∷ []) false }

abbrev linked : (first second : Option ℕ) → (dependents : List (Id × Id)) → Graph
linked first second dependents = record empty_graph {
  objects = two_cells first 3 ∷ two_cells second 5 ∷ [];
  dependents = dependents;
}

pub a_splat_clears_the_dependent_too : graph_splatted (linked (Some 0) (Some 1) ((0, 1) ∷ [])) 0 1 ≡ linked None None ((0, 1) ∷ [])
a_splat_clears_the_dependent_too = refl

pub a_number_of_the_dependent_stays : graph_splatted (linked (Some 0) (Some 1) ((0, 1) ∷ [])) 0 2 ≡ linked (Some 0) (Some 1) ((0, 1) ∷ [])
a_number_of_the_dependent_stays = refl

pub no_object_is_cleared_with_its_dependent :
    graph_splatted (linked (Some 0) (Some 1) ((0, 1) ∷ [])) 1 1 ≡ linked (Some 0) None ((0, 1) ∷ [])
no_object_is_cleared_with_its_dependent = refl

pub no_value_is_left : targets (graph_splatted (linked (Some 0) (Some 1) ((0, 1) ∷ [])) 0 1) 1 ≡ 1 ∷ [] → ⊥
no_value_is_left e = absurd cc

pub no_pair_outlives_its_objects : without_named ((0, 1) ∷ (2, 0) ∷ (2, 1) ∷ []) 0 ≡ (2, 1) ∷ []
no_pair_outlives_its_objects = refl
