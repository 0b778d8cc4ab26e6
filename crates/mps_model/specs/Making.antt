-- The commands that make and drop things. Each checks in its order, and makes the thing last of its kind.
use Rattle.std.specs.Prelude.{ℕ, ◌+◌, Bool, true, false, not, ◌||◌, ◌&&◌, nat_lt, nat_le, Option, Some, None, is_some, List, [], length, take, replicate, slice_set, count_by, sum_by}
use Rattle.mps_base.specs.declared.names.Name.{Name}
use Rattle.mps_base.specs.declared.names.Kind.{Kind}
use Rattle.mps_base.specs.declared.names.Rank.{Rank}
use Rattle.mps_base.specs.declared.names.Rank.TheVariants as rank
use Rattle.mps_base.specs.declared.refusal.Refusal.TheVariants as refusal
use Rattle.mps_model.specs.declared.reply.Reply.TheVariants as reply
use Rattle.mps_model.specs.Graph.{Graph, PoolFrames, PlainWord, Thing, ChainThing, PoolThing, TableThing, AreaThing, BlocksThing, PointThing, is_taken, with_last, without_name, thing_named}
use Rattle.mps_model.specs.World.{World, Pool, PoolKind, Collected, OneSize, AnySize, Frames, is_automatic_kind, is_weak_kind, committed, empty_run}
use Rattle.mps_model.specs.Checked.{Act, Checked, ◌>>=◌, ◌>>◌, required, refuse_when, says, done, chain_named, pool_named, point_named, named, with_graph}

-- ---- limits on what is live at once

-- n roots: tables, areas and tables of blocks
abbrev pub most_roots : ℕ
most_roots = 256

-- n slots, words and places of all roots together
abbrev pub most_slots : ℕ
most_slots = 65536

abbrev pub most_pools : ℕ
most_pools = 64

abbrev pub most_points : ℕ
most_points = 256

abbrev pub most_chains : ℕ
most_chains = 16

abbrev pub most_dependencies : ℕ
most_dependencies = 256

abbrev pub most_labels : ℕ
most_labels = 256

abbrev pub most_caches : ℕ
most_caches = 16

-- n open frames of all pools together
abbrev pub most_frames : ℕ
most_frames = 4096

-- how many tables, areas and tables of blocks are live
abbrev pub live_roots : Graph → ℕ
live_roots g = count_by is_some g.tables + count_by is_some g.areas + length g.blocks

abbrev pub length_of : {A : Type 0} → Option (List A) → ℕ
length_of None = 0
length_of (Some xs) = length xs

-- how many slots, words and places the live roots have together
abbrev pub live_slots : Graph → ℕ
live_slots g = sum_by length_of g.tables + sum_by length_of g.areas + sum_by length g.blocks

abbrev pub live_points : Graph → ℕ
live_points g = count_by is_some g.points

-- refused if this number is at its limit
abbrev pub refuse_at_limit : (number limit : ℕ) → Checked (Unit {0})
refuse_at_limit number limit = refuse_when (nat_le limit number) (refusal.TooMany limit)

-- refused if the name is taken
abbrev pub refuse_taken : World → Name → Checked (Unit {0})
refuse_taken w name = refuse_when (is_taken w.graph name) refusal.NameTaken

-- refused if one more root of n slots passes a limit
abbrev pub refuse_root : World → (slots : ℕ) → Checked (Unit {0})
refuse_root w slots = do
  refuse_at_limit (live_roots w.graph) most_roots
  refuse_when (nat_lt most_slots (live_slots w.graph + slots)) (refusal.TooMany most_slots)

-- ---- the arena

-- makes the arena
abbrev pub act_arena : World → (grains limit : ℕ) → Checked Act
act_arena w grains limit = done (record w { grains = grains; limit = limit })

-- sets the commit limit
abbrev pub act_limit : World → (limit : ℕ) → Checked Act
act_limit w limit = do
  refuse_when (nat_lt limit (committed w)) refusal.BelowCommitted
  done (record w { limit = limit })

-- the grains held
abbrev pub act_committed : World → Checked Act
act_committed w = says (reply.Number (committed w)) w

-- ---- chains and pools

abbrev pub act_chain : World → Name → (count : ℕ) → (capacities : List ℕ) → Checked Act
act_chain w name count capacities = do
  refuse_taken w name
  refuse_at_limit (length w.chains) most_chains
  done (record w {
    graph = named w.graph name (ChainThing (length w.chains));
    chains = with_last w.chains (take count capacities);
  })

-- what the pools of frames have, where one more pool is made: none of its frames is open
abbrev pub frames_with : List PoolFrames → PoolKind → (pool : ℕ) → List PoolFrames
frames_with fs Frames pool = with_last fs (record { pool = pool; blocks = []; opened = [] })
frames_with fs _ pool = fs

-- the world with one more pool
abbrev pub with_pool : World → Name → Pool → World
with_pool w name p = record w {
  graph = record (named w.graph name (PoolThing (length w.pools))) { frames = frames_with w.graph.frames p.kind (length w.pools) };
  pools = with_last w.pools p;
}

-- makes a pool, if the limit allows it
abbrev pub make_pool : World → Name → Pool → Checked Act
make_pool w name p = do
  refuse_at_limit (length w.pools) most_pools
  done (with_pool w name p)

abbrev pub act_pool : World → Name → Kind → (format : ℕ) → Checked Act
act_pool w name kind format = do
  refuse_taken w name
  make_pool w name (record { kind = Collected kind; format = format; chain = None })

abbrev pub act_pool_on_chain : World → Name → Kind → (format : ℕ) → (chain : Name) → Checked Act
act_pool_on_chain w name kind format chain = do
  refuse_taken w name
  on ← chain_named w chain
  make_pool w name (record { kind = Collected kind; format = format; chain = Some on.number })

-- whether a manual block may have n words
abbrev pub is_block_size : ℕ → Bool
is_block_size words = nat_le 1 words && nat_le words 65536

abbrev pub act_pool_mfs : World → Name → (words : ℕ) → Checked Act
act_pool_mfs w name words = do
  refuse_taken w name
  refuse_when (not (is_block_size words)) refusal.BadSize
  make_pool w name (record { kind = OneSize words; format = 0; chain = None })

abbrev pub act_pool_mvff : World → Name → Checked Act
act_pool_mvff w name = do
  refuse_taken w name
  make_pool w name (record { kind = AnySize; format = 0; chain = None })

abbrev pub act_pool_frames : World → Name → Checked Act
act_pool_frames w name = do
  refuse_taken w name
  make_pool w name (record { kind = Frames; format = 0; chain = None })

-- ---- roots

-- the graph with one more table, of null slots
abbrev pub graph_with_table : Graph → Name → (slots : ℕ) → Graph
graph_with_table g name slots =
    record (named g name (TableThing (length g.tables))) { tables = with_last g.tables (Some (replicate slots None)) }

abbrev pub act_table : World → Name → (slots : ℕ) → Checked Act
act_table w name slots = do
  refuse_taken w name
  refuse_root w slots
  done (with_graph w (graph_with_table w.graph name slots))

-- the graph with one more area, of zeros
abbrev pub graph_with_area : Graph → Name → (words : ℕ) → Graph
graph_with_area g name words =
    record (named g name (AreaThing (length g.areas))) { areas = with_last g.areas (Some (replicate words (PlainWord 0))) }

abbrev pub act_area : World → Name → (words : ℕ) → Checked Act
act_area w name words = do
  refuse_taken w name
  refuse_root w words
  done (with_graph w (graph_with_area w.graph name words))

-- the graph with one more table of blocks, of empty places
abbrev pub graph_with_blocks : Graph → Name → (addresses : ℕ) → Graph
graph_with_blocks g name addresses =
    record (named g name (BlocksThing (length g.blocks))) { blocks = with_last g.blocks (replicate addresses None) }

abbrev pub act_blocks : World → Name → (addresses : ℕ) → Checked Act
act_blocks w name addresses = do
  refuse_taken w name
  refuse_root w addresses
  done (with_graph w (graph_with_blocks w.graph name addresses))

-- drops a table or an area; its name is free again
abbrev pub graph_without_root : Graph → Name → Option Thing → Option Graph
graph_without_root g name (Some (TableThing number)) =
    Some (record g { tables = slice_set g.tables number None; names = without_name g.names name })
graph_without_root g name (Some (AreaThing number)) =
    Some (record g { areas = slice_set g.areas number None; names = without_name g.names name })
graph_without_root g name _ = None

abbrev pub act_drop_root : World → Name → Checked Act
act_drop_root w name = do
  dropped ← required (graph_without_root w.graph name (thing_named w.graph name)) refusal.BadName
  done (with_graph w dropped)

-- ---- points

abbrev pub is_weak_rank : Rank → Bool
is_weak_rank rank.Weak = true
is_weak_rank rank.Exact = false

-- whether a pool of this kind may have a point of this rank
abbrev pub may_have_point : PoolKind → Rank → Bool
may_have_point kind at_rank = is_automatic_kind kind && (not (is_weak_rank at_rank) || is_weak_kind kind)

-- the world with one more point of a pool, without reservation and with an empty buffer
abbrev pub with_point : World → Name → (pool : ℕ) → Rank → World
with_point w name pool at_rank = record w {
  graph = record (named w.graph name (PointThing (length w.graph.points))) {
    points = with_last w.graph.points (Some (record { pool = pool; rank = at_rank; reservation = None }));
  };
  point_memories = with_last w.point_memories (record { reserved_at = 0; buffer = empty_run });
}

abbrev pub act_point : World → Name → (pool : Name) → Rank → Checked Act
act_point w name pool at_rank = do
  refuse_taken w name
  of ← pool_named w pool
  refuse_when (not (may_have_point of.value.kind at_rank)) refusal.WrongPool
  refuse_at_limit (live_points w.graph) most_points
  done (with_point w name of.number at_rank)

-- drops a point; the free words of its buffer aren't used again
abbrev pub without_point : World → Name → (number : ℕ) → World
without_point w name number = record w {
  graph = record w.graph { points = slice_set w.graph.points number None; names = without_name w.graph.names name };
  point_memories = slice_set w.point_memories number (record { reserved_at = 0; buffer = empty_run });
}

abbrev pub act_drop_point : World → Name → Checked Act
act_drop_point w name = do
  point ← point_named w name
  refuse_when (is_some point.value.reservation) refusal.Open
  done (without_point w name point.number)
