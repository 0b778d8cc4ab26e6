-- When a `reserve` polls: not in a clamped arena, with a flip if a generation is due, and with units if a collection
-- runs.
use Rattle.std.specs.Prelude.{ℕ, false, Option, Some, None, List, [], ◌∷◌, ◌++◌, replicate}
use Rattle.mps_base.specs.declared.moves.Move.{Move}
use Rattle.mps_base.specs.declared.moves.Move.TheVariants as moves
use Rattle.mps_base.specs.declared.names.Kind.TheVariants as kind
use Rattle.mps_base.specs.declared.names.Rank.TheVariants as rank
use Rattle.mps_model.specs.declared.call.Call.TheVariants as call
use Rattle.mps_model.specs.declared.reply.Reply.TheVariants as reply
use Rattle.mps_model.specs.Step.{Step, History}
use Rattle.mps_model.specs.Graph.{Graph, Object, Cell, Reservation, HeadCell, NumberCell, Automatic, ChainThing, TableThing, PoolThing, PointThing}
use Rattle.mps_model.specs.Collection.{Collection, Tracing}
use Rattle.mps_base.specs.Segment.{Segment}
use Rattle.mps_model.specs.World.{World, Tail, Collected, PointMemory, ArenaState, empty_world}
use Rattle.mps_model.specs.History.{IsLegalHistory}
use Rattle.mps_model_examples.specs.Script.{p, q, t, x, at_index, address, zones, step}

-- a generation holds more than its capacity, and the arena is clamped
abbrev pub clamped : History
clamped =
    step 1 (call.Arena 8 8) [] reply.Ok
    ∷ step 2 (call.Chain q 1 (1 ∷ replicate 7 0)) [] reply.Ok
    ∷ step 3 (call.PoolOnChain p kind.Amc 3 q) [] reply.Ok
    ∷ step 4 (call.Table t 1) [] reply.Ok
    ∷ step 5 (call.Point x p rank.Exact) [] reply.Ok
    ∷ step 6 (call.Reserve x 0x40003) (moves.Seg (address 0x1000) 2 0 0 ∷ []) reply.Ok
    ∷ step 7 (call.Commit x (at_index t 0)) (moves.Commit (address 0x1000) 1024 0 ∷ []) reply.Ok
    ∷ step 8 call.Clamp [] reply.Ok
    ∷ []

-- a `reserve` for which there is no place in what is held, with these moves
abbrev pub clamped_reserve : List Move → Step
clamped_reserve made = step 9 (call.Reserve x 0x203) made reply.Ok

-- it takes a segment and polls nothing
abbrev pub released : History
released =
    clamped_reserve (moves.Seg (address 0x3000) 1 0 0 ∷ [])
    ∷ step 10 (call.Commit x (at_index t 0)) (moves.Commit (address 0x3000) 2 0 ∷ []) reply.Ok
    ∷ step 11 call.Release [] reply.Ok
    ∷ []

-- a `reserve` polls the flip of the generation that is due, and then takes its own segment
abbrev pub flip_polled : Step
flip_polled =
    step 12 (call.Reserve x 0x20003)
    (moves.Flip (zones 14) 0 0
    ∷ moves.Seg (address 0x4000) 1 0 0
    ∷ moves.Moved (address 0x3000) (address 0x4000)
    ∷ moves.Seg (address 0x5000) 1 0 0
    ∷ []) reply.Ok

abbrev pub grain_committed : Step
grain_committed = step 13 (call.Commit x (at_index t 0)) (moves.Commit (address 0x5000) 512 0 ∷ []) reply.Ok

-- the next one polls units: they end the collection, and the lowest grain is free again for its segment
abbrev pub units_polled : History
units_polled =
    step 14 (call.Reserve x 0x203)
    (moves.Free (address 0x1000)
    ∷ moves.Unseg (address 0x1000)
    ∷ moves.Unseg (address 0x3000)
    ∷ moves.End
    ∷ moves.Seg (address 0x1000) 1 0 0
    ∷ []) reply.Ok
    ∷ step 15 call.Committed [] (reply.Number 3)
    ∷ []

abbrev pub polled : History
polled = clamped ++ (released ++ (flip_polled ∷ grain_committed ∷ units_polled))

-- the cells of a block that fills a grain
abbrev pub grain_of_cells : List Cell
grain_of_cells = HeadCell ∷ replicate 511 (NumberCell 0)

-- a block that fills two grains, one that fills a grain, and one of two words
abbrev pub large_block : Object
large_block = record { pool = 0; body = Automatic 0x40003 (HeadCell ∷ replicate 1023 (NumberCell 0)) false }

abbrev pub grain_block : Object
grain_block = record { pool = 0; body = Automatic 0x20003 grain_of_cells false }

abbrev pub small_block : Object
small_block = record { pool = 0; body = Automatic 0x203 (HeadCell ∷ NumberCell 0 ∷ []) false }

-- the graph of these blocks, with what the slot holds and the point has open
abbrev pub polled_graph : List Object → (held : ℕ) → Option Reservation → Graph
polled_graph objects held reservation = record {
  objects = objects;
  tables = Some (Some held ∷ []) ∷ [];
  areas = [];
  blocks = [];
  points = Some (record { pool = 0; rank = rank.Exact; reservation = reservation }) ∷ [];
  registered = [];
  messages = [];
  labels = [];
  dependents = [];
  transforms = [];
  caches = [];
  frames = [];
  names =
      record { name = q; thing = ChainThing 0 }
      ∷ record { name = p; thing = PoolThing 0 }
      ∷ record { name = t; thing = TableThing 0 }
      ∷ record { name = x; thing = PointThing 0 }
      ∷ [];
}

-- the world of a graph, with where its blocks lie, buffers and tails, and what flips left
abbrev pub polled_world : Graph → List Segment → (addresses : List (Option ℕ)) → PointMemory → List Tail → ArenaState → (flips : List ℕ)
    → Option Collection → World
polled_world graph segments addresses at_point tails state flips collection = record {
  graph = graph;
  grains = 8;
  limit = 8;
  formats = empty_world.formats;
  pools = record { kind = Collected kind.Amc; format = 3; chain = Some 0 } ∷ [];
  chains = (1 ∷ []) ∷ [];
  segments = segments;
  addresses = addresses;
  point_memories = at_point ∷ [];
  tails = tails;
  state = state;
  flips = flips;
  dependencies = [];
  collection = collection;
}

-- the segment of the two grains
abbrev pub large_segment : Segment
large_segment = record { base = 0x1000; grains = 2; pool = 0; generation = 0; rank = rank.Exact }

-- the collection that the poll began, where the client held these since
abbrev pub polled_collection : (had : List ℕ) → Collection
polled_collection had = record {
  condemned_segments = 0x1000 ∷ 0x3000 ∷ [];
  condemned = 0 ∷ 1 ∷ [];
  pinned = [];
  placed = 1 ∷ [];
  had = had;
  graph_at_flip = polled_graph (large_block ∷ small_block ∷ []) 1 None;
  origins = 1 ∷ [];
  registered_before = 0;
  examined = 0;
  phase = Tracing;
  reclaimed_to = 0;
  units = 4;
  spent = 0;
}

-- the history is legal
abbrev pub PolledIsLegal : Type 0
PolledIsLegal = IsLegalHistory polled
