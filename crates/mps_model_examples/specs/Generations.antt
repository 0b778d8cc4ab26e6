-- A chain of two generations: what survives goes to the next one, and a flip condemns the generations that it names.
use Rattle.std.specs.Prelude.{ℕ, false, Option, Some, None, List, [], ◌∷◌, ◌++◌, replicate}
use Rattle.mps_base.specs.Run.{Run}
use Rattle.mps_base.specs.declared.moves.Move.{Move}
use Rattle.mps_base.specs.declared.moves.Move.TheVariants as moves
use Rattle.mps_base.specs.declared.names.Kind.TheVariants as kind
use Rattle.mps_base.specs.declared.names.Rank.TheVariants as rank
use Rattle.mps_base.specs.declared.refusal.Refusal.TheVariants as refusal
use Rattle.mps_model.specs.declared.call.Call.TheVariants as call
use Rattle.mps_model.specs.declared.reply.Reply.TheVariants as reply
use Rattle.mps_model.specs.Step.{History}
use Rattle.mps_model.specs.Graph.{Graph, HeadCell, NumberCell, Automatic, ChainThing, TableThing, PoolThing, PointThing}
use Rattle.mps_model.specs.Collection.{Collection, Tracing}
use Rattle.mps_base.specs.Segment.{Segment}
use Rattle.mps_model.specs.World.{World, Tail, ArenaState, Collected, empty_world}
use Rattle.mps_model.specs.History.{IsLegalHistory}
use Rattle.mps_model_examples.specs.Script.{p, q, t, x, at_index, address, zones, step, words}

-- a block in the first generation of a chain
abbrev pub in_generation_zero : History
in_generation_zero =
    step 1 (call.Arena 8 8) [] reply.Ok
    ∷ step 2 (call.Chain q 2 (1 ∷ 1 ∷ replicate 6 0)) [] reply.Ok
    ∷ step 3 (call.PoolOnChain p kind.Amc 3 q) [] reply.Ok
    ∷ step 4 (call.Table t 1) [] reply.Ok
    ∷ step 5 (call.Point x p rank.Exact) [] reply.Ok
    ∷ step 6 (call.Reserve x 0x203) (moves.Seg (address 0x1000) 1 0 0 ∷ []) reply.Ok
    ∷ step 7 (call.Commit x (at_index t 0)) (moves.Commit (address 0x1000) 2 0 ∷ []) reply.Ok
    ∷ []

-- its collection moves it to the second one, and is ended by `park`
abbrev pub first_collected : History
first_collected =
    step 8 (call.StartChain q 0) (moves.Flip (zones 2) 0 0 ∷ moves.Seg (address 0x2000) 1 0 1
    ∷ moves.Moved (address 0x1000) (address 0x2000) ∷ []) reply.Ok
    ∷ step 9 call.Start [] (reply.Refused refusal.Running)
    ∷ step 10 call.Park (moves.Unseg (address 0x1000) ∷ moves.End ∷ []) reply.Ok
    ∷ []

-- another flip of the first generation finds nothing, and one of both moves the block within the last
abbrev pub second_begun : History
second_begun =
    step 11 (call.StartChain q 0) (moves.Flip (zones 0) 0 0 ∷ moves.End ∷ []) reply.Ok
    ∷ step 12 (call.StartChain q 2) [] (reply.Refused refusal.BadIndex)
    ∷ step 13 (call.StartChain q 1) (moves.Flip (zones 4) 0 1 ∷ moves.Seg (address 0x1000) 1 0 1
    ∷ moves.Moved (address 0x2000) (address 0x1000) ∷ []) reply.Ok
    ∷ []

-- `collect` ends the running collection, and then does a whole one
abbrev pub third_after_second : List Move
third_after_second =
    moves.Unseg (address 0x2000)
    ∷ moves.End
    ∷ moves.Flip (zones 2) 16 0
    ∷ moves.Seg (address 0x2000) 1 0 1
    ∷ moves.Moved (address 0x1000) (address 0x2000)
    ∷ moves.Unseg (address 0x1000)
    ∷ moves.End
    ∷ []

abbrev pub third_collected : History
third_collected =
    step 14 call.Collect third_after_second reply.Ok
    ∷ step 15 (call.Address (at_index t 0)) [] (reply.Word 0x2000)
    ∷ []

abbrev pub generations : History
generations = in_generation_zero ++ (first_collected ++ (second_begun ++ third_collected))

-- a segment of the chain's pool
abbrev pub segment_of : (base generation : ℕ) → Segment
segment_of base generation = record { base = base; grains = 1; pool = 0; generation = generation; rank = rank.Exact }

abbrev pub generations_graph : Graph
generations_graph = record {
  objects = record { pool = 0; body = Automatic 0x203 (HeadCell ∷ NumberCell 0 ∷ []) false } ∷ [];
  tables = Some (Some 0 ∷ []) ∷ [];
  areas = [];
  blocks = [];
  points = Some (record { pool = 0; rank = rank.Exact; reservation = None }) ∷ [];
  registered = [];
  messages = [];
  labels = [];
  dependents = [];
  transforms = [];
  caches = [];
  frames = [];
  names =
      record { name = q; thing = ChainThing 0 }
      ∷ record { name = p; thing = PoolThing 0 }
      ∷ record { name = t; thing = TableThing 0 }
      ∷ record { name = x; thing = PointThing 0 }
      ∷ [];
}

-- the world of the block, with its place, buffers and tails, what flips left, and the running collection
abbrev pub generations_world : List Segment → (place : ℕ) → (buffer : Run) → List Tail → ArenaState → (flips : List ℕ) → Option Collection
    → World
generations_world segments place buffer tails state flips collection = record {
  graph = generations_graph;
  grains = 8;
  limit = 8;
  formats = empty_world.formats;
  pools = record { kind = Collected kind.Amc; format = 3; chain = Some 0 } ∷ [];
  chains = (1 ∷ 1 ∷ []) ∷ [];
  segments = segments;
  addresses = Some place ∷ [];
  point_memories = record { reserved_at = 0x1000; buffer = buffer } ∷ [];
  tails = tails;
  state = state;
  flips = flips;
  dependencies = [];
  collection = collection;
}

-- a tail of n words for blocks that move to the last generation
abbrev pub tail_of_last : (from : ℕ) → List Tail
tail_of_last from = record { pool = 0; generation = 1; words = words from 510 } ∷ []

-- the collection of both generations, after its flip
abbrev pub collection_of_both : Collection
collection_of_both = record {
  condemned_segments = 0x2000 ∷ [];
  condemned = 0 ∷ [];
  pinned = [];
  placed = 0 ∷ [];
  had = 0 ∷ [];
  graph_at_flip = generations_graph;
  origins = 0 ∷ [];
  registered_before = 0;
  examined = 0;
  phase = Tracing;
  reclaimed_to = 0;
  units = 2;
  spent = 0;
}

-- the history is legal
abbrev pub GenerationsIsLegal : Type 0
GenerationsIsLegal = IsLegalHistory generations
