-- A collection that is asked for one unit at a time: each unit reclaims one segment, the lower one first.
use Rattle.std.specs.Prelude.{ℕ, false, Option, Some, None, List, [], ◌∷◌, ◌++◌}
use Rattle.mps_base.specs.declared.moves.Move.{Move}
use Rattle.mps_base.specs.declared.moves.Move.TheVariants as moves
use Rattle.mps_base.specs.declared.names.Kind.TheVariants as kind
use Rattle.mps_base.specs.declared.names.Rank.TheVariants as rank
use Rattle.mps_model.specs.declared.call.Call.TheVariants as call
use Rattle.mps_model.specs.declared.reply.Reply.{Reply}
use Rattle.mps_model.specs.declared.reply.Reply.TheVariants as reply
use Rattle.mps_model.specs.Step.{Step, History}
use Rattle.mps_model.specs.Graph.{Graph, Object, HeadCell, NumberCell, Automatic, TableThing, PoolThing, PointThing}
use Rattle.mps_model.specs.Collection.{Collection, Phase}
use Rattle.mps_base.specs.Segment.{Segment}
use Rattle.mps_model.specs.World.{World, Collected, Unclamped, empty_run, empty_world}
use Rattle.mps_model.specs.History.{IsLegalHistory}
use Rattle.mps_model_examples.specs.Script.{p, q, t, x, y, at_index, address, zones, step}

-- two blocks of marking pools, in a segment each, that nothing holds, and a collection that was begun
abbrev pub two_to_reclaim : History
two_to_reclaim =
    step 1 (call.Arena 8 8) [] reply.Ok
    ∷ step 2 (call.Table t 1) [] reply.Ok
    ∷ step 3 (call.Pool p kind.Ams 1) [] reply.Ok
    ∷ step 4 (call.Pool q kind.Ams 1) [] reply.Ok
    ∷ step 5 (call.Point x p rank.Exact) [] reply.Ok
    ∷ step 6 (call.Point y q rank.Exact) [] reply.Ok
    ∷ step 7 (call.Reserve x 0x201) (moves.Seg (address 0x1000) 1 0 0 ∷ []) reply.Ok
    ∷ step 8 (call.Commit x (at_index t 0)) (moves.Commit (address 0x1000) 2 0 ∷ []) reply.Ok
    ∷ step 9 (call.Reserve y 0x201) (moves.Seg (address 0x2000) 1 1 0 ∷ []) reply.Ok
    ∷ step 10 (call.Commit y (at_index t 0)) (moves.Commit (address 0x2000) 2 1 ∷ []) reply.Ok
    ∷ step 11 (call.Clear (at_index t 0)) [] reply.Ok
    ∷ step 12 call.Start (moves.Flip (zones 0) 16 0 ∷ []) reply.Ok
    ∷ []

-- one unit is asked
abbrev pub one_unit : (line : ℕ) → List Move → Reply → Step
one_unit line made said = step line (call.Step 1) made said

-- the lower segment is reclaimed, and nothing happens while the arena is clamped
abbrev pub lower_first : History
lower_first =
    one_unit 13 (moves.Free (address 0x1000) ∷ moves.Unseg (address 0x1000) ∷ []) reply.More
    ∷ step 14 call.Clamp [] reply.Ok
    ∷ one_unit 15 [] reply.More
    ∷ step 16 call.Release [] reply.Ok
    ∷ []

-- the upper one is reclaimed, and the collection ends
abbrev pub upper_last : History
upper_last =
    one_unit 17 (moves.Free (address 0x2000) ∷ moves.Unseg (address 0x2000) ∷ moves.End ∷ []) reply.Idle
    ∷ step 18 call.Live [] (reply.Pair 0 0)
    ∷ []

abbrev pub reclaiming : History
reclaiming = two_to_reclaim ++ (lower_first ++ upper_last)

-- the graph of the two blocks
abbrev pub dropped : (pool : ℕ) → Object
dropped pool = record { pool = pool; body = Automatic 0x201 (HeadCell ∷ NumberCell 0 ∷ []) false }

abbrev pub dropped_graph : Graph
dropped_graph = record {
  objects = dropped 0 ∷ dropped 1 ∷ [];
  tables = Some (None ∷ []) ∷ [];
  areas = [];
  blocks = [];
  points =
      Some (record { pool = 0; rank = rank.Exact; reservation = None })
      ∷ Some (record { pool = 1; rank = rank.Exact; reservation = None })
      ∷ [];
  registered = [];
  messages = [];
  labels = [];
  dependents = [];
  transforms = [];
  caches = [];
  frames = [];
  names =
      record { name = t; thing = TableThing 0 }
      ∷ record { name = p; thing = PoolThing 0 }
      ∷ record { name = q; thing = PoolThing 1 }
      ∷ record { name = x; thing = PointThing 0 }
      ∷ record { name = y; thing = PointThing 1 }
      ∷ [];
}

-- the world of the two blocks, with the segments held, the first block's place, and the running collection
abbrev pub dropped_world : List Segment → (first : Option ℕ) → Collection → World
dropped_world segments first collection = record {
  graph = dropped_graph;
  grains = 8;
  limit = 8;
  formats = empty_world.formats;
  pools = record { kind = Collected kind.Ams; format = 1; chain = None } ∷ record { kind = Collected kind.Ams; format = 1; chain = None }
      ∷ [];
  chains = [];
  segments = segments;
  addresses = first ∷ Some 0x2000 ∷ [];
  point_memories = record { reserved_at = 0x1000; buffer = empty_run } ∷ record { reserved_at = 0x2000; buffer = empty_run } ∷ [];
  tails = [];
  state = Unclamped;
  flips = 0 ∷ [];
  dependencies = [];
  collection = Some collection;
}

-- the collection, with what is left to reclaim, how far it is, and the units asked of it
abbrev pub collection_of_dropped : (segments : List ℕ) → Phase → (reclaimed_to spent : ℕ) → Collection
collection_of_dropped segments phase reclaimed_to spent = record {
  condemned_segments = segments;
  condemned = 0 ∷ 1 ∷ [];
  pinned = [];
  placed = [];
  had = [];
  graph_at_flip = dropped_graph;
  origins = [];
  registered_before = 0;
  examined = 0;
  phase = phase;
  reclaimed_to = reclaimed_to;
  units = 4;
  spent = spent;
}

-- the history is legal
abbrev pub ReclaimingIsLegal : Type 0
ReclaimingIsLegal = IsLegalHistory reclaiming
