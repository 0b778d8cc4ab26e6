-- A weak reference that is read while a collection runs, and nothing else leads to its target: the read barrier may move the
-- target, or splat the reference.
use Rattle.std.specs.Prelude.{ℕ, true, false, Option, Some, None, List, [], ◌∷◌, ◌++◌}
use Rattle.mps_base.specs.declared.moves.Move.{Move}
use Rattle.mps_base.specs.declared.moves.Move.TheVariants as moves
use Rattle.mps_base.specs.declared.names.Kind.TheVariants as kind
use Rattle.mps_base.specs.declared.names.Rank.TheVariants as rank
use Rattle.mps_model.specs.declared.call.Call.TheVariants as call
use Rattle.mps_model.specs.declared.reply.Reply.TheVariants as reply
use Rattle.mps_model.specs.Step.{Step, History}
use Rattle.mps_model.specs.Graph.{Graph, HeadCell, NumberCell, ReferenceCell, Automatic, TableThing, PoolThing, PointThing}
use Rattle.mps_model.specs.Collection.{Phase}
use Rattle.mps_base.specs.Segment.{Segment}
use Rattle.mps_model.specs.World.{World, Tail, Collected, Unclamped, empty_run, empty_world}
use Rattle.mps_model.specs.History.{IsLegalHistory}
use Rattle.mps_model_examples.specs.Script.{t, p, w, x, y, at_index, address, zones, step}
use Rattle.mps_model_examples.specs.OneBlock.{prelude}

-- a weak object in slot 1 refers to a block of a copying pool that nothing else holds, and a collection was begun
abbrev pub weakly_held : History
weakly_held =
    prelude
    ++ step 5 (call.Pool w kind.Awl 1) [] reply.Ok
    ∷ step 6 (call.Point y w rank.Weak) [] reply.Ok
    ∷ step 7 (call.Reserve x 0x201) (moves.Seg (address 0x1000) 1 0 0 ∷ []) reply.Ok
    ∷ step 8 (call.Commit x (at_index t 0)) (moves.Commit (address 0x1000) 2 0 ∷ []) reply.Ok
    ∷ step 9 (call.Reserve y 0x100000201) (moves.Seg (address 0x2000) 1 1 0 ∷ []) reply.Ok
    ∷ step 10 (call.InitReference y 1 (at_index t 0)) [] reply.Ok
    ∷ step 11 (call.Commit y (at_index t 1)) (moves.Commit (address 0x2000) 2 1 ∷ []) reply.Ok
    ∷ step 12 (call.Clear (at_index t 0)) [] reply.Ok
    ∷ step 13 call.Start (moves.Flip (zones 2) 16 0 ∷ []) reply.Ok
    ∷ []

-- the weak reference is read, with these moves of the barrier
abbrev pub weak_read : List Move → Step
weak_read made = step 14 (call.Get (at_index t 0) (at_index t 1) 1) made reply.Ok

-- the block is moved as it is read
abbrev pub read_moving : Step
read_moving = weak_read (moves.Seg (address 0x3000) 1 0 0 ∷ moves.Moved (address 0x1000) (address 0x3000) ∷ [])

abbrev pub kept : History
kept =
    step 15 (call.Null (at_index t 0)) [] reply.No
    ∷ step 16 (call.Step 100) (moves.Unseg (address 0x1000) ∷ moves.End ∷ []) reply.Idle
    ∷ []

-- or the reference is splatted as it is read, and the block goes
abbrev pub read_splatting : Step
read_splatting = weak_read (moves.Splat (address 0x2000) 1 ∷ [])

abbrev pub gone : History
gone =
    step 15 (call.Null (at_index t 0)) [] reply.Yes
    ∷ step 16 (call.Step 100) (moves.Free (address 0x1000) ∷ moves.Unseg (address 0x1000) ∷ moves.End ∷ []) reply.Idle
    ∷ []

-- the graph of the block and the weak object, with what slot 0 holds and what the reference refers to
abbrev pub weakly_graph : (held target : Option ℕ) → Graph
weakly_graph held target = record {
  objects =
      record { pool = 0; body = Automatic 0x201 (HeadCell ∷ NumberCell 0 ∷ []) false }
      ∷ record { pool = 1; body = Automatic 0x100000201 (HeadCell ∷ ReferenceCell target 0 ∷ []) true }
      ∷ [];
  tables = Some (held ∷ Some 1 ∷ None ∷ None ∷ []) ∷ [];
  areas = [];
  blocks = [];
  points =
      Some (record { pool = 0; rank = rank.Exact; reservation = None })
      ∷ Some (record { pool = 1; rank = rank.Weak; reservation = None })
      ∷ [];
  registered = [];
  messages = [];
  labels = [];
  dependents = [];
  transforms = [];
  caches = [];
  frames = [];
  names =
      record { name = t; thing = TableThing 0 }
      ∷ record { name = p; thing = PoolThing 0 }
      ∷ record { name = x; thing = PointThing 0 }
      ∷ record { name = w; thing = PoolThing 1 }
      ∷ record { name = y; thing = PointThing 1 }
      ∷ [];
}

-- the segment of the weak object
abbrev pub weak_segment : Segment
weak_segment = record { base = 0x2000; grains = 1; pool = 1; generation = 0; rank = rank.Weak }

-- the world of a graph of the two while the collection runs, with the segments held, the block's place, buffers and tails, what
-- was moved and held, and how far the collection is
abbrev pub weakly_world : Graph → List Segment → (place : ℕ) → List Tail → (placed had : List ℕ) → Phase → World
weakly_world graph segments place tails placed had phase = record {
  graph = graph;
  grains = 8;
  limit = 8;
  formats = empty_world.formats;
  pools = record { kind = Collected kind.Amc; format = 1; chain = None } ∷ record { kind = Collected kind.Awl; format = 1; chain = None }
      ∷ [];
  chains = [];
  segments = segments;
  addresses = Some place ∷ Some 0x2000 ∷ [];
  point_memories = record { reserved_at = 0x1000; buffer = empty_run } ∷ record { reserved_at = 0x2000; buffer = empty_run } ∷ [];
  tails = tails;
  state = Unclamped;
  flips = 2 ∷ [];
  dependencies = [];
  collection = Some (record {
    condemned_segments = 0x1000 ∷ 0x2000 ∷ [];
    condemned = 0 ∷ 1 ∷ [];
    pinned = [];
    placed = placed;
    had = had;
    graph_at_flip = weakly_graph None (Some 0);
    origins = 1 ∷ [];
    registered_before = 0;
    examined = 0;
    phase = phase;
    reclaimed_to = 0;
    units = 4;
    spent = 0;
  });
}

-- both histories are legal
abbrev pub WeakReadEitherWayIsLegal : Type 0
WeakReadEitherWayIsLegal = IsLegalHistory (weakly_held ++ (read_moving ∷ kept)) × IsLegalHistory (weakly_held ++ (read_splatting ∷ gone))
