-- A collection that goes on in pieces: the read barrier moves what a `get` hands out, and a `step` takes the units that are
-- left.
use Rattle.std.specs.Prelude.{ℕ, false, Option, Some, None, List, [], ◌∷◌, ◌++◌}
use Rattle.mps_base.specs.Run.{Run}
use Rattle.mps_base.specs.declared.moves.Move.{Move}
use Rattle.mps_base.specs.declared.moves.Move.TheVariants as moves
use Rattle.mps_base.specs.declared.names.Kind.TheVariants as kind
use Rattle.mps_base.specs.declared.names.Rank.TheVariants as rank
use Rattle.mps_model.specs.declared.call.Call.TheVariants as call
use Rattle.mps_model.specs.declared.reply.Reply.TheVariants as reply
use Rattle.mps_model.specs.Step.{Step, History}
use Rattle.mps_model.specs.Graph.{Graph, HeadCell, NumberCell, ReferenceCell, Automatic, TableThing, PoolThing, PointThing}
use Rattle.mps_model.specs.Collection.{Collection, Tracing}
use Rattle.mps_base.specs.Segment.{Segment}
use Rattle.mps_model.specs.World.{World, Tail, Collected, Unclamped, empty_world}
use Rattle.mps_model.specs.History.{IsLegalHistory}
use Rattle.mps_model_examples.specs.Script.{p, t, x, at_index, address, zones, step}
use Rattle.mps_model_examples.specs.OneBlock.{prelude, pair_head}

-- two linked blocks: the one in slot 0, at 0x1018, refers to the one at 0x1000, which no slot holds
abbrev pub linked : History
linked =
    prelude
    ++ step 5 (call.Reserve x pair_head) (moves.Seg (address 0x1000) 1 0 0 ∷ []) reply.Ok
    ∷ step 6 (call.Commit x (at_index t 1)) (moves.Commit (address 0x1000) 3 0 ∷ []) reply.Ok
    ∷ step 7 (call.Reserve x pair_head) [] reply.Ok
    ∷ step 8 (call.InitReference x 1 (at_index t 1)) [] reply.Ok
    ∷ step 9 (call.Commit x (at_index t 0)) (moves.Commit (address 0x1018) 3 0 ∷ []) reply.Ok
    ∷ step 10 (call.Clear (at_index t 1)) [] reply.Ok
    ∷ []

-- a collection begins, and moves the block in slot 0
abbrev pub start_step : Step
start_step =
    step 11 call.Start (moves.Flip (zones 2) 16 0 ∷ moves.Seg (address 0x2000) 1 0 0 ∷ moves.Moved (address 0x1018) (address 0x2000)
    ∷ []) reply.Ok

abbrev pub linked_started : History
linked_started = linked ++ start_step ∷ []

-- a `get` of the other block, with these moves
abbrev pub get_step : List Move → Step
get_step made = step 12 (call.Get (at_index t 1) (at_index t 0) 1) made reply.Ok

-- the other block is moved as it is read, and lies after the first one
abbrev pub get_with_barrier : Step
get_with_barrier = get_step (moves.Moved (address 0x1000) (address 0x2018) ∷ [])

-- the moved blocks are scanned, the old segment is given back, and the collection ends
abbrev pub last_steps : History
last_steps =
    step 13 (call.Step 100) (moves.Unseg (address 0x1000) ∷ moves.End ∷ []) reply.Idle
    ∷ step 14 (call.Address (at_index t 1)) [] (reply.Word 0x2018)
    ∷ []

abbrev pub incremental : History
incremental = linked ++ (start_step ∷ get_with_barrier ∷ last_steps)

-- the graph of the two blocks, with what slot 1 holds
abbrev pub linked_graph : (second : Option ℕ) → Graph
linked_graph second = record {
  objects =
      record { pool = 0; body = Automatic pair_head (HeadCell ∷ ReferenceCell None 0 ∷ NumberCell 0 ∷ []) false }
      ∷ record { pool = 0; body = Automatic pair_head (HeadCell ∷ ReferenceCell (Some 0) 0 ∷ NumberCell 0 ∷ []) false }
      ∷ [];
  tables = Some (Some 1 ∷ second ∷ None ∷ None ∷ []) ∷ [];
  areas = [];
  blocks = [];
  points = Some (record { pool = 0; rank = rank.Exact; reservation = None }) ∷ [];
  registered = [];
  messages = [];
  labels = [];
  dependents = [];
  transforms = [];
  caches = [];
  frames = [];
  names =
      record { name = t; thing = TableThing 0 }
      ∷ record { name = p; thing = PoolThing 0 }
      ∷ record { name = x; thing = PointThing 0 }
      ∷ [];
}

-- the world of the two blocks, with their places, buffers and tails, what flips left, and the running collection
abbrev pub linked_world : (second : Option ℕ) → List Segment → (place of_first : ℕ) → (buffer : Run) → List Tail → (flips : List ℕ)
    → Option Collection → World
linked_world second segments place of_first buffer tails flips collection = record {
  graph = linked_graph second;
  grains = 8;
  limit = 8;
  formats = empty_world.formats;
  pools = record { kind = Collected kind.Amc; format = 1; chain = None } ∷ [];
  chains = [];
  segments = segments;
  addresses = Some place ∷ Some of_first ∷ [];
  point_memories = record { reserved_at = 0x1018; buffer = buffer } ∷ [];
  tails = tails;
  state = Unclamped;
  flips = flips;
  dependencies = [];
  collection = collection;
}

-- the collection of the old segment, where these objects were moved and these were held
abbrev pub collection_of_linked : (placed had : List ℕ) → Collection
collection_of_linked placed had = record {
  condemned_segments = 0x1000 ∷ [];
  condemned = 0 ∷ 1 ∷ [];
  pinned = [];
  placed = placed;
  had = had;
  graph_at_flip = linked_graph None;
  origins = 1 ∷ [];
  registered_before = 0;
  examined = 0;
  phase = Tracing;
  reclaimed_to = 0;
  units = 3;
  spent = 0;
}

-- the history is legal
abbrev pub IncrementalIsLegal : Type 0
IncrementalIsLegal = IsLegalHistory incremental
