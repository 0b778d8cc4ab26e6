-- A read barrier that goes on: it scans the block that is read, and then the one that this very scanning moved after it.
use Rattle.std.specs.Prelude.{ℕ, false, Option, Some, None, List, [], ◌∷◌, ◌++◌}
use Rattle.mps_base.specs.declared.moves.Move.TheVariants as moves
use Rattle.mps_base.specs.declared.names.Kind.TheVariants as kind
use Rattle.mps_base.specs.declared.names.Rank.TheVariants as rank
use Rattle.mps_model.specs.declared.call.Call.TheVariants as call
use Rattle.mps_model.specs.declared.reply.Reply.TheVariants as reply
use Rattle.mps_model.specs.Step.{History}
use Rattle.mps_model.specs.Graph.{Graph, Object, HeadCell, NumberCell, ReferenceCell, Automatic, TableThing, PoolThing, PointThing}
use Rattle.mps_model.specs.Collection.{Tracing}
use Rattle.mps_model.specs.World.{World, Tail, Collected, Unclamped, empty_run, empty_world}
use Rattle.mps_model.specs.History.{IsLegalHistory}
use Rattle.mps_model_examples.specs.Script.{p, t, x, at_index, address, zones, step, grain_segment, words, tail}
use Rattle.mps_model_examples.specs.OneBlock.{prelude, pair_head}

-- three blocks in a row: the one in slot 0, at 0x1030, refers to the one at 0x1018, and that one to the one at 0x1000
abbrev pub three_in_a_row : History
three_in_a_row =
    prelude
    ++ step 5 (call.Reserve x pair_head) (moves.Seg (address 0x1000) 1 0 0 ∷ []) reply.Ok
    ∷ step 6 (call.Commit x (at_index t 1)) (moves.Commit (address 0x1000) 3 0 ∷ []) reply.Ok
    ∷ step 7 (call.Reserve x pair_head) [] reply.Ok
    ∷ step 8 (call.InitReference x 1 (at_index t 1)) [] reply.Ok
    ∷ step 9 (call.Commit x (at_index t 1)) (moves.Commit (address 0x1018) 3 0 ∷ []) reply.Ok
    ∷ step 10 (call.Reserve x pair_head) [] reply.Ok
    ∷ step 11 (call.InitReference x 1 (at_index t 1)) [] reply.Ok
    ∷ step 12 (call.Commit x (at_index t 0)) (moves.Commit (address 0x1030) 3 0 ∷ []) reply.Ok
    ∷ step 13 (call.Clear (at_index t 1)) [] reply.Ok
    ∷ []

abbrev pub row_started : History
row_started =
    step 14 call.Start (moves.Flip (zones 2) 16 0 ∷ moves.Seg (address 0x2000) 1 0 0 ∷ moves.Moved (address 0x1030) (address 0x2000)
    ∷ []) reply.Ok
    ∷ []

-- both other blocks move into the segment that is read
abbrev pub row_read : History
row_read =
    step 15 (call.Get (at_index t 1) (at_index t 0) 1)
    (moves.Moved (address 0x1018) (address 0x2018) ∷ moves.Moved (address 0x1000) (address 0x2030) ∷ []) reply.Ok
    ∷ step 16 (call.Get (at_index t 1) (at_index t 1) 1) [] reply.Ok
    ∷ step 17 (call.Address (at_index t 1)) [] (reply.Word 0x2030)
    ∷ []

abbrev pub reading_on : History
reading_on = three_in_a_row ++ (row_started ++ row_read)

-- a block that refers to this one
abbrev pub row_block : (target : Option ℕ) → Object
row_block target = record { pool = 0; body = Automatic pair_head (HeadCell ∷ ReferenceCell target 0 ∷ NumberCell 0 ∷ []) false }

abbrev pub row_graph : Graph
row_graph = record {
  objects = row_block None ∷ row_block (Some 0) ∷ row_block (Some 1) ∷ [];
  tables = Some (Some 2 ∷ None ∷ None ∷ None ∷ []) ∷ [];
  areas = [];
  blocks = [];
  points = Some (record { pool = 0; rank = rank.Exact; reservation = None }) ∷ [];
  registered = [];
  messages = [];
  labels = [];
  dependents = [];
  transforms = [];
  caches = [];
  frames = [];
  names =
      record { name = t; thing = TableThing 0 }
      ∷ record { name = p; thing = PoolThing 0 }
      ∷ record { name = x; thing = PointThing 0 }
      ∷ [];
}

-- the world before the collection
abbrev pub row_world : World
row_world = record {
  graph = row_graph;
  grains = 8;
  limit = 8;
  formats = empty_world.formats;
  pools = record { kind = Collected kind.Amc; format = 1; chain = None } ∷ [];
  chains = [];
  segments = grain_segment 0x1000 0 ∷ [];
  addresses = Some 0x1000 ∷ Some 0x1018 ∷ Some 0x1030 ∷ [];
  point_memories = record { reserved_at = 0x1030; buffer = words 521 503 } ∷ [];
  tails = [];
  state = Unclamped;
  flips = [];
  dependencies = [];
  collection = None;
}

-- the world while the collection runs, with the places of the blocks, the buffers and tails after them, which were moved, which
-- the client had, and the units asked of it
abbrev pub row_collected : (addresses : List (Option ℕ)) → List Tail → (placed had : List ℕ) → (spent : ℕ) → World
row_collected addresses tails placed had spent = record row_world {
  segments = grain_segment 0x1000 0 ∷ grain_segment 0x2000 0 ∷ [];
  addresses = addresses;
  point_memories = record { reserved_at = 0x1030; buffer = empty_run } ∷ [];
  tails = tails;
  flips = 2 ∷ [];
  collection = Some (record {
    condemned_segments = 0x1000 ∷ [];
    condemned = 0 ∷ 1 ∷ 2 ∷ [];
    pinned = [];
    placed = placed;
    had = had;
    graph_at_flip = row_graph;
    origins = 2 ∷ [];
    registered_before = 0;
    examined = 0;
    phase = Tracing;
    reclaimed_to = 0;
    units = 4;
    spent = spent;
  });
}

-- the world after its flip
abbrev pub row_started_world : World
row_started_world = row_collected (Some 0x1000 ∷ Some 0x1018 ∷ Some 0x2000 ∷ []) (tail 1027 509) (2 ∷ []) (2 ∷ []) 0

-- the history is legal
abbrev pub ReadingOnIsLegal : Type 0
ReadingOnIsLegal = IsLegalHistory reading_on
