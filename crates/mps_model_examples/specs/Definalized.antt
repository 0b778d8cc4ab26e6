-- Registrations that are taken away, before a collection and while one runs: then no message comes of them.
use Rattle.std.specs.Prelude.{ℕ, false, Option, Some, None, List, [], ◌∷◌, ◌++◌}
use Rattle.mps_base.specs.Run.{Run}
use Rattle.mps_base.specs.declared.moves.Move.TheVariants as moves
use Rattle.mps_base.specs.declared.names.Kind.TheVariants as kind
use Rattle.mps_base.specs.declared.names.Rank.TheVariants as rank
use Rattle.mps_base.specs.declared.refusal.Refusal.TheVariants as refusal
use Rattle.mps_model.specs.declared.call.Call.TheVariants as call
use Rattle.mps_model.specs.declared.reply.Reply.TheVariants as reply
use Rattle.mps_model.specs.Step.{History}
use Rattle.mps_model.specs.Graph.{Graph, HeadCell, NumberCell, Automatic, TableThing, PoolThing, PointThing}
use Rattle.mps_model.specs.Collection.{Collection, Tracing}
use Rattle.mps_base.specs.Segment.{Segment}
use Rattle.mps_model.specs.World.{World, Tail, Collected, Unclamped, empty_world}
use Rattle.mps_model.specs.History.{IsLegalHistory}
use Rattle.mps_model_examples.specs.Script.{p, t, x, at_index, address, zones, step}
use Rattle.mps_model_examples.specs.OneBlock.{prelude}

-- a block is registered, and taken away from the list, once for each registration
abbrev pub registered_once : History
registered_once =
    prelude
    ++ step 5 (call.Reserve x 0x201) (moves.Seg (address 0x1000) 1 0 0 ∷ []) reply.Ok
    ∷ step 6 (call.Commit x (at_index t 0)) (moves.Commit (address 0x1000) 2 0 ∷ []) reply.Ok
    ∷ step 7 (call.Finalize (at_index t 0)) [] reply.Ok
    ∷ step 8 (call.Definalize (at_index t 0)) [] reply.Ok
    ∷ step 9 (call.Definalize (at_index t 0)) [] (reply.Refused refusal.NotRegistered)
    ∷ step 10 (call.Finalize (at_index t 0)) [] reply.Ok
    ∷ []

-- a collection begins; the registration is taken away, another one made, and the block dropped
abbrev pub registered_anew : History
registered_anew =
    step 11 call.Start (moves.Flip (zones 2) 16 0 ∷ moves.Seg (address 0x2000) 1 0 0 ∷ moves.Moved (address 0x1000) (address 0x2000)
    ∷ []) reply.Ok
    ∷ step 12 (call.Definalize (at_index t 0)) [] reply.Ok
    ∷ step 13 (call.Finalize (at_index t 0)) [] reply.Ok
    ∷ step 14 (call.Clear (at_index t 0)) [] reply.Ok
    ∷ []

-- the collection posts nothing: the registration that is left was made after its flip
abbrev pub not_posted : History
not_posted =
    step 15 (call.Step 100) (moves.Unseg (address 0x1000) ∷ moves.End ∷ []) reply.Idle
    ∷ step 16 (call.Message (at_index t 0)) [] reply.None_
    ∷ []

abbrev pub definalized : History
definalized = registered_once ++ (registered_anew ++ not_posted)

-- the graph of the block, registered once, with what slot 0 holds
abbrev pub registered_graph : (held : Option ℕ) → Graph
registered_graph held = record {
  objects = record { pool = 0; body = Automatic 0x201 (HeadCell ∷ NumberCell 0 ∷ []) false } ∷ [];
  tables = Some (held ∷ None ∷ None ∷ None ∷ []) ∷ [];
  areas = [];
  blocks = [];
  points = Some (record { pool = 0; rank = rank.Exact; reservation = None }) ∷ [];
  registered = 0 ∷ [];
  messages = [];
  labels = [];
  dependents = [];
  transforms = [];
  caches = [];
  frames = [];
  names =
      record { name = t; thing = TableThing 0 }
      ∷ record { name = p; thing = PoolThing 0 }
      ∷ record { name = x; thing = PointThing 0 }
      ∷ [];
}

abbrev pub registered_world : (held : Option ℕ) → List Segment → (place : ℕ) → Run → List Tail → (flips : List ℕ) → Option Collection
    → World
registered_world held segments place buffer tails flips collection = record {
  graph = registered_graph held;
  grains = 8;
  limit = 8;
  formats = empty_world.formats;
  pools = record { kind = Collected kind.Amc; format = 1; chain = None } ∷ [];
  chains = [];
  segments = segments;
  addresses = Some place ∷ [];
  point_memories = record { reserved_at = 0x1000; buffer = buffer } ∷ [];
  tails = tails;
  state = Unclamped;
  flips = flips;
  dependencies = [];
  collection = collection;
}

-- the collection of the block, which was moved, after the registration that was made before the flip
abbrev pub collection_of_registered : Collection
collection_of_registered = record {
  condemned_segments = 0x1000 ∷ [];
  condemned = 0 ∷ [];
  pinned = [];
  placed = 0 ∷ [];
  had = 0 ∷ 0 ∷ 0 ∷ [];
  graph_at_flip = registered_graph (Some 0);
  origins = 0 ∷ [];
  registered_before = 0;
  examined = 0;
  phase = Tracing;
  reclaimed_to = 0;
  units = 3;
  spent = 0;
}

-- the history is legal
abbrev pub DefinalizedIsLegal : Type 0
DefinalizedIsLegal = IsLegalHistory definalized
