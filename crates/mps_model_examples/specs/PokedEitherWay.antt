-- A word that is poked while a collection runs, at a block of a marking pool whose fate isn't decided: both answers are legal.
use Rattle.std.specs.Prelude.{ℕ, false, Option, Some, None, [], ◌∷◌, ◌++◌}
use Rattle.mps_base.specs.declared.moves.Move.TheVariants as moves
use Rattle.mps_base.specs.declared.names.Kind.TheVariants as kind
use Rattle.mps_base.specs.declared.names.Rank.TheVariants as rank
use Rattle.mps_model.specs.declared.call.Call.TheVariants as call
use Rattle.mps_model.specs.declared.reply.Reply.{Reply}
use Rattle.mps_model.specs.declared.reply.Reply.TheVariants as reply
use Rattle.mps_model.specs.Step.{Step, History}
use Rattle.mps_model.specs.Graph.{Graph, Object, PlainWord, HeadCell, NumberCell, ReferenceCell, Automatic, TableThing, AreaThing, PoolThing, PointThing}
use Rattle.mps_model.specs.Collection.{Tracing}
use Rattle.mps_model.specs.World.{World, Collected, Unclamped, empty_run, empty_world}
use Rattle.mps_model.specs.History.{IsLegalHistory}
use Rattle.mps_model_examples.specs.Script.{a, p, t, x, at_index, address, zones, step, grain_segment}
use Rattle.mps_model_examples.specs.OneBlock.{pair_head}

-- two linked blocks of a marking pool: the one in slot 0, at 0x1018, refers to the one at 0x1000
abbrev pub linked_in_place : History
linked_in_place =
    step 1 (call.Arena 8 8) [] reply.Ok
    ∷ step 2 (call.Table t 2) [] reply.Ok
    ∷ step 3 (call.Area a 1) [] reply.Ok
    ∷ step 4 (call.Pool p kind.Ams 1) [] reply.Ok
    ∷ step 5 (call.Point x p rank.Exact) [] reply.Ok
    ∷ step 6 (call.Reserve x pair_head) (moves.Seg (address 0x1000) 1 0 0 ∷ []) reply.Ok
    ∷ step 7 (call.Commit x (at_index t 1)) (moves.Commit (address 0x1000) 3 0 ∷ []) reply.Ok
    ∷ step 8 (call.Reserve x pair_head) [] reply.Ok
    ∷ step 9 (call.InitReference x 1 (at_index t 1)) [] reply.Ok
    ∷ step 10 (call.Commit x (at_index t 0)) (moves.Commit (address 0x1018) 3 0 ∷ []) reply.Ok
    ∷ step 11 (call.Clear (at_index t 1)) [] reply.Ok
    ∷ []

-- a collection begins, and the client takes the reference away: nothing leads to the block any more, but something did at
-- the flip
abbrev pub unlinked : History
unlinked =
    step 12 call.Start (moves.Flip (zones 0) 16 0 ∷ []) reply.Ok
    ∷ step 13 (call.Put (at_index t 0) 1 (at_index t 1)) [] reply.Ok
    ∷ []

-- the block's address is poked, and then the collection ends
abbrev pub poke_step : Reply → Step
poke_step said = step 14 (call.Poke (at_index a 0) 0x1000) [] said

-- it was marked: the word holds it
abbrev pub as_block : History
as_block =
    poke_step reply.Block
    ∷ step 15 (call.Step 100) (moves.End ∷ []) reply.Idle
    ∷ step 16 call.Live [] (reply.Pair 2 6)
    ∷ []

-- it wasn't: the word is a number, and the block is freed
abbrev pub as_number : History
as_number =
    poke_step reply.Plain
    ∷ step 15 (call.Step 100) (moves.Free (address 0x1000) ∷ moves.End ∷ []) reply.Idle
    ∷ step 16 call.Live [] (reply.Pair 1 3)
    ∷ []

-- the graph of the two blocks, with what the second refers to
abbrev pub graph_in_place : (target : Option ℕ) → Graph
graph_in_place target = record {
  objects = pair None ∷ pair target ∷ [];
  tables = Some (Some 1 ∷ None ∷ []) ∷ [];
  areas = Some (PlainWord 0 ∷ []) ∷ [];
  blocks = [];
  points = Some (record { pool = 0; rank = rank.Exact; reservation = None }) ∷ [];
  registered = [];
  messages = [];
  labels = [];
  dependents = [];
  transforms = [];
  caches = [];
  frames = [];
  names =
      record { name = t; thing = TableThing 0 }
      ∷ record { name = a; thing = AreaThing 0 }
      ∷ record { name = p; thing = PoolThing 0 }
      ∷ record { name = x; thing = PointThing 0 }
      ∷ [];
}
  where
    pair : (refers_to : Option ℕ) → Object
    pair refers_to = record { pool = 0; body = Automatic pair_head (HeadCell ∷ ReferenceCell refers_to 0 ∷ NumberCell 0 ∷ []) false }

-- the world before the collection
abbrev pub linked_in_place_world : World
linked_in_place_world = record {
  graph = graph_in_place (Some 0);
  grains = 8;
  limit = 8;
  formats = empty_world.formats;
  pools = record { kind = Collected kind.Ams; format = 1; chain = None } ∷ [];
  chains = [];
  segments = grain_segment 0x1000 0 ∷ [];
  addresses = Some 0x1000 ∷ Some 0x1018 ∷ [];
  point_memories = record { reserved_at = 0x1018; buffer = empty_run } ∷ [];
  tails = [];
  state = Unclamped;
  flips = [];
  dependencies = [];
  collection = None;
}

-- the world without the reference, and with the collection
abbrev pub unlinked_world : World
unlinked_world = record linked_in_place_world {
  graph = graph_in_place None;
  flips = 0 ∷ [];
  collection = Some (record {
    condemned_segments = 0x1000 ∷ [];
    condemned = 0 ∷ 1 ∷ [];
    pinned = [];
    placed = [];
    had = 1 ∷ 1 ∷ [];
    graph_at_flip = graph_in_place (Some 0);
    origins = 1 ∷ [];
    registered_before = 0;
    examined = 0;
    phase = Tracing;
    reclaimed_to = 0;
    units = 3;
    spent = 0;
  });
}

-- both histories are legal
abbrev pub PokedEitherWayIsLegal : Type 0
PokedEitherWayIsLegal = IsLegalHistory (linked_in_place ++ (unlinked ++ as_block))
    × IsLegalHistory (linked_in_place ++ (unlinked ++ as_number))
