-- A weak reference is kept while its target is held, and splatted at the second collection.
use Rattle.std.specs.Prelude.{ℕ, true, false, Option, Some, None, List, [], ◌∷◌, ◌++◌}
use Rattle.mps_base.specs.declared.moves.Move.{Move}
use Rattle.mps_base.specs.declared.moves.Move.TheVariants as moves
use Rattle.mps_base.specs.declared.names.Kind.TheVariants as kind
use Rattle.mps_base.specs.declared.names.Rank.TheVariants as rank
use Rattle.mps_model.specs.declared.call.Call.TheVariants as call
use Rattle.mps_model.specs.declared.reply.Reply.TheVariants as reply
use Rattle.mps_model.specs.Step.{History}
use Rattle.mps_model.specs.Graph.{HeadCell, NumberCell, ReferenceCell, Automatic, TableThing, PoolThing, PointThing}
use Rattle.mps_model.specs.World.{World, Collected, ArenaState, empty_run, empty_world}
use Rattle.mps_model.specs.History.{IsLegalHistory}
use Rattle.mps_model_examples.specs.Script.{t, w, x, y, at_index, address, zones, step}

-- an object at 0x1000 in slot 0, and a weak one at 0x2000 in slot 1 that refers to it
abbrev pub weak_pair : History
weak_pair =
    step 1 (call.Arena 8 8) [] reply.Ok
    ∷ step 2 (call.Table t 3) [] reply.Ok
    ∷ step 3 (call.Pool w kind.Awl 1) [] reply.Ok
    ∷ step 4 (call.Point x w rank.Exact) [] reply.Ok
    ∷ step 5 (call.Point y w rank.Weak) [] reply.Ok
    ∷ step 6 (call.Reserve x 0x201) (moves.Seg (address 0x1000) 1 0 0 ∷ []) reply.Ok
    ∷ step 7 (call.Commit x (at_index t 0)) (moves.Commit (address 0x1000) 2 0 ∷ []) reply.Ok
    ∷ step 8 (call.Reserve y 0x100000201) (moves.Seg (address 0x2000) 1 0 0 ∷ []) reply.Ok
    ∷ step 9 (call.InitReference y 1 (at_index t 0)) [] reply.Ok
    ∷ step 10 (call.Commit y (at_index t 1)) (moves.Commit (address 0x2000) 2 0 ∷ []) reply.Ok
    ∷ []

-- the two objects in the world, with what their slots hold and what collections left
abbrev pub weak_world : (first second : Option ℕ) → (flips : List ℕ) → ArenaState → World
weak_world first second flips state = record {
  graph = record {
    objects =
        record { pool = 0; body = Automatic 0x201 (HeadCell ∷ NumberCell 0 ∷ []) false }
        ∷ record { pool = 0; body = Automatic 0x100000201 (HeadCell ∷ ReferenceCell (Some 0) 0 ∷ []) true }
        ∷ [];
    tables = Some (first ∷ second ∷ None ∷ []) ∷ [];
    areas = [];
    blocks = [];
    points =
        Some (record { pool = 0; rank = rank.Exact; reservation = None })
        ∷ Some (record { pool = 0; rank = rank.Weak; reservation = None })
        ∷ [];
    registered = [];
    messages = [];
    labels = [];
    dependents = [];
    transforms = [];
    caches = [];
    frames = [];
    names =
        record { name = t; thing = TableThing 0 }
        ∷ record { name = w; thing = PoolThing 0 }
        ∷ record { name = x; thing = PointThing 0 }
        ∷ record { name = y; thing = PointThing 1 }
        ∷ [];
  };
  grains = 8;
  limit = 8;
  formats = empty_world.formats;
  pools = record { kind = Collected kind.Awl; format = 1; chain = None } ∷ [];
  chains = [];
  segments =
      record { base = 0x1000; grains = 1; pool = 0; generation = 0; rank = rank.Exact }
      ∷ record { base = 0x2000; grains = 1; pool = 0; generation = 0; rank = rank.Weak }
      ∷ [];
  addresses = Some 0x1000 ∷ Some 0x2000 ∷ [];
  point_memories = record { reserved_at = 0x1000; buffer = empty_run } ∷ record { reserved_at = 0x2000; buffer = empty_run } ∷ [];
  tails = [];
  state = state;
  flips = flips;
  dependencies = [];
  collection = None;
}

-- a collection while both are held, and the client then drops the target
abbrev pub target_dropped : History
target_dropped =
    step 11 call.Collect (moves.Flip (zones 0) 16 0 ∷ moves.End ∷ []) reply.Ok
    ∷ step 12 (call.Get (at_index t 2) (at_index t 1) 1) [] reply.Ok
    ∷ step 13 (call.Same (at_index t 2) (at_index t 0)) [] reply.Yes
    ∷ step 14 (call.Clear (at_index t 2)) [] reply.Ok
    ∷ step 15 (call.Clear (at_index t 0)) [] reply.Ok
    ∷ []

-- the weak reference is splatted, its target freed and the target's segment given back
abbrev pub splatting_moves : List Move
splatting_moves =
    moves.Flip (zones 0) 16 0
    ∷ moves.Splat (address 0x2000) 1
    ∷ moves.Free (address 0x1000)
    ∷ moves.Unseg (address 0x1000)
    ∷ moves.End
    ∷ []

abbrev pub splatted : History
splatted =
    step 16 call.Collect splatting_moves reply.Ok
    ∷ step 17 (call.Get (at_index t 2) (at_index t 1) 1) [] reply.Ok
    ∷ step 18 (call.Null (at_index t 2)) [] reply.Yes
    ∷ []

abbrev pub weak : History
weak = weak_pair ++ (target_dropped ++ splatted)

-- the history is legal
abbrev pub WeakIsLegal : Type 0
WeakIsLegal = IsLegalHistory weak
