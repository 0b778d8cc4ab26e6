-- A collection that traces, then splats, then reclaims.
use Rattle.std.specs.Prelude.{true, false, Some, None, List, [], ◌∷◌, ◌++◌}
use Rattle.mps_base.specs.declared.moves.Move.{Move}
use Rattle.mps_base.specs.declared.moves.Move.TheVariants as moves
use Rattle.mps_base.specs.declared.names.Kind.TheVariants as kind
use Rattle.mps_base.specs.declared.names.Rank.TheVariants as rank
use Rattle.mps_model.specs.declared.call.Call.TheVariants as call
use Rattle.mps_model.specs.declared.reply.Reply.TheVariants as reply
use Rattle.mps_model.specs.Step.{Step, History}
use Rattle.mps_model.specs.Graph.{HeadCell, NumberCell, ReferenceCell, Automatic, TableThing, PoolThing, PointThing}
use Rattle.mps_model.specs.World.{World, Collected, Unclamped, empty_run, empty_world}
use Rattle.mps_model.specs.History.{IsLegalHistory}
use Rattle.mps_model_examples.specs.Script.{p, t, w, x, y, at_index, address, zones, step, grain_segment, words}
use Rattle.mps_model_examples.specs.OneBlock.{pair_head}
use Rattle.mps_model_examples.specs.Incremental.{linked}

-- a weak object that refers to an object that nothing holds, and a copied block that refers to another one
abbrev pub weak_and_linked : History
weak_and_linked =
    linked
    ++ step 11 (call.Pool w kind.Awl 1) [] reply.Ok
    ∷ step 12 (call.Point y w rank.Weak) [] reply.Ok
    ∷ step 13 (call.Reserve y 0x201) (moves.Seg (address 0x2000) 1 1 0 ∷ []) reply.Ok
    ∷ step 14 (call.Commit y (at_index t 1)) (moves.Commit (address 0x2000) 2 1 ∷ []) reply.Ok
    ∷ step 15 (call.Reserve y 0x100000201) [] reply.Ok
    ∷ step 16 (call.InitReference y 1 (at_index t 1)) [] reply.Ok
    ∷ step 17 (call.Commit y (at_index t 2)) (moves.Commit (address 0x2010) 2 1 ∷ []) reply.Ok
    ∷ step 18 (call.Clear (at_index t 1)) [] reply.Ok
    ∷ []

-- a collection with these moves after that of the block in slot 0
abbrev pub collect_linked : List Move → Step
collect_linked later =
    step 19 call.Collect
    (moves.Flip (zones 2) 16 0 ∷ moves.Seg (address 0x3000) 1 0 0 ∷ moves.Moved (address 0x1018) (address 0x3000) ∷ later) reply.Ok

-- the other block is moved, the weak reference splatted, the old segment given back, and the reference's target freed
abbrev pub moves_in_order : List Move
moves_in_order =
    moves.Moved (address 0x1000) (address 0x3018)
    ∷ moves.Splat (address 0x2010) 1
    ∷ moves.Unseg (address 0x1000)
    ∷ moves.Free (address 0x2000)
    ∷ moves.End
    ∷ []

abbrev pub collected_in_order : History
collected_in_order = collect_linked moves_in_order ∷ step 20 call.Live [] (reply.Pair 3 8) ∷ []

abbrev pub collecting_in_order : History
collecting_in_order = weak_and_linked ++ collected_in_order

-- the world before the collection
abbrev pub weak_and_linked_world : World
weak_and_linked_world = record {
  graph = record {
    objects =
        record { pool = 0; body = Automatic pair_head (HeadCell ∷ ReferenceCell None 0 ∷ NumberCell 0 ∷ []) false }
        ∷ record { pool = 0; body = Automatic pair_head (HeadCell ∷ ReferenceCell (Some 0) 0 ∷ NumberCell 0 ∷ []) false }
        ∷ record { pool = 1; body = Automatic 0x201 (HeadCell ∷ NumberCell 0 ∷ []) true }
        ∷ record { pool = 1; body = Automatic 0x100000201 (HeadCell ∷ ReferenceCell (Some 2) 0 ∷ []) true }
        ∷ [];
    tables = Some (Some 1 ∷ None ∷ Some 3 ∷ None ∷ []) ∷ [];
    areas = [];
    blocks = [];
    points =
        Some (record { pool = 0; rank = rank.Exact; reservation = None })
        ∷ Some (record { pool = 1; rank = rank.Weak; reservation = None })
        ∷ [];
    registered = [];
    messages = [];
    labels = [];
    dependents = [];
    transforms = [];
    caches = [];
    frames = [];
    names =
        record { name = t; thing = TableThing 0 }
        ∷ record { name = p; thing = PoolThing 0 }
        ∷ record { name = x; thing = PointThing 0 }
        ∷ record { name = w; thing = PoolThing 1 }
        ∷ record { name = y; thing = PointThing 1 }
        ∷ [];
  };
  grains = 8;
  limit = 8;
  formats = empty_world.formats;
  pools = record { kind = Collected kind.Amc; format = 1; chain = None } ∷ record { kind = Collected kind.Awl; format = 1; chain = None }
      ∷ [];
  chains = [];
  segments = grain_segment 0x1000 0 ∷ record { base = 0x2000; grains = 1; pool = 1; generation = 0; rank = rank.Weak } ∷ [];
  addresses = Some 0x1000 ∷ Some 0x1018 ∷ Some 0x2000 ∷ Some 0x2010 ∷ [];
  point_memories = record { reserved_at = 0x1018; buffer = words 518 506 } ∷ record { reserved_at = 0x2010; buffer = empty_run } ∷ [];
  tails = [];
  state = Unclamped;
  flips = [];
  dependencies = [];
  collection = None;
}

-- the history is legal
abbrev pub CollectingInOrderIsLegal : Type 0
CollectingInOrderIsLegal = IsLegalHistory collecting_in_order
