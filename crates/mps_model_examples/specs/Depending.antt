-- A dependency on a block is stale once a flip has condemned its zone, and is fresh until then and after a reset.
use Rattle.std.specs.Prelude.{ℕ, false, Some, None, [], ◌∷◌, ◌++◌}
use Rattle.mps_base.specs.declared.moves.Move.TheVariants as moves
use Rattle.mps_base.specs.declared.names.Kind.TheVariants as kind
use Rattle.mps_base.specs.declared.names.Rank.TheVariants as rank
use Rattle.mps_model.specs.declared.call.Call.TheVariants as call
use Rattle.mps_model.specs.declared.reply.Reply.TheVariants as reply
use Rattle.mps_model.specs.Step.{Step, History}
use Rattle.mps_model.specs.Graph.{HeadCell, NumberCell, ReferenceCell, Automatic, TableThing, PoolThing, PointThing, DependencyThing}
use Rattle.mps_model.specs.World.{World, Collected, Unclamped, empty_world}
use Rattle.mps_model.specs.History.{IsLegalHistory}
use Rattle.mps_model_examples.specs.Script.{d, p, q, t, x, at_index, address, zones, step, grain_segment, words}
use Rattle.mps_model_examples.specs.OneBlock.{one_block, pair_head}

-- a dependency on a block, before anything moved
abbrev pub depending : History
depending =
    one_block
    ++ step 9 (call.Dependency d) [] reply.Ok
    ∷ step 10 (call.DependencyAdd d (at_index t 0)) [] reply.Ok
    ∷ []

-- a collection begins, and moves the block
abbrev pub block_moved : (line : ℕ) → Step
block_moved line = step line call.Start (moves.Flip (zones 2) 16 0 ∷ moves.Seg (address 0x2000) 1 0 0
    ∷ moves.Moved (address 0x1000) (address 0x2000) ∷ []) reply.Ok

-- fresh before the move, and stale after it. A dependency that is made then is fresh, until the stale one is merged into it
abbrev pub stale_by_move : History
stale_by_move =
    step 11 (call.DependencyStale d) [] reply.No
    ∷ block_moved 12
    ∷ step 13 (call.DependencyStale d) [] reply.Yes
    ∷ step 14 (call.Dependency q) [] reply.Ok
    ∷ step 15 (call.DependencyAdd q (at_index t 0)) [] reply.Ok
    ∷ step 16 (call.DependencyStale q) [] reply.No
    ∷ step 17 (call.DependencyMerge q d) [] reply.Ok
    ∷ step 18 (call.DependencyStale q) [] reply.Yes
    ∷ step 19 (call.DependencyReset q) [] reply.Ok
    ∷ step 20 (call.DependencyStale q) [] reply.No
    ∷ []

abbrev pub stale_and_fresh : History
stale_and_fresh = depending ++ stale_by_move

-- the world of the block and the dependency, before anything moved
abbrev pub depending_world : World
depending_world = record {
  graph = record {
    objects = record { pool = 0; body = Automatic pair_head (HeadCell ∷ ReferenceCell None 0 ∷ NumberCell 7 ∷ []) false } ∷ [];
    tables = Some (Some 0 ∷ None ∷ None ∷ None ∷ []) ∷ [];
    areas = [];
    blocks = [];
    points = Some (record { pool = 0; rank = rank.Exact; reservation = None }) ∷ [];
    registered = [];
    messages = [];
    labels = [];
    dependents = [];
    transforms = [];
    caches = [];
    frames = [];
    names =
        record { name = t; thing = TableThing 0 }
        ∷ record { name = p; thing = PoolThing 0 }
        ∷ record { name = x; thing = PointThing 0 }
        ∷ record { name = d; thing = DependencyThing 0 }
        ∷ [];
  };
  grains = 8;
  limit = 8;
  formats = empty_world.formats;
  pools = record { kind = Collected kind.Amc; format = 1; chain = None } ∷ [];
  chains = [];
  segments = grain_segment 0x1000 0 ∷ [];
  addresses = Some 0x1000 ∷ [];
  point_memories = record { reserved_at = 0x1000; buffer = words 515 509 } ∷ [];
  tails = [];
  state = Unclamped;
  flips = [];
  dependencies = record { epoch = 0; zones = 2; blocks = (0, 0x1000) ∷ [] } ∷ [];
  collection = None;
}

-- the history is legal
abbrev pub DependingIsLegal : Type 0
DependingIsLegal = IsLegalHistory stale_and_fresh
