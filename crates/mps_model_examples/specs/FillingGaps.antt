-- A pool that doesn't move: a block lies in the lowest gap that fits, and is refused only if none does.
use Rattle.std.specs.Prelude.{ℕ, false, Option, Some, None, List, [], ◌∷◌, ◌++◌}
use Rattle.mps_base.specs.declared.moves.Move.TheVariants as moves
use Rattle.mps_base.specs.declared.names.Kind.TheVariants as kind
use Rattle.mps_base.specs.declared.names.Rank.TheVariants as rank
use Rattle.mps_base.specs.declared.refusal.Refusal.TheVariants as refusal
use Rattle.mps_model.specs.declared.call.Call.TheVariants as call
use Rattle.mps_model.specs.declared.reply.Reply.TheVariants as reply
use Rattle.mps_model.specs.Step.{History}
use Rattle.mps_model.specs.Graph.{Object, HeadCell, NumberCell, Automatic, TableThing, PoolThing, PointThing}
use Rattle.mps_model.specs.World.{World, Collected, Unclamped, empty_run, empty_world}
use Rattle.mps_model.specs.History.{IsLegalHistory}
use Rattle.mps_model_examples.specs.Script.{p, t, x, at_index, address, zones, step, grain_segment}

-- an arena of one grain, which holds a block of 4 words and a gap after it
abbrev pub one_grain : History
one_grain =
    step 1 (call.Arena 1 1) [] reply.Ok
    ∷ step 2 (call.Table t 1) [] reply.Ok
    ∷ step 3 (call.Pool p kind.Lo 3) [] reply.Ok
    ∷ step 4 (call.Point x p rank.Exact) [] reply.Ok
    ∷ step 5 (call.Reserve x 0x403) (moves.Seg (address 0x1000) 1 0 0 ∷ []) reply.Ok
    ∷ step 6 (call.Commit x (at_index t 0)) (moves.Commit (address 0x1000) 4 0 ∷ []) reply.Ok
    ∷ []

-- 509 words don't fit in the gap, and 4 do
abbrev pub gap_filled : History
gap_filled =
    step 7 (call.Reserve x 0x1fd03) [] (reply.Refused (refusal.CommitLimit 1 1 1))
    ∷ step 8 (call.Reserve x 0x403) [] reply.Ok
    ∷ step 9 (call.Commit x (at_index t 0)) (moves.Commit (address 0x1020) 4 0 ∷ []) reply.Ok
    ∷ []

-- the first block is freed, and the next one lies in its place
abbrev pub lowest_gap : History
lowest_gap =
    step 10 call.Collect (moves.Flip (zones 0) 16 0 ∷ moves.Free (address 0x1000) ∷ moves.End ∷ []) reply.Ok
    ∷ step 11 (call.Reserve x 0x203) [] reply.Ok
    ∷ step 12 (call.Commit x (at_index t 0)) (moves.Commit (address 0x1000) 2 0 ∷ []) reply.Ok
    ∷ step 13 (call.Address (at_index t 0)) [] (reply.Word 0x1000)
    ∷ []

abbrev pub filling_gaps : History
filling_gaps = one_grain ++ (gap_filled ++ lowest_gap)

-- a block of 4 words
abbrev pub block_of_four : Object
block_of_four = record { pool = 0; body = Automatic 0x403 (HeadCell ∷ NumberCell 0 ∷ NumberCell 0 ∷ NumberCell 0 ∷ []) false }

-- the world of blocks at these places, the last of which the slot holds
abbrev pub world_of_grain : List Object → (held : ℕ) → (addresses : List (Option ℕ)) → (reserved_at : ℕ) → World
world_of_grain objects held addresses reserved_at = record {
  graph = record {
    objects = objects;
    tables = Some (Some held ∷ []) ∷ [];
    areas = [];
    blocks = [];
    points = Some (record { pool = 0; rank = rank.Exact; reservation = None }) ∷ [];
    registered = [];
    messages = [];
    labels = [];
    dependents = [];
    transforms = [];
    caches = [];
    frames = [];
    names =
        record { name = t; thing = TableThing 0 }
        ∷ record { name = p; thing = PoolThing 0 }
        ∷ record { name = x; thing = PointThing 0 }
        ∷ [];
  };
  grains = 1;
  limit = 1;
  formats = empty_world.formats;
  pools = record { kind = Collected kind.Lo; format = 3; chain = None } ∷ [];
  chains = [];
  segments = grain_segment 0x1000 0 ∷ [];
  addresses = addresses;
  point_memories = record { reserved_at = reserved_at; buffer = empty_run } ∷ [];
  tails = [];
  state = Unclamped;
  flips = [];
  dependencies = [];
  collection = None;
}

-- the history is legal
abbrev pub FillingGapsIsLegal : Type 0
FillingGapsIsLegal = IsLegalHistory filling_gaps
