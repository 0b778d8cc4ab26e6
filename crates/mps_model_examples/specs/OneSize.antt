-- Manual blocks of one size: their segment stays when its last block is freed.
use Rattle.std.specs.Prelude.{Some, None, [], ◌∷◌, ◌++◌}
use Rattle.mps_base.specs.declared.moves.Move.TheVariants as moves
use Rattle.mps_base.specs.declared.refusal.Refusal.TheVariants as refusal
use Rattle.mps_model.specs.declared.call.Call.TheVariants as call
use Rattle.mps_model.specs.declared.reply.Reply.TheVariants as reply
use Rattle.mps_model.specs.Step.{History}
use Rattle.mps_model.specs.Graph.{Manual, PoolThing, BlocksThing}
use Rattle.mps_model.specs.World.{World, OneSize, Unclamped, empty_world}
use Rattle.mps_model.specs.History.{IsLegalHistory}
use Rattle.mps_model_examples.specs.Script.{b, v, at_index, address, step, grain_segment}

-- a block of the size
abbrev pub block_made : History
block_made =
    step 1 (call.Arena 8 8) [] reply.Ok
    ∷ step 2 (call.PoolMfs v 2) [] reply.Ok
    ∷ step 3 (call.Blocks b 2) [] reply.Ok
    ∷ step 4 (call.Alloc v 2 (at_index b 0)) (moves.Seg (address 0x1000) 1 0 0 ∷ moves.Alloc (address 0x1000) 2 0 ∷ []) reply.Ok
    ∷ []

-- it is freed, and the next one lies in its place
abbrev pub place_used_again : History
place_used_again =
    step 5 (call.Free (at_index b 0)) (moves.Free (address 0x1000) ∷ []) reply.Ok
    ∷ step 6 (call.Alloc v 2 (at_index b 1)) (moves.Alloc (address 0x1000) 2 0 ∷ []) reply.Ok
    ∷ step 7 (call.Alloc v 3 (at_index b 0)) [] (reply.Refused refusal.BadSize)
    ∷ step 8 call.Committed [] (reply.Number 1)
    ∷ []

abbrev pub one_size : History
one_size = block_made ++ place_used_again

-- the world of the block
abbrev pub one_size_world : World
one_size_world = record {
  graph = record {
    objects = record { pool = 0; body = Manual (0 ∷ 0 ∷ []) } ∷ [];
    tables = [];
    areas = [];
    blocks = (Some 0 ∷ None ∷ []) ∷ [];
    points = [];
    registered = [];
    messages = [];
    labels = [];
    dependents = [];
    transforms = [];
    caches = [];
    frames = [];
    names = record { name = v; thing = PoolThing 0 } ∷ record { name = b; thing = BlocksThing 0 } ∷ [];
  };
  grains = 8;
  limit = 8;
  formats = empty_world.formats;
  pools = record { kind = OneSize 2; format = 0; chain = None } ∷ [];
  chains = [];
  segments = grain_segment 0x1000 0 ∷ [];
  addresses = Some 0x1000 ∷ [];
  point_memories = [];
  tails = [];
  state = Unclamped;
  flips = [];
  dependencies = [];
  collection = None;
}

-- the history is legal
abbrev pub OneSizeIsLegal : Type 0
OneSizeIsLegal = IsLegalHistory one_size
