-- Manual blocks: a segment is taken for a block that fits in no gap, and given back with its last block.
use Rattle.std.specs.Prelude.{ℕ, Option, Some, None, List, [], ◌∷◌, ◌++◌, replicate}
use Rattle.mps_base.specs.declared.moves.Move.TheVariants as moves
use Rattle.mps_base.specs.declared.refusal.Refusal.TheVariants as refusal
use Rattle.mps_model.specs.declared.call.Call.TheVariants as call
use Rattle.mps_model.specs.declared.reply.Reply.TheVariants as reply
use Rattle.mps_model.specs.Step.{History}
use Rattle.mps_model.specs.Graph.{Object, Manual, PoolThing, BlocksThing}
use Rattle.mps_base.specs.Segment.{Segment}
use Rattle.mps_model.specs.World.{World, AnySize, Unclamped, empty_world}
use Rattle.mps_model.specs.History.{IsLegalHistory}
use Rattle.mps_model_examples.specs.Script.{b, v, at_index, address, step}

-- two blocks that fill a grain have a segment each
abbrev pub two_blocks : History
two_blocks =
    step 1 (call.Arena 3 3) [] reply.Ok
    ∷ step 2 (call.PoolMvff v) [] reply.Ok
    ∷ step 3 (call.Blocks b 4) [] reply.Ok
    ∷ step 4 (call.Alloc v 512 (at_index b 0)) (moves.Seg (address 0x1000) 1 0 0 ∷ moves.Alloc (address 0x1000) 512 0 ∷ []) reply.Ok
    ∷ step 5 (call.Alloc v 512 (at_index b 1)) (moves.Seg (address 0x2000) 1 0 0 ∷ moves.Alloc (address 0x2000) 512 0 ∷ []) reply.Ok
    ∷ []

-- a third block is refused by the commit limit, and, if the first segment was given back, for want of a run
abbrev pub first_freed : History
first_freed =
    step 6 (call.Alloc v 1024 (at_index b 2)) [] (reply.Refused (refusal.CommitLimit 2 2 3))
    ∷ step 7 (call.Free (at_index b 0)) (moves.Free (address 0x1000) ∷ moves.Unseg (address 0x1000) ∷ []) reply.Ok
    ∷ step 8 (call.Alloc v 1024 (at_index b 2)) [] (reply.Refused (refusal.NoRun 2 1))
    ∷ []

-- two small blocks share a segment, which stays when one of them is freed
abbrev pub sharing : History
sharing =
    step 9 (call.Alloc v 2 (at_index b 2)) (moves.Seg (address 0x1000) 1 0 0 ∷ moves.Alloc (address 0x1000) 2 0 ∷ []) reply.Ok
    ∷ step 10 (call.Alloc v 2 (at_index b 3)) (moves.Alloc (address 0x1010) 2 0 ∷ []) reply.Ok
    ∷ step 11 (call.Free (at_index b 2)) (moves.Free (address 0x1000) ∷ []) reply.Ok
    ∷ step 12 (call.Store (at_index b 3) 1 7) [] reply.Ok
    ∷ step 13 (call.Load (at_index b 3) 1) [] (reply.Number 7)
    ∷ step 14 call.Live [] (reply.Pair 2 514)
    ∷ step 15 (call.Limit 1) [] (reply.Refused refusal.BelowCommitted)
    ∷ []

abbrev pub manual : History
manual = two_blocks ++ (first_freed ++ sharing)

-- a block of zeros that fills a grain
abbrev pub grain_of_zeros : Object
grain_of_zeros = record { pool = 0; body = Manual (replicate 512 0) }

-- the world of the two blocks, with what place 0 has
abbrev pub blocks_world : (first : Option ℕ) → List Segment → (place : Option ℕ) → World
blocks_world first segments place = record {
  graph = record {
    objects = grain_of_zeros ∷ grain_of_zeros ∷ [];
    tables = [];
    areas = [];
    blocks = (first ∷ Some 1 ∷ None ∷ None ∷ []) ∷ [];
    points = [];
    registered = [];
    messages = [];
    labels = [];
    dependents = [];
    transforms = [];
    caches = [];
    frames = [];
    names = record { name = v; thing = PoolThing 0 } ∷ record { name = b; thing = BlocksThing 0 } ∷ [];
  };
  grains = 3;
  limit = 3;
  formats = empty_world.formats;
  pools = record { kind = AnySize; format = 0; chain = None } ∷ [];
  chains = [];
  segments = segments;
  addresses = place ∷ Some 0x2000 ∷ [];
  point_memories = [];
  tails = [];
  state = Unclamped;
  flips = [];
  dependencies = [];
  collection = None;
}

-- the history is legal
abbrev pub ManualIsLegal : Type 0
ManualIsLegal = IsLegalHistory manual
