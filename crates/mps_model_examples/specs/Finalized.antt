-- A block that was registered twice: two messages, each after a collection that found it unreachable, and then it is freed.
use Rattle.std.specs.Prelude.{ℕ, ◌/◌, ◌+◌, false, Some, None, List, [], ◌∷◌, ◌++◌}
use Rattle.mps_base.specs.Run.{Run}
use Rattle.mps_base.specs.declared.moves.Move.{Move}
use Rattle.mps_base.specs.declared.moves.Move.TheVariants as moves
use Rattle.mps_base.specs.declared.names.Kind.TheVariants as kind
use Rattle.mps_base.specs.declared.names.Rank.TheVariants as rank
use Rattle.mps_model.specs.declared.call.Call.TheVariants as call
use Rattle.mps_model.specs.declared.reply.Reply.TheVariants as reply
use Rattle.mps_model.specs.Step.{History}
use Rattle.mps_model.specs.Graph.{HeadCell, NumberCell, Automatic, TableThing, PoolThing, PointThing}
use Rattle.mps_model.specs.World.{World, Collected, ArenaState, Unclamped, Tail, empty_world}
use Rattle.mps_model.specs.Posts.{AreWholePosts}
use Rattle.mps_model.specs.History.{IsLegalHistory}
use Rattle.mps_model_examples.specs.Script.{t, p, x, at_index, address, zones, step}
use Rattle.mps_model_examples.specs.OneBlock.{prelude}

-- a block at 0x1000 is registered twice, and dropped
abbrev pub registering : History
registering =
    prelude
    ++ step 5 (call.Reserve x 0x201) (moves.Seg (address 0x1000) 1 0 0 ∷ []) reply.Ok
    ∷ step 6 (call.Commit x (at_index t 0)) (moves.Commit (address 0x1000) 2 0 ∷ []) reply.Ok
    ∷ step 7 (call.Finalize (at_index t 0)) [] reply.Ok
    ∷ step 8 (call.Finalize (at_index t 0)) [] reply.Ok
    ∷ step 9 (call.Clear (at_index t 0)) [] reply.Ok
    ∷ []

-- a flip of these zones, and the unreachable block is moved to a new segment and posted
abbrev pub posting_moves : (flipped from to : ℕ) → List Move
posting_moves flipped from to =
    moves.Flip (zones flipped) 16 0
    ∷ moves.Seg (address to) 1 0 0
    ∷ moves.Moved (address from) (address to)
    ∷ moves.Post (address to)
    ∷ moves.Unseg (address from)
    ∷ moves.End
    ∷ []

abbrev pub first_message : History
first_message =
    step 10 call.Collect (posting_moves 2 0x1000 0x2000) reply.Ok
    ∷ step 11 (call.Message (at_index t 0)) [] reply.Ok
    ∷ step 12 (call.Message (at_index t 1)) [] reply.None_
    ∷ step 13 (call.Clear (at_index t 0)) [] reply.Ok
    ∷ []

abbrev pub second_message : History
second_message =
    step 14 call.Collect (posting_moves 4 0x2000 0x1000) reply.Ok
    ∷ step 15 (call.Message (at_index t 0)) [] reply.Ok
    ∷ step 16 (call.Clear (at_index t 0)) [] reply.Ok
    ∷ []

-- the block goes, and its segment
abbrev pub freeing_moves : List Move
freeing_moves = moves.Flip (zones 2) 16 0 ∷ moves.Free (address 0x1000) ∷ moves.Unseg (address 0x1000) ∷ moves.End ∷ []

abbrev pub freeing : History
freeing =
    step 17 call.Collect freeing_moves reply.Ok
    ∷ step 18 (call.Message (at_index t 0)) [] reply.None_
    ∷ step 19 call.Live [] (reply.Pair 0 0)
    ∷ []

abbrev pub finalized : History
finalized = registering ++ (first_message ++ (second_message ++ freeing))

-- a message waits for the client to take it
abbrev pub waiting : History
waiting = registering ++ step 10 call.Collect (posting_moves 2 0x1000 0x2000) reply.Ok ∷ []

-- the dropped block at a place, with its registrations and messages, and with buffers, tails and what collections left
abbrev pub dropped_block : (registered messages : List ℕ) → (place : ℕ) → (buffer : Run) → List Tail → (flips : List ℕ) → ArenaState → World
dropped_block registered messages place buffer tails flips state = record {
  graph = record {
    objects = record { pool = 0; body = Automatic 0x201 (HeadCell ∷ NumberCell 0 ∷ []) false } ∷ [];
    tables = Some (None ∷ None ∷ None ∷ None ∷ []) ∷ [];
    areas = [];
    blocks = [];
    points = Some (record { pool = 0; rank = rank.Exact; reservation = None }) ∷ [];
    registered = registered;
    messages = messages;
    labels = [];
    dependents = [];
    transforms = [];
    caches = [];
    frames = [];
    names =
        record { name = t; thing = TableThing 0 }
        ∷ record { name = p; thing = PoolThing 0 }
        ∷ record { name = x; thing = PointThing 0 }
        ∷ [];
  };
  grains = 8;
  limit = 8;
  formats = empty_world.formats;
  pools = record { kind = Collected kind.Amc; format = 1; chain = None } ∷ [];
  chains = [];
  segments = record { base = place; grains = 1; pool = 0; generation = 0; rank = rank.Exact } ∷ [];
  addresses = Some place ∷ [];
  point_memories = record { reserved_at = 0x1000; buffer = buffer } ∷ [];
  tails = tails;
  state = state;
  flips = flips;
  dependencies = [];
  collection = None;
}

-- the rest of a segment after the block at its base
abbrev pub rest_after : (place : ℕ) → Run
rest_after place = record { from = place / 8 + 2; count = 510 }

abbrev pub tail_after : (place : ℕ) → List Tail
tail_after place = record { pool = 0; generation = 0; words = rest_after place } ∷ []

-- the history is legal
abbrev pub FinalizedIsLegal : Type 0
FinalizedIsLegal = IsLegalHistory finalized

-- the world before the first collection: the block is registered twice
abbrev pub twice_registered : World
twice_registered = dropped_block (0 ∷ 0 ∷ []) [] 0x1000 (rest_after 0x1000) [] [] Unclamped

-- a whole collection posts it once: neither twice nor never
pub record PostsAreExact : Type 0 where
  pub once : AreWholePosts twice_registered (0 ∷ [])
  pub not_twice : ¬ AreWholePosts twice_registered (0 ∷ 0 ∷ [])
  pub not_never : ¬ AreWholePosts twice_registered []
