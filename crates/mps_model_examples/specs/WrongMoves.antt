-- Histories that are not legal because of a move.
use Rattle.std.specs.Prelude.{false, Some, None, List, [], ◌∷◌, ◌++◌}
use Rattle.mps_base.specs.declared.moves.Move.{Move}
use Rattle.mps_base.specs.declared.moves.Move.TheVariants as moves
use Rattle.mps_base.specs.declared.names.Kind.TheVariants as kind
use Rattle.mps_base.specs.declared.names.Rank.TheVariants as rank
use Rattle.mps_model.specs.declared.call.Call.TheVariants as call
use Rattle.mps_model.specs.declared.reply.Reply.TheVariants as reply
use Rattle.mps_model.specs.Graph.{HeadCell, NumberCell, Automatic, TableThing, PoolThing, PointThing}
use Rattle.mps_model.specs.World.{World, Collected, Unclamped, empty_run, empty_world}
use Rattle.mps_model.specs.Step.{Step, History}
use Rattle.mps_model_examples.specs.Script.{a, p, t, x, at_index, address, zones, step}
use Rattle.mps_model_examples.specs.OneBlock.{one_block}
use Rattle.mps_model_examples.specs.Weak.{weak_pair}
use Rattle.mps_model_examples.specs.Finalized.{registering, first_message, waiting}
use Rattle.mps_model_examples.specs.Incremental.{linked}
use Rattle.mps_model_examples.specs.CollectingInOrder.{weak_and_linked, collect_linked}
use Rattle.mps_model_examples.specs.WrongAnswers.{CannotFollow}

-- a weak reference is splatted whose target is in a slot
abbrev pub splat_of_held : Step
splat_of_held = step 11 call.Collect (moves.Flip (zones 0) 16 0 ∷ moves.Splat (address 0x2000) 1 ∷ moves.End ∷ []) reply.Ok

abbrev pub SplatOfReachable : Type 0
SplatOfReachable = CannotFollow weak_pair splat_of_held

-- one registration is left, and the block is posted twice
abbrev pub one_registration : History
one_registration = registering ++ first_message

abbrev pub two_posts_moves : List Move
two_posts_moves =
    moves.Flip (zones 4) 16 0
    ∷ moves.Seg (address 0x1000) 1 0 0
    ∷ moves.Moved (address 0x2000) (address 0x1000)
    ∷ moves.Post (address 0x1000)
    ∷ moves.Post (address 0x1000)
    ∷ moves.Unseg (address 0x2000)
    ∷ moves.End
    ∷ []

abbrev pub two_posts : Step
two_posts = step 14 call.Collect two_posts_moves reply.Ok

abbrev pub TwoPostsForOne : Type 0
TwoPostsForOne = CannotFollow one_registration two_posts

-- an area word lies in the block at 0x1000
abbrev pub poked_history : History
poked_history =
    one_block
    ++ step 9 (call.Area a 1) [] reply.Ok
    ∷ step 10 (call.Poke (at_index a 0) 0x1010) [] reply.Block
    ∷ []

-- and the block is moved
abbrev pub move_of_pinned : Step
move_of_pinned =
    step 11 call.Start (moves.Flip (zones 2) 16 0 ∷ moves.Seg (address 0x2000) 1 0 0 ∷ moves.Moved (address 0x1000) (address 0x2000)
    ∷ []) reply.Ok

abbrev pub MoveOfPinned : Type 0
MoveOfPinned = CannotFollow poked_history move_of_pinned

-- and its block is freed
abbrev pub free_of_waiting : Step
free_of_waiting =
    step 11 call.Collect (moves.Flip (zones 4) 16 0 ∷ moves.Free (address 0x2000) ∷ moves.Unseg (address 0x2000) ∷ moves.End ∷ []) reply.Ok

abbrev pub FreeOfWaiting : Type 0
FreeOfWaiting = CannotFollow waiting free_of_waiting

-- a block stays though there is room for it
abbrev pub stay_beside_room : Step
stay_beside_room = step 9 call.Collect (moves.Flip (zones 2) 16 0 ∷ moves.Stay (address 0x1000) ∷ moves.End ∷ []) reply.Ok

abbrev pub StayBesideRoom : Type 0
StayBesideRoom = CannotFollow one_block stay_beside_room

-- of two linked blocks of a copying pool the first is moved, and the second only marked where it lies
abbrev pub marked_in_place : Step
marked_in_place =
    step 11 call.Collect
    (moves.Flip (zones 2) 16 0 ∷ moves.Seg (address 0x2000) 1 0 0 ∷ moves.Moved (address 0x1018) (address 0x2000) ∷ moves.End ∷ []) reply.Ok

abbrev pub MarkedInPlace : Type 0
MarkedInPlace = CannotFollow linked marked_in_place

-- a block of a marking pool that nothing holds
abbrev pub unreachable : History
unreachable =
    step 1 (call.Arena 8 8) [] reply.Ok
    ∷ step 2 (call.Table t 1) [] reply.Ok
    ∷ step 3 (call.Pool p kind.Ams 1) [] reply.Ok
    ∷ step 4 (call.Point x p rank.Exact) [] reply.Ok
    ∷ step 5 (call.Reserve x 0x201) (moves.Seg (address 0x1000) 1 0 0 ∷ []) reply.Ok
    ∷ step 6 (call.Commit x (at_index t 0)) (moves.Commit (address 0x1000) 2 0 ∷ []) reply.Ok
    ∷ step 7 (call.Clear (at_index t 0)) [] reply.Ok
    ∷ []

-- the world with that block
abbrev pub unreachable_world : World
unreachable_world = record {
  graph = record {
    objects = record { pool = 0; body = Automatic 0x201 (HeadCell ∷ NumberCell 0 ∷ []) false } ∷ [];
    tables = Some (None ∷ []) ∷ [];
    areas = [];
    blocks = [];
    points = Some (record { pool = 0; rank = rank.Exact; reservation = None }) ∷ [];
    registered = [];
    messages = [];
    labels = [];
    dependents = [];
    transforms = [];
    caches = [];
    frames = [];
    names =
        record { name = t; thing = TableThing 0 }
        ∷ record { name = p; thing = PoolThing 0 }
        ∷ record { name = x; thing = PointThing 0 }
        ∷ [];
  };
  grains = 8;
  limit = 8;
  formats = empty_world.formats;
  pools = record { kind = Collected kind.Ams; format = 1; chain = None } ∷ [];
  chains = [];
  segments = record { base = 0x1000; grains = 1; pool = 0; generation = 0; rank = rank.Exact } ∷ [];
  addresses = Some 0x1000 ∷ [];
  point_memories = record { reserved_at = 0x1000; buffer = empty_run } ∷ [];
  tails = [];
  state = Unclamped;
  flips = [];
  dependencies = [];
  collection = None;
}

-- a collection that doesn't tell of its freeing
abbrev pub unknown_free : Step
unknown_free = step 8 call.Collect (moves.Flip (zones 0) 16 0 ∷ moves.End ∷ []) reply.Ok

abbrev pub UnknownFree : Type 0
UnknownFree = CannotFollow unreachable unknown_free

-- a block is moved after a splat
abbrev pub move_after_splat : Step
move_after_splat =
    collect_linked
    (moves.Splat (address 0x2010) 1
    ∷ moves.Moved (address 0x1000) (address 0x3018)
    ∷ moves.Unseg (address 0x1000)
    ∷ moves.Free (address 0x2000)
    ∷ moves.End
    ∷ [])

abbrev pub MoveAfterSplat : Type 0
MoveAfterSplat = CannotFollow weak_and_linked move_after_splat
