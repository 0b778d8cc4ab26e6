-- Commands that no other history here has: they read and write objects, areas and slots, and drop an area and a point.
use Rattle.std.specs.Prelude.{ℕ, false, Option, Some, None, List, [], ◌∷◌, ◌++◌}
use Rattle.mps_base.specs.declared.moves.Move.TheVariants as moves
use Rattle.mps_base.specs.declared.names.Kind.TheVariants as kind
use Rattle.mps_base.specs.declared.names.Rank.TheVariants as rank
use Rattle.mps_base.specs.declared.refusal.Refusal.TheVariants as refusal
use Rattle.mps_model.specs.declared.call.Call.TheVariants as call
use Rattle.mps_model.specs.declared.reply.Reply.TheVariants as reply
use Rattle.mps_model.specs.Answer.{Dumped}
use Rattle.mps_model.specs.Step.{Step, History}
use Rattle.mps_model.specs.Graph.{Cell, AreaWord, HeadCell, NumberCell, ReferenceCell, Automatic, TableThing, AreaThing, PoolThing, PointThing}
use Rattle.mps_model.specs.World.{World, Collected, Unclamped, empty_world}
use Rattle.mps_model.specs.History.{IsLegalHistory}
use Rattle.mps_model_examples.specs.Script.{a, p, t, x, at_index, address, step, grain_segment, words}

-- the head of a block of 4 words of the format `mapped`, whose cell 1 is a reference
abbrev pub mapped_head : ℕ
mapped_head = 0x200000402

-- a block in slot 0
abbrev pub one_mapped : History
one_mapped =
    step 1 (call.Arena 8 4) [] reply.Ok
    ∷ step 2 (call.Limit 8) [] reply.Ok
    ∷ step 3 (call.Table t 2) [] reply.Ok
    ∷ step 4 (call.Area a 2) [] reply.Ok
    ∷ step 5 (call.Pool p kind.Amc 2) [] reply.Ok
    ∷ step 6 (call.Point x p rank.Exact) [] reply.Ok
    ∷ step 7 (call.Reserve x mapped_head) (moves.Seg (address 0x1000) 1 0 0 ∷ []) reply.Ok
    ∷ step 8 (call.Commit x (at_index t 0)) (moves.Commit (address 0x1000) 4 0 ∷ []) reply.Ok
    ∷ []

-- it is written, and refers to itself
abbrev pub written : History
written =
    step 9 (call.SetNumber (at_index t 0) 2 5) [] reply.Ok
    ∷ step 10 (call.Put (at_index t 0) 1 (at_index t 0)) [] reply.Ok
    ∷ step 11 (call.Copy (at_index t 1) (at_index t 0)) [] reply.Ok
    ∷ []

abbrev pub dump_step : Step
dump_step = record { line = 14; call = call.Dump 0x1000; moves = []; answer = Dumped (mapped_head ∷ 0x1000 ∷ 5 ∷ 0 ∷ []) }

-- it is read, from the other slot too
abbrev pub read : History
read =
    step 12 (call.Same (at_index t 1) (at_index t 0)) [] reply.Yes
    ∷ step 13 (call.Head (at_index t 1)) [] (reply.Head mapped_head)
    ∷ dump_step
    ∷ []

-- area words are written and read
abbrev pub area_written : History
area_written =
    step 15 (call.Pin (at_index a 0) (at_index t 1)) [] reply.Ok
    ∷ step 16 (call.Poke (at_index a 1) 5) [] reply.Plain
    ∷ step 17 (call.Peek (at_index a 1)) [] (reply.Word 5)
    ∷ []

-- the area and the point are dropped. The block is live still
abbrev pub roots_dropped : History
roots_dropped =
    step 18 (call.DropRoot a) [] reply.Ok
    ∷ step 19 (call.DropPoint x) [] reply.Ok
    ∷ step 20 (call.Clear (at_index t 1)) [] reply.Ok
    ∷ step 21 (call.Get (at_index t 1) (at_index t 1) 1) [] (reply.Refused refusal.NullRef)
    ∷ step 22 call.Live [] (reply.Pair 1 4)
    ∷ []

abbrev pub other_commands : History
other_commands = one_mapped ++ (written ++ (read ++ (area_written ++ roots_dropped)))

-- the world of the block, with its cells, what slot 1 holds, and the words of the area
abbrev pub mapped_world : List Cell → (second : Option ℕ) → List AreaWord → World
mapped_world cells second area = record {
  graph = record {
    objects = record { pool = 0; body = Automatic mapped_head cells false } ∷ [];
    tables = Some (Some 0 ∷ second ∷ []) ∷ [];
    areas = Some area ∷ [];
    blocks = [];
    points = Some (record { pool = 0; rank = rank.Exact; reservation = None }) ∷ [];
    registered = [];
    messages = [];
    labels = [];
    dependents = [];
    transforms = [];
    caches = [];
    frames = [];
    names =
        record { name = t; thing = TableThing 0 }
        ∷ record { name = a; thing = AreaThing 0 }
        ∷ record { name = p; thing = PoolThing 0 }
        ∷ record { name = x; thing = PointThing 0 }
        ∷ [];
  };
  grains = 8;
  limit = 8;
  formats = empty_world.formats;
  pools = record { kind = Collected kind.Amc; format = 2; chain = None } ∷ [];
  chains = [];
  segments = grain_segment 0x1000 0 ∷ [];
  addresses = Some 0x1000 ∷ [];
  point_memories = record { reserved_at = 0x1000; buffer = words 516 508 } ∷ [];
  tails = [];
  state = Unclamped;
  flips = [];
  dependencies = [];
  collection = None;
}

-- the cells before and after they were written
abbrev pub cells_made : List Cell
cells_made = HeadCell ∷ ReferenceCell None 0 ∷ NumberCell 0 ∷ NumberCell 0 ∷ []

abbrev pub written_cells : List Cell
written_cells = HeadCell ∷ ReferenceCell (Some 0) 0 ∷ NumberCell 5 ∷ NumberCell 0 ∷ []

-- the history is legal
abbrev pub OtherCommandsIsLegal : Type 0
OtherCommandsIsLegal = IsLegalHistory other_commands
