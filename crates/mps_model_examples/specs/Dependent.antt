-- A weak reference is splatted, and the reference in the same cell of its holder's dependent goes with it.
use Rattle.std.specs.Prelude.{ℕ, true, false, Option, Some, None, List, [], ◌∷◌, ◌++◌}
use Rattle.mps_base.specs.declared.moves.Move.{Move}
use Rattle.mps_base.specs.declared.moves.Move.TheVariants as moves
use Rattle.mps_base.specs.declared.names.Kind.TheVariants as kind
use Rattle.mps_base.specs.declared.names.Rank.TheVariants as rank
use Rattle.mps_base.specs.declared.refusal.Refusal.TheVariants as refusal
use Rattle.mps_model.specs.declared.call.Call.TheVariants as call
use Rattle.mps_model.specs.declared.reply.Reply.TheVariants as reply
use Rattle.mps_model.specs.Step.{Step, History}
use Rattle.mps_model.specs.Graph.{HeadCell, NumberCell, ReferenceCell, Automatic, TableThing, PoolThing, PointThing}
use Rattle.mps_model.specs.World.{World, Collected, ArenaState, empty_run, empty_world}
use Rattle.mps_model.specs.History.{IsLegalHistory}
use Rattle.mps_model_examples.specs.Script.{t, w, x, y, at_index, address, zones, step}
use Rattle.mps_model_examples.specs.WrongAnswers.{CannotFollow}

-- a key at 0x1000 in slot 0; an object at 0x1010 in slot 2, which refers to itself; and a weak object at 0x2000 in slot 1, which refers
-- to the key and has the second as its dependent
abbrev pub key_and_value : History
key_and_value =
    step 1 (call.Arena 8 8) [] reply.Ok
    ∷ step 2 (call.Table t 3) [] reply.Ok
    ∷ step 3 (call.Pool w kind.Awl 1) [] reply.Ok
    ∷ step 4 (call.Point x w rank.Exact) [] reply.Ok
    ∷ step 5 (call.Point y w rank.Weak) [] reply.Ok
    ∷ step 6 (call.Reserve x 0x201) (moves.Seg (address 0x1000) 1 0 0 ∷ []) reply.Ok
    ∷ step 7 (call.Commit x (at_index t 0)) (moves.Commit (address 0x1000) 2 0 ∷ []) reply.Ok
    ∷ step 8 (call.Reserve x 0x100000201) [] reply.Ok
    ∷ step 9 (call.Commit x (at_index t 2)) (moves.Commit (address 0x1010) 2 0 ∷ []) reply.Ok
    ∷ step 10 (call.Put (at_index t 2) 1 (at_index t 2)) [] reply.Ok
    ∷ step 11 (call.Reserve y 0x100000201) (moves.Seg (address 0x2000) 1 0 0 ∷ []) reply.Ok
    ∷ step 12 (call.InitReference y 1 (at_index t 0)) [] reply.Ok
    ∷ step 13 (call.Commit y (at_index t 1)) (moves.Commit (address 0x2000) 2 0 ∷ []) reply.Ok
    ∷ step 14 (call.Depend (at_index t 1) (at_index t 2)) [] reply.Ok
    ∷ step 15 (call.Clear (at_index t 0)) [] reply.Ok
    ∷ []

-- the three objects in the world, with what the weak one and its dependent refer to
abbrev pub key_world : (key value : Option ℕ) → (addresses : List (Option ℕ)) → (flips : List ℕ) → ArenaState → World
key_world key value addresses flips state = record {
  graph = record {
    objects =
        record { pool = 0; body = Automatic 0x201 (HeadCell ∷ NumberCell 0 ∷ []) false }
        ∷ record { pool = 0; body = Automatic 0x100000201 (HeadCell ∷ ReferenceCell value 0 ∷ []) false }
        ∷ record { pool = 0; body = Automatic 0x100000201 (HeadCell ∷ ReferenceCell key 0 ∷ []) true }
        ∷ [];
    tables = Some (None ∷ Some 2 ∷ Some 1 ∷ []) ∷ [];
    areas = [];
    blocks = [];
    points =
        Some (record { pool = 0; rank = rank.Exact; reservation = None })
        ∷ Some (record { pool = 0; rank = rank.Weak; reservation = None })
        ∷ [];
    registered = [];
    messages = [];
    labels = [];
    dependents = (2, 1) ∷ [];
    transforms = [];
    caches = [];
    frames = [];
    names =
        record { name = t; thing = TableThing 0 }
        ∷ record { name = w; thing = PoolThing 0 }
        ∷ record { name = x; thing = PointThing 0 }
        ∷ record { name = y; thing = PointThing 1 }
        ∷ [];
  };
  grains = 8;
  limit = 8;
  formats = empty_world.formats;
  pools = record { kind = Collected kind.Awl; format = 1; chain = None } ∷ [];
  chains = [];
  segments =
      record { base = 0x1000; grains = 1; pool = 0; generation = 0; rank = rank.Exact }
      ∷ record { base = 0x2000; grains = 1; pool = 0; generation = 0; rank = rank.Weak }
      ∷ [];
  addresses = addresses;
  point_memories = record { reserved_at = 0x1010; buffer = empty_run } ∷ record { reserved_at = 0x2000; buffer = empty_run } ∷ [];
  tails = [];
  state = state;
  flips = flips;
  dependencies = [];
  collection = None;
}

abbrev pub key_goes : List Move
key_goes =
    moves.Flip (zones 0) 16 0
    ∷ moves.Splat (address 0x2000) 1
    ∷ moves.Free (address 0x1000)
    ∷ moves.End
    ∷ []

abbrev pub collect_step : Step
collect_step = step 16 call.Collect key_goes reply.Ok

abbrev pub get_value : Step
get_value = step 17 (call.Get (at_index t 0) (at_index t 2) 1) [] reply.Ok

-- the value's reference went with the key; the pair stays until it is taken away
abbrev pub value_gone : History
value_gone =
    get_value
    ∷ step 18 (call.Null (at_index t 0)) [] reply.Yes
    ∷ step 19 (call.Undepend (at_index t 1)) [] reply.Ok
    ∷ step 20 (call.Undepend (at_index t 1)) [] (reply.Refused refusal.NotLinked)
    ∷ step 21 (call.Depend (at_index t 2) (at_index t 1)) [] (reply.Refused refusal.WrongPool)
    ∷ []

abbrev pub dependent : History
dependent = key_and_value ++ (collect_step ∷ value_gone)

-- the history is legal
abbrev pub DependentIsLegal : Type 0
DependentIsLegal = IsLegalHistory dependent

-- ---- histories that aren't legal

abbrev pub value_there : Step
value_there = step 18 (call.Null (at_index t 0)) [] reply.No

-- the value isn't left by the splat
abbrev pub NoValueIsLeft : Type 0
NoValueIsLeft = CannotFollow (key_and_value ++ collect_step ∷ get_value ∷ []) value_there

-- the weak object is freed too, and another is made at its address
abbrev pub holder_gone : History
holder_gone =
    key_and_value
    ++ step 16 (call.Clear (at_index t 1)) [] reply.Ok
    ∷ step 17 call.Collect (moves.Flip (zones 0) 16 0 ∷ moves.Free (address 0x1000) ∷ moves.Free (address 0x2000)
    ∷ moves.Unseg (address 0x2000) ∷ moves.End ∷ []) reply.Ok
    ∷ step 18 (call.Reserve y 0x100000201) (moves.Seg (address 0x2000) 1 0 0 ∷ []) reply.Ok
    ∷ step 19 (call.Commit y (at_index t 1)) (moves.Commit (address 0x2000) 2 0 ∷ []) reply.Ok
    ∷ []

abbrev pub pair_left : Step
pair_left = step 20 (call.Undepend (at_index t 1)) [] reply.Ok

-- its pair doesn't outlive it
abbrev pub NoPairOutlivesItsHolder : Type 0
NoPairOutlivesItsHolder = CannotFollow holder_gone pair_left
