-- Histories that are not legal because of which moves a call makes.
use Rattle.std.specs.Prelude.{[], ◌∷◌, ◌++◌}
use Rattle.mps_base.specs.declared.moves.Move.TheVariants as moves
use Rattle.mps_base.specs.declared.names.Kind.TheVariants as kind
use Rattle.mps_base.specs.declared.names.Rank.TheVariants as rank
use Rattle.mps_model.specs.declared.call.Call.TheVariants as call
use Rattle.mps_model.specs.declared.reply.Reply.TheVariants as reply
use Rattle.mps_model.specs.Step.{Step, History}
use Rattle.mps_model.specs.History.{IsLegalHistory}
use Rattle.mps_model_examples.specs.Script.{p, q, t, v, w, x, y, at_index, address, zones, step}
use Rattle.mps_model_examples.specs.OneBlock.{one_block}
use Rattle.mps_model_examples.specs.Copying.{copying_moves}
use Rattle.mps_model_examples.specs.Polled.{clamped, clamped_reserve}
use Rattle.mps_model_examples.specs.Reclaiming.{two_to_reclaim, one_unit}
use Rattle.mps_model_examples.specs.WeakReadEitherWay.{weakly_held}
use Rattle.mps_model_examples.specs.WrongAnswers.{CannotFollow}

-- `collect` does nothing
abbrev pub idle_collect : Step
idle_collect = step 9 call.Collect [] reply.Ok

abbrev pub CollectWithoutMoves : Type 0
CollectWithoutMoves = CannotFollow one_block idle_collect

-- `start` does the whole collection
abbrev pub whole_start : Step
whole_start = step 9 call.Start copying_moves reply.Ok

abbrev pub StartDoesAll : Type 0
StartDoesAll = CannotFollow one_block whole_start

-- one unit is asked, and two segments are reclaimed
abbrev pub two_reclaimed : Step
two_reclaimed =
    one_unit 13
    (moves.Free (address 0x1000)
    ∷ moves.Unseg (address 0x1000)
    ∷ moves.Free (address 0x2000)
    ∷ moves.Unseg (address 0x2000)
    ∷ moves.End
    ∷ []) reply.Idle

abbrev pub TwoUnitsForOne : Type 0
TwoUnitsForOne = CannotFollow two_to_reclaim two_reclaimed

-- three blocks of marking pools, in a segment each, that nothing holds, and a collection that was begun
abbrev pub three_to_reclaim : History
three_to_reclaim =
    step 1 (call.Arena 8 8) [] reply.Ok
    ∷ step 2 (call.Table t 1) [] reply.Ok
    ∷ step 3 (call.Pool p kind.Ams 1) [] reply.Ok
    ∷ step 4 (call.Pool q kind.Ams 1) [] reply.Ok
    ∷ step 5 (call.Pool v kind.Ams 1) [] reply.Ok
    ∷ step 6 (call.Point x p rank.Exact) [] reply.Ok
    ∷ step 7 (call.Point y q rank.Exact) [] reply.Ok
    ∷ step 8 (call.Point w v rank.Exact) [] reply.Ok
    ∷ step 9 (call.Reserve x 0x201) (moves.Seg (address 0x1000) 1 0 0 ∷ []) reply.Ok
    ∷ step 10 (call.Commit x (at_index t 0)) (moves.Commit (address 0x1000) 2 0 ∷ []) reply.Ok
    ∷ step 11 (call.Reserve y 0x201) (moves.Seg (address 0x2000) 1 1 0 ∷ []) reply.Ok
    ∷ step 12 (call.Commit y (at_index t 0)) (moves.Commit (address 0x2000) 2 1 ∷ []) reply.Ok
    ∷ step 13 (call.Reserve w 0x201) (moves.Seg (address 0x3000) 1 2 0 ∷ []) reply.Ok
    ∷ step 14 (call.Commit w (at_index t 0)) (moves.Commit (address 0x3000) 2 2 ∷ []) reply.Ok
    ∷ step 15 (call.Clear (at_index t 0)) [] reply.Ok
    ∷ step 16 call.Start (moves.Flip (zones 0) 16 0 ∷ []) reply.Ok
    ∷ []

-- the segment in the middle is reclaimed first
abbrev pub middle_reclaimed : Step
middle_reclaimed = one_unit 17 (moves.Free (address 0x2000) ∷ moves.Unseg (address 0x2000) ∷ []) reply.More

abbrev pub middle_first : History
middle_first = three_to_reclaim ++ middle_reclaimed ∷ []

-- and then the lower one
abbrev pub lower_reclaimed : Step
lower_reclaimed = one_unit 18 (moves.Free (address 0x1000) ∷ moves.Unseg (address 0x1000) ∷ []) reply.More

-- a segment may be passed over, but none below the last one is reclaimed
pub record ReclaimedDownwards : Type 0 where
  pub middle_is_legal : IsLegalHistory middle_first
  pub not_then_lower : CannotFollow middle_first lower_reclaimed

-- a unit scans the weak object as an exact one
abbrev pub weak_scanned : Step
weak_scanned =
    step 14 (call.Step 1) (moves.Seg (address 0x3000) 1 0 0 ∷ moves.Moved (address 0x1000) (address 0x3000) ∷ []) reply.More

abbrev pub WeakScannedAsExact : Type 0
WeakScannedAsExact = CannotFollow weakly_held weak_scanned

-- a `reserve` polls in a clamped arena
abbrev pub clamped_poll : Step
clamped_poll =
    clamped_reserve
    (moves.Flip (zones 6) 0 0
    ∷ moves.Seg (address 0x3000) 2 0 0
    ∷ moves.Moved (address 0x1000) (address 0x3000)
    ∷ moves.Seg (address 0x5000) 1 0 0
    ∷ [])

abbrev pub PollWhereClamped : Type 0
PollWhereClamped = CannotFollow clamped clamped_poll
