-- A block that a collection has no room to move stays where it is.
use Rattle.std.specs.Prelude.{List, [], ◌∷◌}
use Rattle.mps_base.specs.declared.moves.Move.{Move}
use Rattle.mps_base.specs.declared.moves.Move.TheVariants as moves
use Rattle.mps_base.specs.declared.names.Kind.TheVariants as kind
use Rattle.mps_base.specs.declared.names.Rank.TheVariants as rank
use Rattle.mps_model.specs.declared.call.Call.TheVariants as call
use Rattle.mps_model.specs.declared.reply.Reply.TheVariants as reply
use Rattle.mps_model.specs.Step.{History}
use Rattle.mps_model.specs.History.{IsLegalHistory}
use Rattle.mps_model_examples.specs.Script.{p, t, x, at_index, address, zones, step}

-- the arena's one grain is held, so there is none to move to
abbrev pub staying_moves : List Move
staying_moves = moves.Flip (zones 2) 16 0 ∷ moves.Stay (address 0x1000) ∷ moves.End ∷ []

abbrev pub staying : History
staying =
    step 1 (call.Arena 1 1) [] reply.Ok
    ∷ step 2 (call.Table t 1) [] reply.Ok
    ∷ step 3 (call.Pool p kind.Amc 3) [] reply.Ok
    ∷ step 4 (call.Point x p rank.Exact) [] reply.Ok
    ∷ step 5 (call.Reserve x 0x203) (moves.Seg (address 0x1000) 1 0 0 ∷ []) reply.Ok
    ∷ step 6 (call.Commit x (at_index t 0)) (moves.Commit (address 0x1000) 2 0 ∷ []) reply.Ok
    ∷ step 7 call.Collect staying_moves reply.Ok
    ∷ step 8 (call.Address (at_index t 0)) [] (reply.Word 0x1000)
    ∷ []

-- the history is legal
abbrev pub StayingIsLegal : Type 0
StayingIsLegal = IsLegalHistory staying
