-- A registered block of a marking pool is posted where it lies.
use Rattle.std.specs.Prelude.{List, [], ◌∷◌}
use Rattle.mps_base.specs.declared.moves.Move.{Move}
use Rattle.mps_base.specs.declared.moves.Move.TheVariants as moves
use Rattle.mps_base.specs.declared.names.Kind.TheVariants as kind
use Rattle.mps_base.specs.declared.names.Rank.TheVariants as rank
use Rattle.mps_model.specs.declared.call.Call.TheVariants as call
use Rattle.mps_model.specs.declared.reply.Reply.TheVariants as reply
use Rattle.mps_model.specs.Step.{History}
use Rattle.mps_model.specs.History.{IsLegalHistory}
use Rattle.mps_model_examples.specs.Script.{p, t, x, at_index, address, zones, step}

abbrev pub posting_in_place : List Move
posting_in_place = moves.Flip (zones 0) 16 0 ∷ moves.Post (address 0x1000) ∷ moves.End ∷ []

abbrev pub posted_in_place : History
posted_in_place =
    step 1 (call.Arena 8 8) [] reply.Ok
    ∷ step 2 (call.Table t 2) [] reply.Ok
    ∷ step 3 (call.Pool p kind.Ams 1) [] reply.Ok
    ∷ step 4 (call.Point x p rank.Exact) [] reply.Ok
    ∷ step 5 (call.Reserve x 0x201) (moves.Seg (address 0x1000) 1 0 0 ∷ []) reply.Ok
    ∷ step 6 (call.Commit x (at_index t 0)) (moves.Commit (address 0x1000) 2 0 ∷ []) reply.Ok
    ∷ step 7 (call.Finalize (at_index t 0)) [] reply.Ok
    ∷ step 8 (call.Clear (at_index t 0)) [] reply.Ok
    ∷ step 9 call.Collect posting_in_place reply.Ok
    ∷ step 10 (call.Message (at_index t 0)) [] reply.Ok
    ∷ step 11 (call.Message (at_index t 1)) [] reply.None_
    ∷ step 12 (call.Address (at_index t 0)) [] (reply.Word 0x1000)
    ∷ []

-- the history is legal
abbrev pub PostedInPlaceIsLegal : Type 0
PostedInPlaceIsLegal = IsLegalHistory posted_in_place
