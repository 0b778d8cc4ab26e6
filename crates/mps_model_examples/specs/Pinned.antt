-- An area word that lies in a block keeps it alive and in place.
use Rattle.std.specs.Prelude.{[], ◌∷◌}
use Rattle.mps_base.specs.declared.moves.Move.TheVariants as moves
use Rattle.mps_base.specs.declared.names.Kind.TheVariants as kind
use Rattle.mps_base.specs.declared.names.Rank.TheVariants as rank
use Rattle.mps_model.specs.declared.call.Call.TheVariants as call
use Rattle.mps_model.specs.declared.reply.Reply.TheVariants as reply
use Rattle.mps_model.specs.Step.{History}
use Rattle.mps_model.specs.History.{IsLegalHistory}
use Rattle.mps_model_examples.specs.Script.{a, p, t, x, at_index, address, zones, step}

-- a word of the area lies in the block's second word, and no slot holds the block when it is collected. It is there to take
-- afterwards, where it was
abbrev pub pinned : History
pinned =
    step 1 (call.Arena 8 8) [] reply.Ok
    ∷ step 2 (call.Table t 1) [] reply.Ok
    ∷ step 3 (call.Area a 1) [] reply.Ok
    ∷ step 4 (call.Pool p kind.Amc 3) [] reply.Ok
    ∷ step 5 (call.Point x p rank.Exact) [] reply.Ok
    ∷ step 6 (call.Reserve x 0x403) (moves.Seg (address 0x1000) 1 0 0 ∷ []) reply.Ok
    ∷ step 7 (call.Commit x (at_index t 0)) (moves.Commit (address 0x1000) 4 0 ∷ []) reply.Ok
    ∷ step 8 (call.Poke (at_index a 0) 0x1008) [] reply.Block
    ∷ step 9 (call.Clear (at_index t 0)) [] reply.Ok
    ∷ step 10 call.Collect (moves.Flip (zones 2) 16 0 ∷ moves.End ∷ []) reply.Ok
    ∷ step 11 (call.Peek (at_index a 0)) [] (reply.Word 0x1008)
    ∷ step 12 (call.Take (at_index t 0) (at_index a 0)) [] reply.Ok
    ∷ step 13 (call.Address (at_index t 0)) [] (reply.Word 0x1000)
    ∷ []

-- the history is legal
abbrev pub PinnedIsLegal : Type 0
PinnedIsLegal = IsLegalHistory pinned
