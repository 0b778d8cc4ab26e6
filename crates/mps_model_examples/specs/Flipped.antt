-- A reservation that a flip ended: `commit` answers `flipped`, and the point is free again.
use Rattle.std.specs.Prelude.{List, [], ◌∷◌, ◌++◌}
use Rattle.mps_base.specs.declared.moves.Move.{Move}
use Rattle.mps_base.specs.declared.moves.Move.TheVariants as moves
use Rattle.mps_base.specs.declared.refusal.Refusal.TheVariants as refusal
use Rattle.mps_model.specs.declared.call.Call.TheVariants as call
use Rattle.mps_model.specs.declared.reply.Reply.{Reply}
use Rattle.mps_model.specs.declared.reply.Reply.TheVariants as reply
use Rattle.mps_model.specs.Step.{Step, History}
use Rattle.mps_model.specs.History.{IsLegalHistory}
use Rattle.mps_model_examples.specs.Script.{t, x, at_index, address, zones, step}
use Rattle.mps_model_examples.specs.OneBlock.{prelude}

-- a reservation, and a collection that finds its segment empty
abbrev pub flip_steps : History
flip_steps =
    step 5 (call.Reserve x 0x201) (moves.Seg (address 0x1000) 1 0 0 ∷ []) reply.Ok
    ∷ step 6 call.Collect (moves.Flip (zones 2) 16 0 ∷ moves.Unseg (address 0x1000) ∷ moves.End ∷ []) reply.Ok
    ∷ step 7 (call.InitNumber x 1 5) [] reply.Ok
    ∷ []

-- the commit after the flip
abbrev pub commit_step : List Move → Reply → Step
commit_step made said = step 8 (call.Commit x (at_index t 0)) made said

abbrev pub flipped : History
flipped =
    prelude
    ++ flip_steps
    ++ commit_step [] reply.Flipped
    ∷ step 9 (call.Commit x (at_index t 0)) [] (reply.Refused refusal.NotOpen)
    ∷ step 10 call.Committed [] (reply.Number 0)
    ∷ []

-- the history is legal
abbrev pub FlippedIsLegal : Type 0
FlippedIsLegal = IsLegalHistory flipped
