-- A script whose one block is copied by a collection.
use Rattle.std.specs.Prelude.{◌≡◌, Some, List, [], ◌∷◌, ◌++◌, length}
use Rattle.mps_base.specs.declared.moves.Move.{Move}
use Rattle.mps_base.specs.declared.moves.Move.TheVariants as moves
use Rattle.mps_model.specs.declared.call.Call.TheVariants as call
use Rattle.mps_model.specs.declared.reply.Reply.TheVariants as reply
use Rattle.mps_model.specs.Answer.{Dumped}
use Rattle.mps_model.specs.Step.{Step, History}
use Rattle.mps_model.specs.Log.{log_of, log_bytes}
use Rattle.mps_model.specs.Replay.{Store, replay}
use Rattle.mps_model.specs.History.{IsLegalHistory, world_after_history, live_blocks}
use Rattle.mps_model_examples.specs.Script.{t, at_index, address, zones, step}
use Rattle.mps_model_examples.specs.OneBlock.{one_block}

-- the block moves to a new segment, the old one is given back, and the collection ends
abbrev pub copying_moves : List Move
copying_moves =
    moves.Flip (zones 2) 16 0
    ∷ moves.Seg (address 0x2000) 1 0 0
    ∷ moves.Moved (address 0x1000) (address 0x2000)
    ∷ moves.Unseg (address 0x1000)
    ∷ moves.End
    ∷ []

abbrev pub dump_step : Step
dump_step = record { line = 13; call = call.Dump 0x2000; moves = []; answer = Dumped (0x100000301 ∷ 0 ∷ 7 ∷ []) }

-- what follows the first block
abbrev pub copying_steps : History
copying_steps =
    step 9 (call.Address (at_index t 0)) [] (reply.Word 0x1000)
    ∷ step 10 call.Collect copying_moves reply.Ok
    ∷ step 11 (call.Address (at_index t 0)) [] (reply.Word 0x2000)
    ∷ step 12 call.Committed [] (reply.Number 1)
    ∷ dump_step
    ∷ []

abbrev pub copying : History
copying = one_block ++ copying_steps

-- the history is legal
abbrev pub CopyingIsLegal : Type 0
CopyingIsLegal = IsLegalHistory copying

-- the block where it lies at the end
abbrev pub copied_block : Store
copied_block = record { at = 0x2000; words = 3; pool = 0 } ∷ []

-- its log has 256 bytes, and replaying it gives the live blocks
pub record CopyingIsReplayed : Type 0 where
  pub bytes : length (log_bytes copying) ≡ 256
  pub replayed : replay (log_of copying) ≡ Some copied_block
  pub live : live_blocks (world_after_history copying) ≡ copied_block
