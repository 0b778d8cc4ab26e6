-- A whole collection posts a message for each registered block that is lost, and frees each other block that is.
use Rattle.std.specs.Prelude.{ℕ, [], ◌∷◌, ◌++◌}
use Rattle.mps_base.specs.declared.moves.Move.TheVariants as moves
use Rattle.mps_model.specs.declared.call.Call.TheVariants as call
use Rattle.mps_model.specs.declared.reply.Reply.TheVariants as reply
use Rattle.mps_model.specs.Step.{Step, History}
use Rattle.mps_model_examples.specs.Script.{t, at_index, address, zones, step}
use Rattle.mps_model_examples.specs.KeptReferences.{weakly_linked, drop_block, IsTwin}

-- nothing is posted and nothing freed
abbrev pub collect_nothing : (line : ℕ) → Step
collect_nothing line = step line call.Collect (moves.Flip (zones 0) 16 0 ∷ moves.End ∷ []) reply.Ok

-- a registered block to which a weak reference alone leads
abbrev pub registered : History
registered = weakly_linked ++ step 12 (call.Finalize (at_index t 0)) [] reply.Ok ∷ drop_block 13 ∷ []

abbrev pub collect_and_post : Step
collect_and_post = step 14 call.Collect (moves.Flip (zones 0) 16 0 ∷ moves.Post (address 0x1000) ∷ moves.End ∷ []) reply.Ok

-- no message is posted, and it is
abbrev pub RegisteredWithoutPost : Type 0
RegisteredWithoutPost = IsTwin registered (collect_nothing 14) collect_and_post

-- the same block without a registration
abbrev pub dead : History
dead = weakly_linked ++ drop_block 12 ∷ []

abbrev pub collect_dead : Step
collect_dead =
    step 13 call.Collect
    (moves.Flip (zones 0) 16 0
    ∷ moves.Splat (address 0x2000) 1
    ∷ moves.Free (address 0x1000)
    ∷ moves.Unseg (address 0x1000)
    ∷ moves.End
    ∷ []) reply.Ok

-- the block stays, and it is freed
abbrev pub DeadBlockStays : Type 0
DeadBlockStays = IsTwin dead (collect_nothing 13) collect_dead
