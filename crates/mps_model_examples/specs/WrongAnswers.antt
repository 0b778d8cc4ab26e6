-- Histories that are not legal because of an answer.
use Rattle.std.specs.Prelude.{[], ◌∷◌, ◌++◌}
use Rattle.mps_base.specs.declared.moves.Move.TheVariants as moves
use Rattle.mps_base.specs.declared.refusal.Refusal.TheVariants as refusal
use Rattle.mps_model.specs.declared.call.Call.TheVariants as call
use Rattle.mps_model.specs.declared.reply.Reply.TheVariants as reply
use Rattle.mps_model.specs.Step.{Step, History}
use Rattle.mps_model.specs.History.{IsLegalHistory}
use Rattle.mps_model_examples.specs.Script.{d, x, address, step}
use Rattle.mps_model_examples.specs.OneBlock.{prelude}
use Rattle.mps_model_examples.specs.Flipped.{flip_steps, commit_step}
use Rattle.mps_model_examples.specs.Incremental.{linked_started, get_step}
use Rattle.mps_model_examples.specs.FillingGaps.{one_grain}
use Rattle.mps_model_examples.specs.Depending.{depending, block_moved}

-- a history that a step can't follow
abbrev pub CannotFollow : History → Step → Type 0
CannotFollow history s = ¬ IsLegalHistory (history ++ s ∷ [])

-- ---- commit

-- a reservation that no flip ended
abbrev pub reserved : History
reserved = prelude ++ step 5 (call.Reserve x 0x201) (moves.Seg (address 0x1000) 1 0 0 ∷ []) reply.Ok ∷ []

abbrev pub commit_flipped : Step
commit_flipped = commit_step [] reply.Flipped

-- `commit` answers `flipped` if no flip came
abbrev pub FlippedWithoutFlip : Type 0
FlippedWithoutFlip = CannotFollow reserved commit_flipped

-- a reservation that a flip ended
abbrev pub flipped_away : History
flipped_away = prelude ++ flip_steps

abbrev pub commit_with_move : Step
commit_with_move = commit_step (moves.Commit (address 0x1000) 2 0 ∷ []) reply.Ok

abbrev pub commit_without_move : Step
commit_without_move = commit_step [] reply.Ok

-- `commit` answers `ok` across a flip, with its move or without
abbrev pub CommitAcrossFlip : Type 0
CommitAcrossFlip =
    CannotFollow flipped_away commit_with_move × CannotFollow flipped_away commit_without_move

-- ---- refusals if there is no room

abbrev pub limit_beside_gap : Step
limit_beside_gap = step 7 (call.Reserve x 0x403) [] (reply.Refused (refusal.CommitLimit 1 1 1))

-- refused by the commit limit while a gap fits
abbrev pub LimitBesideGap : Type 0
LimitBesideGap = CannotFollow one_grain limit_beside_gap

abbrev pub limit_beside_run : Step
limit_beside_run = step 5 (call.Reserve x 0x201) [] (reply.Refused (refusal.CommitLimit 0 1 8))

abbrev pub no_run_beside_run : Step
no_run_beside_run = step 5 (call.Reserve x 0x201) [] (reply.Refused (refusal.NoRun 1 0))

-- refused by the commit limit, or for want of a run, while a run fits within the limit
abbrev pub LimitBesideRun : Type 0
LimitBesideRun =
    CannotFollow prelude limit_beside_run × CannotFollow prelude no_run_beside_run

-- ---- dependencies

abbrev pub stale : Step
stale = step 11 (call.DependencyStale d) [] reply.Yes

-- `ldstale` can't always answer `yes`
abbrev pub StaleWithoutFlip : Type 0
StaleWithoutFlip = CannotFollow depending stale

-- a dependency on a block that then moved
abbrev pub moved_on : History
moved_on = depending ++ block_moved 11 ∷ []

abbrev pub fresh : Step
fresh = step 12 (call.DependencyStale d) [] reply.No

-- and it can't always answer `no`
abbrev pub FreshAfterMove : Type 0
FreshAfterMove = CannotFollow moved_on fresh

-- ---- the read barrier

abbrev pub get_without_barrier : Step
get_without_barrier = get_step []

-- a `get` hands out a block at its old place
abbrev pub GetOfOldPlace : Type 0
GetOfOldPlace = CannotFollow linked_started get_without_barrier
