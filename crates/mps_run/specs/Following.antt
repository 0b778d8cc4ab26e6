-- What follows from what a run leaves.
use Rattle.std.specs.Prelude.{ℕ, ◌≡◌, ◌≢◌, Bool, Some, List, ◌++◌}
use Rattle.mps_desk.specs.Desk.{Outside, Files, file_named}
use Rattle.mps_model.specs.Step.{History}
use Rattle.mps_model.specs.Log.{log_bytes}
use Rattle.mps_model.specs.declared.call.Call.{Call}
use Rattle.mps_script.specs.Line.{lines_of}
use Rattle.mps_report.specs.Streams.{appended}
use Rattle.mps_run.specs.Ending.{Ending}
use Rattle.mps_run.specs.Leaving.{RunEndsAt}
use Rattle.mps_run.specs.Script.{Line, HasRun, answers_of}

-- what was printed is what stood printed before, then the answer line of each step of a history of the first lines, and nothing
-- else
pub record Answered (script : List ℕ) (old new : Outside) : Type 0 where
  pub ran : List Line
  pub later : List Line
  pub lines : lines_of script ≡ ran ++ later
  pub history : History
  pub run : HasRun ran history
  pub printed : new.printed ≡ appended old.printed (answers_of history)

-- the script was run to its end, or to the line at which the run ended: besides, what was logged is the header and the records of
-- that history, and nothing else
pub record RanWhole (takes_memory : Call → Bool) (ends : Ending) (script : List ℕ) (old new : Outside) : Type 0 where
  pub answered : Answered script old new
  pub ends_at : RunEndsAt takes_memory ends answered.ran answered.later script new.input
  pub logged : new.logged ≡ appended old.logged (log_bytes answered.history)

-- of these files, the one of this name holds the log of a legal history of the first lines of a script now, and every other
-- file is as it was
pub record HoldsLog (name script : List ℕ) (files : Files) (new : Outside) : Type 0 where
  pub ran : List Line
  pub later : List Line
  pub lines : lines_of script ≡ ran ++ later
  pub history : History
  pub run : HasRun ran history
  pub now : Files
  pub known : new.files ≡ Some now
  pub log : file_named now.all name ≡ Some (log_bytes history)
  pub others : (other : List ℕ) → other ≢ name → file_named now.all other ≡ file_named files.all other
