-- What `run` does.
use Rattle.std.specs.Prelude.{ℕ, ◌≡◌, Bool, true, false, Some, List}
use Rattle.mps_desk.specs.Desk.{Outside, IsSteady, NothingWaits}
use Rattle.mps_report.specs.Reports.{HasReportedEnding, status_of_ending}
use Rattle.mps_log_reader.specs.Ending.{IsUnopened, is_input_verdict}
use Rattle.mps_log_reader.specs.Opening.{OpensNothing}
use Rattle.mps_model.specs.declared.call.Call.{Call}
use Rattle.mps_run.specs.Ending.{Ending, AsksInOrder, HasCause, text_of_bad_line}
use Rattle.mps_run.specs.Leaving.{LeavesRun}
use Rattle.mps_run.specs.LogFile.{IsInFile, IsUnlogged, LogsInto}

-- `run`, on a machine for which these calls take memory
pub record RunsScript (takes_memory : Call → Bool) (log script : List ℕ) (status : ℕ) (old new : Outside) : Type 0 where
  -- there is one ending, which has this status
  pub ends : Ending
  pub status_is : status ≡ status_of_ending ends
  -- just this ending is reported, in one line; with status 0 nothing is
  pub reported : HasReportedEnding text_of_bad_line ends old new
  -- it blames a side of the outside only where the count of the faults of that side rose
  pub cause : HasCause ends old new
  -- by name the script was asked for and then the log, once each, and nothing else
  pub asked : AsksInOrder log script ends old new
  -- a run whose end is that of the script, or a line of it, had no fault but of reporting
  pub steady : is_input_verdict status ≡ true → IsSteady old new
  -- Where the desk knows the script, what was printed and logged is that of one history, which answers the commands of the lines
  -- that were run, and a part of the next command where the log or printing failed.
  pub leaves : (bytes : List ℕ) → old.text script ≡ Some bytes → LeavesRun takes_memory ends bytes old new
  -- and all that was logged and printed is written
  pub written : is_input_verdict status ≡ true → NothingWaits new
  -- where printing failed, all that was logged is
  pub log_written : status ≡ 4 → new.log_waits ≡ false
  -- what was logged is exactly what the log's file holds, and no other file has changed
  pub in_file : is_input_verdict status ≡ true → IsInFile log old new
  -- that holds with any status, unless nothing was logged and no file has changed
  pub filed : LogsInto log old new
  -- a script that is not there is not run: nothing is printed or logged, and no file changes
  pub missing : OpensNothing old script → IsUnopened status old new × IsUnlogged old new
