-- What a run of a generated script does: it runs the lines of the script as `run` would, logs what happens, and prints the last two
-- answers alone.
use Rattle.std.specs.Prelude.{ℕ, ◌≡◌, ◌+◌, ◌-◌, ◌⊎◌, Bool, false, Ok, Err, List, [], ◌∷◌, ◌++◌, length, take, drop, codes, refl}
use Rattle.std.specs.Fmt.{digits}
use Rattle.mps_desk.specs.Desk.{Outside, Asks, IsSteady, NothingWaits, making}
use Rattle.mps_base.specs.Record.{records_bytes}
use Rattle.mps_model.specs.declared.call.Call.{Call}
use Rattle.mps_model.specs.declared.call.Call.TheVariants as call
use Rattle.mps_model.specs.declared.reply.Reply.TheVariants as reply
use Rattle.mps_model.specs.Answer.{Replied}
use Rattle.mps_model.specs.Step.{Step, History}
use Rattle.mps_model.specs.Log.{written_log, pools_made}
use Rattle.mps_script.specs.Line.{lines_of}
use Rattle.mps_report.specs.Streams.{appended}
use Rattle.mps_report.specs.declared.stop.Stop.TheVariants as stop
use Rattle.mps_report.specs.Reports.{HasReportedEnding, status_of_ending}
use Rattle.mps_run.specs.Ending.{Ending, HasCause, text_of_bad_line}
use Rattle.mps_run.specs.Leaving.{Part, Nothing, IsOfNext, LeavesHeader, NeedsMemory, log_header, logged_of}
use Rattle.mps_run.specs.LogFile.{IsInFile, LogsInto}
use Rattle.mps_run.specs.Script.{Line, HasRun, answers_of, commands_from}
use Rattle.mps_workload.specs.Script.{script}

-- the last two steps
abbrev pub last_two : History → History
last_two history = drop (length history - 2) history

-- what is printed: the answer lines of the last two steps
abbrev pub last_answers : History → List ℕ
last_answers history = answers_of (last_two history)

-- a text is the front of another
pub record IsFront (text whole : List ℕ) : Type 0 where
  pub count : ℕ
  pub is : text ≡ take count whole

-- All lines were run, and of the last two answers this much was printed
pub record PrintsFront (later : List Line) (history : History) (text : List ℕ) : Type 0 where
  pub all : later ≡ []
  pub front : IsFront text (last_answers history)

-- Where it ends, of which these lines were run and those are the others, and what was printed: both answers at the end; a part of them,
-- where printing failed; where the log failed, nothing, or a part of them after all lines were run; nothing at a command for which there
-- is no memory. It ends nowhere else: no line is bad, and there are few enough.
abbrev pub GeneratedEndsAt : (takes_memory : Call → Bool) → Ending → (ran later : List Line) → History → (text : List ℕ) → Type 0
GeneratedEndsAt takes_memory (Ok done) ran later history text = (later ≡ []) × (text ≡ last_answers history)
GeneratedEndsAt takes_memory (Err stop.WriteFailed) ran later history text = PrintsFront later history text
GeneratedEndsAt takes_memory (Err stop.LogFailed) ran later history text = (text ≡ []) ⊎ PrintsFront later history text
GeneratedEndsAt takes_memory (Err stop.OutOfMemory) ran later history text =
    (text ≡ []) × NeedsMemory takes_memory (commands_from (length ran + 1) (take 1 later))
GeneratedEndsAt takes_memory ends ran later history text = ⊥

-- Lines of the script were run, and a history answers their commands. What was logged is the header and the records of that history, and
-- where the log failed perhaps a prefix of the records of the next command.
pub record LeavesGenerated (takes_memory : Call → Bool) (ends : Ending) (header script : List ℕ) (old new : Outside) : Type 0 where
  pub ran : List Line
  pub later : List Line
  pub lines : lines_of script ≡ ran ++ later
  pub history : History
  pub run : HasRun ran history
  pub part : Part
  pub is_part : (part ≡ Nothing) ⊎ (ends ≡ Err stop.LogFailed)
  pub begun : IsOfNext ran later history part
  pub text : List ℕ
  pub printed : new.printed ≡ appended old.printed text
  pub ends_at : GeneratedEndsAt takes_memory ends ran later history text
  pub logged : new.logged ≡ appended old.logged (header ++ (records_bytes (written_log history) ++ logged_of (pools_made history) part))

-- It may end before the log has its header, where the log can't be made and begun.
abbrev pub EndsBeforeLog : Ending → (old new : Outside) → Type 0
EndsBeforeLog (Err stop.LogFailed) old new = LeavesHeader old new
EndsBeforeLog ends old new = ⊥

-- `gen -r`, on a machine for which these calls take memory
pub record RunsGeneratedScript (takes_memory : Call → Bool) (log : List ℕ) (seed count : ℕ) (status : ℕ) (old new : Outside) : Type 0 where
  -- there is one ending, which has this status: 0, or 4, 5 or 8 by what it leaves
  pub ends : Ending
  pub status_is : status ≡ status_of_ending ends
  -- just this ending is reported, in one line; with status 0 nothing is
  pub reported : HasReportedEnding text_of_bad_line ends old new
  -- it blames a side of the outside only where the count of the faults of that side rose
  pub cause : HasCause ends old new
  -- by name the log was asked for, once, and nothing else; nothing was read
  pub asked : Asks old new (making log ∷ [])
  pub unread : new.input ≡ old.input
  pub in_faults : new.in_faults ≡ old.in_faults
  -- what was printed and logged is that of one history, which answers the commands of the generated lines
  pub leaves : EndsBeforeLog ends old new ⊎ LeavesGenerated takes_memory ends log_header (script seed count) old new
  -- with status 0 there was no fault but of reporting, and all that was logged and printed is written
  pub steady : status ≡ 0 → IsSteady old new
  pub written : status ≡ 0 → NothingWaits new
  -- where printing failed, all that was logged is
  pub log_written : status ≡ 4 → new.log_waits ≡ false
  -- what was logged is exactly what the log's file holds, and no other file has changed, unless nothing was logged
  pub in_file : status ≡ 0 → IsInFile log old new
  pub filed : LogsInto log old new

abbrev a_step : (line number : ℕ) → Step
a_step line number = record { line = line; call = call.Committed; moves = []; answer = Replied (reply.Number number) }

pub the_last_two_answers_in_order : last_answers (a_step 1 7 ∷ a_step 2 8 ∷ a_step 3 9 ∷ []) ≡ codes "8\n9\n"
unfolding digits
the_last_two_answers_in_order = refl
