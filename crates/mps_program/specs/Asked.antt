-- What the program does, by what its words ask for. In the files of the outside a script, a log to read and a text are
-- found by their names; `-` is standard input.
use Rattle.std.specs.Prelude.{ℕ, ◌≡◌, ◌≢◌, ◌⊎◌, true, codes, Option, Some, None, List, [], ◌∷◌, refl}
use Rattle.mps_desk.specs.Desk.{Outside, NothingWaits}
use Rattle.mps_report.specs.declared.stop.Stop.TheVariants as stop
use Rattle.mps_report.specs.Reports.{report_of, ReportsStatus}
use Rattle.mps_report.specs.Streams.{Prints, Reports}
use Rattle.mps_run.specs.BadLog.{text_of_bad_log}
use Rattle.mps_run.specs.Causes.{AsksWith, StatusIsJustified}
use Rattle.mps_run.specs.LogReaderEnding.{IsUnopened, is_input_verdict}
use Rattle.mps_run.specs.Opening.{OpensNothing}
use Rattle.mps_tools.specs.BadReplay.{text_of_bad_replay}
use Rattle.mps_tools.specs.Listed.{ListedWith, IsUniqueList, ListsPart}
use Rattle.mps_tools.specs.BadTextLine.{text_of_bad_line as text_of_bad_text_line}
use Rattle.mps_tools.specs.Text.{ReadWith, IsCutShort as IsCutShortText, IsUniqueReading}
use Rattle.mps_tools.specs.Converted.{ConvertedWith, ConvertsUntilReadFault, ConvertsUntilWriteFault, IsUniqueConversion}
use Rattle.mps_tools.specs.Ending.{FailsWithin}
use Rattle.mps_tools.specs.Script.{script as generated_script}
use Rattle.mps_args.specs.Meaning.{Meaning, Runs, Converts, Reads, Lists, Generates, RunsGenerated}
use Rattle.mps_args.specs.Words.{meaning}
use Rattle.mps_session.specs.Memory.{call_takes_memory}
use Rattle.mps_run.specs.Leaving.{LeavesRun, log_header}
use Rattle.mps_run.specs.LogFile.{IsInFile}
use Rattle.mps_run.specs.Run.{RunsScript}
use Rattle.mps_generated.specs.Run.{RunsGeneratedScript, EndsBeforeLog, LeavesGenerated}

-- what is reported of words without a meaning
abbrev pub usage : List ℕ
usage = codes "mps: usage: run, cnv, txt, blocks or gen\n"

-- the status is 2, and only the line of the usage was reported: nothing else happened
pub record ReportsUsage (status : ℕ) (old new : Outside) : Type 0 where
  pub status_is : status ≡ 2
  pub reports : Reports old new usage

-- `cnv`
pub record ConvertsLog (log : List ℕ) (kinds : ℕ) (status : ℕ) (old new : Outside) : Type 0 where
  -- the status is one of a reader, and blames a side only where the count of its faults rose; the log and the files stay
  pub justified : StatusIsJustified old new status
  -- this log was asked for by name, and nothing else
  pub asked : AsksWith log old new status
  -- a log that the desk knows: the portable text of its records of these kinds was printed, up to the end or to the fault
  -- that is reported
  pub converted : is_input_verdict status ≡ true → (bytes : List ℕ) → old.text log ≡ Some bytes → ConvertedWith kinds bytes status old new
  -- and nothing else
  pub unique : is_input_verdict status ≡ true → (bytes : List ℕ) → old.text log ≡ Some bytes → IsUniqueConversion kinds bytes status old new
  -- where a read failed, the text of the whole records that had come was printed; a prefix of that, where a write failed too
  pub broken : status ≡ 3 → (bytes : List ℕ) → old.text log ≡ Some bytes → ConvertsUntilReadFault kinds bytes old new
  -- a log that is not there is not read, and nothing is printed
  pub missing : OpensNothing old log → IsUnopened status old new
  -- out of memory comes only before anything else happens
  pub no_memory : status ≡ 8 → Reports old new (report_of text_of_bad_log stop.OutOfMemory)
  -- where a write failed, a prefix of the text was printed
  pub cut : status ≡ 4 → (bytes : List ℕ) → old.text log ≡ Some bytes → ConvertsUntilWriteFault kinds bytes old new
  -- just the ending that has this status is reported
  pub reported : ReportsStatus text_of_bad_log status old new

-- `txt`
pub record ReadsText (text : List ℕ) (status : ℕ) (old new : Outside) : Type 0 where
  -- the status is one of a reader, and blames a side only where the count of its faults rose; the log and the files stay
  pub justified : StatusIsJustified old new status
  -- this text was asked for by name, and nothing else
  pub asked : AsksWith text old new status
  -- a text that the desk knows: its readable text was printed, line by line, up to the end or to the line that is reported
  pub sound : (bytes : List ℕ) → old.text text ≡ Some bytes → ReadWith bytes status old new
  -- and nothing else
  pub unique : is_input_verdict status ≡ true → (bytes : List ℕ) → old.text text ≡ Some bytes → IsUniqueReading bytes status old new
  -- where a write failed, a prefix of the readable text of the first lines was printed
  pub cut : status ≡ 4 → (bytes : List ℕ) → old.text text ≡ Some bytes → IsCutShortText bytes old new
  -- a text that is not there is not read, and nothing is printed
  pub missing : OpensNothing old text → IsUnopened status old new
  -- just the ending that has this status is reported
  pub reported : ReportsStatus text_of_bad_text_line status old new

-- `blocks`
pub record ListsBlocks (log : List ℕ) (status : ℕ) (old new : Outside) : Type 0 where
  -- the status is one of a reader, and blames a side only where the count of its faults rose; the log and the files stay
  pub justified : StatusIsJustified old new status
  -- this log was asked for by name, and nothing else
  pub asked : AsksWith log old new status
  -- a log that the desk knows: the blocks that its replay leaves live were printed, or nothing and the fault is reported
  pub listed : is_input_verdict status ≡ true → (bytes : List ℕ) → old.text log ≡ Some bytes → ListedWith bytes status old new
  -- and nothing else
  pub unique : is_input_verdict status ≡ true → (bytes : List ℕ) → old.text log ≡ Some bytes → IsUniqueList bytes status old new
  -- nothing is printed before all was read and replayed
  pub silent : status ≢ 0 → status ≢ 4 → new.printed ≡ old.printed
  -- where a write failed, a prefix of the list was printed
  pub cut : status ≡ 4 → (bytes : List ℕ) → old.text log ≡ Some bytes → ListsPart bytes old new
  -- a log that is not there is not read, and nothing is printed
  pub missing : OpensNothing old log → IsUnopened status old new
  -- just the ending that has this status is reported
  pub reported : ReportsStatus text_of_bad_replay status old new

-- `gen`
pub record GeneratesScript (seed count : ℕ) (status : ℕ) (old new : Outside) : Type 0 where
  pub statuses : (status ≡ 0) ⊎ (status ≡ 4) ⊎ (status ≡ 8)
  -- nothing was asked for by name
  pub asked : new.asked ≡ old.asked
  -- all of the script was printed, and nothing else happened
  pub whole : status ≡ 0 → Prints old new (generated_script seed count)
  -- and it is written
  pub written : status ≡ 0 → NothingWaits new
  -- a prefix of the script was printed, a write failed, and that was reported
  pub cut : status ≡ 4 → FailsWithin old new (generated_script seed count)
  -- only that there is no memory was reported
  pub no_memory : status ≡ 8 → Reports old new (codes "mps: out of memory\n")

-- what is done with a status, by what the words ask for
abbrev pub DoesAsAsked : Option Meaning → (status : ℕ) → (old new : Outside) → Type 0
DoesAsAsked None status old new = ReportsUsage status old new
DoesAsAsked (Some (Runs log script)) status old new = RunsScript call_takes_memory log script status old new
DoesAsAsked (Some (Converts log kinds)) status old new = ConvertsLog log kinds status old new
DoesAsAsked (Some (Reads text)) status old new = ReadsText text status old new
DoesAsAsked (Some (Lists log)) status old new = ListsBlocks log status old new
DoesAsAsked (Some (Generates seed count)) status old new = GeneratesScript seed count status old new
DoesAsAsked (Some (RunsGenerated log seed count)) status old new = RunsGeneratedScript call_takes_memory log seed count status old new

pub help_prints_nothing : (status : ℕ) (old new : Outside) → DoesAsAsked (meaning (codes "run" ∷ codes "--help" ∷ [])) status old new
    → new.printed ≡ old.printed
help_prints_nothing status old new does = does.reports.others.printed

pub no_words_have_status_2 : (status : ℕ) (old new : Outside) → DoesAsAsked (meaning []) status old new → status ≡ 2
no_words_have_status_2 status old new does = does.status_is

pub a_log_by_its_name : (old new : Outside) → DoesAsAsked (meaning (codes "run" ∷ codes "-o" ∷ codes "a" ∷ codes "s" ∷ [])) 0 old new
    → IsInFile (codes "a") old new
a_log_by_its_name old new does = does.in_file refl

pub a_script_by_its_name : (old new : Outside) (bytes : List ℕ)
    → (does : DoesAsAsked (meaning (codes "run" ∷ codes "-o" ∷ codes "a" ∷ codes "s" ∷ [])) 0 old new)
    → old.text (codes "s") ≡ Some bytes → LeavesRun call_takes_memory does.ends bytes old new
a_script_by_its_name old new bytes does is_known = does.leaves bytes is_known

pub a_log_is_converted_whole : (old new : Outside) (bytes : List ℕ)
    → DoesAsAsked (meaning (codes "cnv" ∷ codes "-k" ∷ codes "seg,object" ∷ [])) 0 old new
    → old.text (codes "mpsio.log") ≡ Some bytes → ConvertedWith 40 bytes 0 old new
a_log_is_converted_whole old new bytes does is_known = does.converted refl bytes is_known

pub a_missing_text_prints_nothing : (status : ℕ) (old new : Outside)
    → DoesAsAsked (meaning (codes "txt" ∷ codes "-l" ∷ codes "a" ∷ [])) status old new
    → OpensNothing old (codes "a") → new.printed ≡ old.printed
a_missing_text_prints_nothing status old new does nothing = (does.missing nothing).1

pub a_missing_log_lists_nothing : (status : ℕ) (old new : Outside) → DoesAsAsked (meaning (codes "blocks" ∷ [])) status old new
    → OpensNothing old (codes "mpsio.log") → new.printed ≡ old.printed
a_missing_log_lists_nothing status old new does nothing = (does.missing nothing).1

pub a_script_is_generated : (old new : Outside) → DoesAsAsked (meaning (codes "gen" ∷ codes "7" ∷ codes "0" ∷ [])) 0 old new
    → Prints old new (generated_script 7 0)
a_script_is_generated old new does = does.whole refl

pub a_generated_script_is_run : (old new : Outside)
    → (does : DoesAsAsked (meaning (codes "gen" ∷ codes "-r" ∷ codes "7" ∷ codes "0" ∷ [])) 0 old new)
    → EndsBeforeLog does.ends old new ⊎ LeavesGenerated call_takes_memory does.ends log_header (generated_script 7 0) old new
a_generated_script_is_run old new does = does.leaves
