-- What a run leaves printed and logged, however it ends.
use Rattle.std.specs.Prelude.{ℕ, ◌≡◌, ◌+◌, ◌<◌, ◌≤◌, ◌⊎◌, Bool, false, IsTrue, Option, Some, Ok, Err, List, [], ◌∷◌, ◌++◌, length, take, codes, refl}
use Rattle.mps_desk.specs.Desk.{Outside, HasRisen, OnlyReports}
use Rattle.mps_base.specs.Record.{record_bytes, records_bytes, header_bytes, limit_set_code}
use Rattle.mps_model.specs.declared.call.Call.{Call}
use Rattle.mps_model.specs.declared.call.Call.TheVariants as call
use Rattle.mps_model.specs.declared.reply.Reply.TheVariants as reply
use Rattle.mps_model.specs.Answer.{Replied}
use Rattle.mps_model.specs.FirstCall.{is_arena}
use Rattle.mps_model.specs.Step.{Step, History}
use Rattle.mps_model.specs.Text.{line_of_answer}
use Rattle.mps_model.specs.Log.{records_with_label, pools_made, written_log, written_version}
use Rattle.mps_model.specs.History.{IsLegalHistory}
use Rattle.mps_script.specs.Line.{lines_of}
use Rattle.mps_script.specs.Script.{is_grammatical}
use Rattle.mps_lines.specs.Buffer.{after_lines, length_of_line}
use Rattle.mps_report.specs.Streams.{appended}
use Rattle.mps_report.specs.declared.stop.Stop.TheVariants as stop
use Rattle.mps_run.specs.Ending.{Ending, IsUnbegun}
use Rattle.mps_run.specs.Script.{Line, ScriptCommand, HasRun, answers_of, commands_of, commands_from, max_lines}

-- ---- the part of the next command

-- of the next command nothing was logged or printed; or a prefix of its records, of n bytes, was logged, and nothing of its
-- answer printed; or all its records were logged, and a prefix of its answer, of n bytes, was printed
pub data Part : Type 0 where
  Nothing : Part
  SomeRecords : (step : Step) → (count : ℕ) → Part
  SomeAnswer : (step : Step) → (count : ℕ) → Part

-- the bytes of the records of a step, where n pools were made before it
abbrev pub record_bytes_of : (pools : ℕ) → Step → List ℕ
record_bytes_of pools step = records_bytes (records_with_label pools step)

-- what was logged of it
abbrev pub logged_of : (pools : ℕ) → Part → List ℕ
logged_of pools Nothing = []
logged_of pools (SomeRecords step count) = take count (record_bytes_of pools step)
logged_of pools (SomeAnswer step count) = record_bytes_of pools step

-- what was printed of it
abbrev pub printed_of : Part → List ℕ
printed_of Nothing = []
printed_of (SomeRecords step count) = []
printed_of (SomeAnswer step count) = take count (line_of_answer step.answer)

-- a call that was to print failed: printing did, or the log did, whose bytes are written before
pub record StopsPrinting (ends : Ending) (old new : Outside) : Type 0 where
  pub blames : (ends ≡ Err stop.WriteFailed) ⊎ (ends ≡ Err stop.LogFailed)
  pub fault : HasRisen old.out_faults new.out_faults

-- there is a part of the records only where the log failed, and of the answer only where a call that was to print failed
abbrev pub IsPartAt : Ending → Part → (old new : Outside) → Type 0
IsPartAt ends Nothing old new = Unit {0}
IsPartAt ends (SomeRecords step count) old new = ends ≡ Err stop.LogFailed
IsPartAt ends (SomeAnswer step count) old new = StopsPrinting ends old new

-- the command of the next line was begun: this is a step of it that is legal after the history
pub record Begins (ran later : List Line) (history : History) (step : Step) : Type 0 where
  pub commands : commands_of (history ++ step ∷ []) ≡ commands_from 1 (ran ++ take 1 later)
  pub legal : IsLegalHistory (history ++ step ∷ [])

-- the part is one of the next command
abbrev pub IsOfNext : (ran later : List Line) → History → Part → Type 0
IsOfNext ran later history Nothing = Unit {0}
IsOfNext ran later history (SomeRecords step count) = Begins ran later history step
IsOfNext ran later history (SomeAnswer step count) = Begins ran later history step

-- ---- where a run ends

-- there is one command here, and it is one that takes memory
pub record NeedsMemory (takes_memory : Call → Bool) (commands : List ScriptCommand) : Type 0 where
  pub command : ScriptCommand
  pub is : commands ≡ command ∷ []
  pub takes : IsTrue (takes_memory command.call)

-- A fault of reading after n lines. What is still unread is a suffix of the script, and what had come between the lines that
-- were run and that suffix has no line feed: no whole line was dropped.
pub record StopsReading (lines : ℕ) (script : List ℕ) (input : Option (List ℕ)) : Type 0 where
  pub part : List ℕ
  pub unread : List ℕ
  pub left : input ≡ Some unread
  pub parts : after_lines lines script ≡ part ++ unread
  pub unfinished : length_of_line part ≡ length part

-- where a run ends, of which these lines were run and those are the others: at their end; before a line with which they are no
-- script; where they are too many; at a command for which there is no memory; or between two lines, where a read failed
abbrev pub RunEndsAt : (takes_memory : Call → Bool) → Ending → (ran later : List Line) → (script : List ℕ) → (input : Option (List ℕ))
    → Type 0
RunEndsAt takes_memory (Ok done) ran later script input = later ≡ []
RunEndsAt takes_memory (Err (stop.Bad bad)) ran later script input =
    (bad.line ≡ length ran + 1) × (bad.line ≤ max_lines) × (is_grammatical (ran ++ take 1 later) ≡ false)
RunEndsAt takes_memory (Err stop.TooLong) ran later script input = (length ran ≡ max_lines) × (0 < length later)
RunEndsAt takes_memory (Err stop.OutOfMemory) ran later script input = NeedsMemory takes_memory
    (commands_from (length ran + 1) (take 1 later))
RunEndsAt takes_memory (Err stop.ReadFailed) ran later script input = StopsReading (length ran) script input
RunEndsAt takes_memory (Err stop.LogFailed) ran later script input = Unit {0}
RunEndsAt takes_memory (Err stop.WriteFailed) ran later script input = Unit {0}

-- ---- what a run leaves

-- Lines of the script were run, and a history answers their commands. What was printed is the answer line of each of its steps;
-- what was logged is the header and the records of that history; and after both there may be a part of the next command.
pub record Leaves (takes_memory : Call → Bool) (ends : Ending) (header script : List ℕ) (old new : Outside) : Type 0 where
  pub ran : List Line
  pub later : List Line
  pub lines : lines_of script ≡ ran ++ later
  pub history : History
  pub run : HasRun ran history
  pub part : Part
  pub is_part : IsPartAt ends part old new
  pub begun : IsOfNext ran later history part
  pub ends_at : RunEndsAt takes_memory ends ran later script new.input
  pub printed : new.printed ≡ appended old.printed (answers_of history ++ printed_of part)
  pub logged : new.logged ≡ appended old.logged (header ++ (records_bytes (written_log history) ++ logged_of (pools_made history) part))

-- the header of a log
abbrev pub log_header : List ℕ
log_header = header_bytes written_version

-- nothing was printed, and a prefix of the header was logged, or nothing
pub record LeavesHeader (old new : Outside) : Type 0 where
  pub printed : new.printed ≡ old.printed
  pub count : ℕ
  pub logged : new.logged ≡ appended old.logged (take count log_header)

-- A run may end before the log has its header: where memory runs out (before anything else happens), the script can't be opened,
-- or the log can't be made and begun.
abbrev pub EndsBefore : Ending → (old new : Outside) → Type 0
EndsBefore (Err stop.OutOfMemory) old new = OnlyReports old new
EndsBefore (Err stop.ReadFailed) old new = IsUnbegun old new
EndsBefore (Err stop.LogFailed) old new = LeavesHeader old new
EndsBefore ends old new = ⊥

-- what a whole run leaves
abbrev pub LeavesRun : (takes_memory : Call → Bool) → Ending → (script : List ℕ) → (old new : Outside) → Type 0
LeavesRun takes_memory ends script old new = EndsBefore ends old new ⊎ Leaves takes_memory ends log_header script old new

-- where memory is taken for nothing but an arena
pub an_arena_takes_memory : NeedsMemory is_arena (commands_from 1 (codes "arena 8 8" ∷ []))
an_arena_takes_memory = record { command = record { line = 1; call = call.Arena 8 8 }; is = refl; takes = refl }

pub a_limit_has_one_record :
    record_bytes_of 0 (record { line = 3; call = call.Limit 8; moves = []; answer = Replied reply.Ok })
    ≡ record_bytes (record { line = 3; code = limit_set_code; fields = 8 ∷ [] })
a_limit_has_one_record = refl
