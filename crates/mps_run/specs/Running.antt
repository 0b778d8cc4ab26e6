-- One line of a run: what a machine does of it, and what stops the run there.
use Rattle.std.specs.Prelude.{ℕ, ◌≡◌, ◌+◌, ◌≤◌, Bool, IsTrue, true, false, All, Ok, Err, List, [], ◌∷◌, length, map, take}
use Rattle.mps_desk.specs.Desk.{Outside}
use Rattle.mps_base.specs.Record.{records_bytes}
use Rattle.mps_event.specs.declared.version.Version.TheVariants.{Two}
use Rattle.mps_event.specs.Grammar.{IsRecord}
use Rattle.mps_model.specs.declared.call.Call.{Call}
use Rattle.mps_model.specs.Answer.{Answer}
use Rattle.mps_model.specs.Step.{Step, History}
use Rattle.mps_model.specs.Log.{labelled_log_from, pools_made}
use Rattle.mps_model.specs.World.{World}
use Rattle.mps_model.specs.History.{IsLegalFrom, world_after_steps}
use Rattle.mps_commands.specs.Asked.{has_arena}
use Rattle.mps_script.specs.Line.{call_of_line}
use Rattle.mps_script.specs.Script.{is_good_after, has_arena_after}
use Rattle.mps_report.specs.Streams.{appended}
use Rattle.mps_report.specs.declared.stop.Stop.{Stop}
use Rattle.mps_report.specs.declared.stop.Stop.TheVariants as stop
use Rattle.mps_run.specs.declared.bad_script_line.BadScriptLine.{BadScriptLine}
use Rattle.mps_run.specs.declared.progress.Progress.{Progress}
use Rattle.mps_run.specs.Ending.{Ending}
use Rattle.mps_run.specs.Leaving.{Part, Nothing, SomeRecords, SomeAnswer, IsPartAt, NeedsMemory, StopsPrinting, logged_of, printed_of}
use Rattle.mps_run.specs.Script.{Line, ScriptCommand, answers_of, answer_of_step, commands_of, command_of_step, commands_of_call}

-- before the first line
abbrev pub not_begun : Progress
not_begun = record { lines = 0; has_arena = false; pools = 0 }

-- The machine represents some world that a run which came so far can have: in it no more flips came than lines were run, and the
-- arena was made if the run has its arena.
pub record HasComeTo (stood : World → Type 0) (p : Progress) : Type 0 where
  pub world : World
  pub stands : stood world
  pub flips : length world.flips ≤ p.lines
  pub arena : has_arena world ≡ p.has_arena

-- the machine made steps that answer these commands, in each world for which it stood: they are legal, and the machine stands for
-- the world after them
pub record HasAnswered (stood stands_now : World → Type 0) (commands : List ScriptCommand) (steps : History) : Type 0 where
  pub answers : commands_of steps ≡ commands
  pub legal : (w : World) → stood w → IsLegalFrom w steps
  pub stands : (w : World) → stood w → stands_now (world_after_steps w steps)

-- steps were made that answer these commands; what was logged is their records, and what was printed the answer line of each
pub record StepsRan (stood stands_now : World → Type 0) (commands : List ScriptCommand) (before after : ℕ)
    (old new : Outside) : Type 0 where
  pub steps : History
  pub answered : HasAnswered stood stands_now commands steps
  -- how many pools were made before and after
  pub pools : after ≡ before + pools_made steps
  pub at_most : after ≤ before + 1
  pub logged : new.logged ≡ appended old.logged (records_bytes (labelled_log_from before steps))
  pub printed : new.printed ≡ appended old.printed (answers_of steps)
  -- these records are such as a log may hold
  pub recorded : All (IsRecord Two) (labelled_log_from before steps)

-- steps were made that answer these commands, and these are their answers; what was logged is their records
pub record StepsLogged (stood stands_now : World → Type 0) (commands : List ScriptCommand) (answers : List Answer)
    (before after : ℕ) (old new : Outside) : Type 0 where
  pub steps : History
  pub answered : HasAnswered stood stands_now commands steps
  pub told : map answer_of_step steps ≡ answers
  -- how many pools were made before and after
  pub pools : after ≡ before + pools_made steps
  pub at_most : after ≤ before + 1
  pub logged : new.logged ≡ appended old.logged (records_bytes (labelled_log_from before steps))
  -- these records are such as a log may hold
  pub recorded : All (IsRecord Two) (labelled_log_from before steps)

-- the line after those that were run is good, and its command was answered, where it has one
pub record LineRan (stood stands_now : World → Type 0) (before after : Progress) (line : Line) (old new : Outside)
    : Type 0 where
  pub good : is_good_after before.has_arena line ≡ true
  pub lines : after.lines ≡ before.lines + 1
  pub arena : after.has_arena ≡ has_arena_after before.has_arena (call_of_line line)
  pub ran : StepsRan stood stands_now (commands_of_call (before.lines + 1) (call_of_line line)) before.pools after.pools old new

-- the same, and these are the answers of its command, which are not printed yet
pub record LineLogged (stood stands_now : World → Type 0) (answers : List Answer) (before after : Progress) (line : Line)
    (old new : Outside) : Type 0 where
  pub good : is_good_after before.has_arena line ≡ true
  pub lines : after.lines ≡ before.lines + 1
  pub arena : after.has_arena ≡ has_arena_after before.has_arena (call_of_line line)
  pub logs : StepsLogged stood stands_now (commands_of_call (before.lines + 1) (call_of_line line)) answers before.pools after.pools
      old new

-- ---- what stops a run

-- a command was begun: there is a step of it that is legal in each world for which the machine stood
pub record IsBegun (stood : World → Type 0) (commands : List ScriptCommand) (step : Step) : Type 0 where
  pub answers : command_of_step step ∷ [] ≡ commands
  pub legal : (w : World) → stood w → IsLegalFrom w (step ∷ [])

-- the part is one of these commands
abbrev pub IsPartOf : (stood : World → Type 0) → List ScriptCommand → Part → Type 0
IsPartOf stood commands Nothing = Unit {0}
IsPartOf stood commands (SomeRecords step count) = IsBegun stood commands step
IsPartOf stood commands (SomeAnswer step count) = IsBegun stood commands step

-- of these commands no more than a part was logged and printed, where n pools were made before
pub record StopsWithin (why : Stop BadScriptLine) (stood : World → Type 0) (commands : List ScriptCommand) (pools : ℕ)
    (old new : Outside) : Type 0 where
  pub part : Part
  pub is_part : IsPartAt (Err why) part old new
  pub begun : IsPartOf stood commands part
  pub printed : new.printed ≡ appended old.printed (printed_of part)
  pub logged : new.logged ≡ appended old.logged (logged_of pools part)

-- the reason is one that this line may have
abbrev pub IsReason : (takes_memory : Call → Bool) → Stop BadScriptLine → Progress → Line → Type 0
IsReason takes_memory stop.OutOfMemory p line = NeedsMemory takes_memory (commands_of_call (p.lines + 1) (call_of_line line))
IsReason takes_memory (stop.Bad bad) p line = (bad.line ≡ p.lines + 1) × (is_good_after p.has_arena line ≡ false)
IsReason takes_memory stop.LogFailed p line = Unit {0}
IsReason takes_memory stop.WriteFailed p line = Unit {0}
IsReason takes_memory why p line = ⊥

-- the line after those that were run stops the run
pub record LineStops (takes_memory : Call → Bool) (why : Stop BadScriptLine) (stood : World → Type 0) (p : Progress) (line : Line)
    (old new : Outside) : Type 0 where
  pub reason : IsReason takes_memory why p line
  pub within : StopsWithin why stood (commands_of_call (p.lines + 1) (call_of_line line)) p.pools old new

-- ---- one command

-- a prefix of an answer was printed, and a call that was to print failed
pub record PrintsSomeAnswer (answer : List ℕ) (why : Stop BadScriptLine) (old new : Outside) : Type 0 where
  pub count : ℕ
  pub printed : new.printed ≡ appended old.printed (take count answer)
  pub stops : StopsPrinting (Err why) old new

-- an answer is printed, or a part of it. That may also be where the log fails, as its bytes are written before the answer.
abbrev pub PrintsOrStops : (answer : List ℕ) → Ending → (old new : Outside) → Type 0
PrintsOrStops answer (Ok done) old new = (new.printed ≡ appended old.printed answer) × (new.logged ≡ old.logged)
PrintsOrStops answer (Err why) old new = PrintsSomeAnswer answer why old new × (new.logged ≡ old.logged)

-- the reason is one that a command may have
abbrev pub IsReasonOfCall : (takes_memory : Call → Bool) → Stop BadScriptLine → Call → Type 0
IsReasonOfCall takes_memory stop.OutOfMemory call = IsTrue (takes_memory call)
IsReasonOfCall takes_memory stop.LogFailed call = Unit {0}
IsReasonOfCall takes_memory stop.WriteFailed call = Unit {0}
IsReasonOfCall takes_memory why call = ⊥

-- a command stops the run
pub record CommandStops (takes_memory : Call → Bool) (why : Stop BadScriptLine) (stood : World → Type 0) (line : ℕ) (call : Call)
    (pools : ℕ) (old new : Outside) : Type 0 where
  pub reason : IsReasonOfCall takes_memory why call
  pub within : StopsWithin why stood (record { line = line; call = call } ∷ []) pools old new
