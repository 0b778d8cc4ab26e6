-- How a run ends, what is reported of it, and the fault that is its cause.
use Rattle.std.specs.Prelude.{ℕ, ◌≡◌, ◌≤◌, ◌⊎◌, [], ◌∷◌, Bool, true, false, codes, decimal, Result, Ok, Err, List, ◌++◌, refl}
use Rattle.std.specs.Fmt.{digits}
use Rattle.mps_desk.specs.Desk.{Outside, HasRisen, Asks, Request, opening, making}
use Rattle.mps_report.specs.declared.stop.Stop.{Stop}
use Rattle.mps_report.specs.declared.stop.Stop.TheVariants as stop
use Rattle.mps_report.specs.Causes.{CauseOf}
use Rattle.mps_report.specs.Reports.{status_of_ending}
use Rattle.mps_log_reader.specs.Ending.{is_input_verdict}
use Rattle.mps_run.specs.declared.bad_script_line.BadScriptLine.{BadScriptLine}

-- a run was done, or it stopped
abbrev pub Ending : Type 0
Ending = Result (Unit {0}) (Stop BadScriptLine)

-- what is reported of a bad line
abbrev pub text_of_bad_line : BadScriptLine → List ℕ
text_of_bad_line bad = codes "mps: script line " ++ (decimal bad.line ++ codes ": bad line\n")

-- where an ending blames a side of the outside, the count of the faults of that side rose
abbrev pub HasCause : Ending → (old new : Outside) → Type 0
HasCause (Ok done) old new = Unit {0}
HasCause (Err why) old new = CauseOf old new why

-- no call of the desk failed and there was memory: the input was read to its end, or to a line at which a run ends
abbrev pub is_verdict : Ending → Bool
is_verdict ending = is_input_verdict (status_of_ending ending)

-- a side of the outside failed: then the run ends at once
abbrev pub is_fault : Ending → Bool
is_fault (Err stop.ReadFailed) = true
is_fault (Err stop.LogFailed) = true
is_fault (Err stop.WriteFailed) = true
is_fault ending = false

-- one of these
abbrev pub IsFault : Stop BadScriptLine → Type 0
IsFault why = (why ≡ stop.ReadFailed) ⊎ (why ≡ stop.LogFailed) ⊎ (why ≡ stop.WriteFailed)

-- the script is to be opened and then the log made
abbrev pub requests_of_run : (log script : List ℕ) → List Request
requests_of_run log script = opening script ∷ making log ∷ []

-- By name the script was asked for and then the log, once each, and nothing else. Nothing was asked for only where there was
-- no memory, and the log wasn't only where the script couldn't be opened.
abbrev pub AsksInOrder : (log script : List ℕ) → Ending → (old new : Outside) → Type 0
AsksInOrder log script (Err stop.OutOfMemory) old new = Asks old new [] ⊎ Asks old new (requests_of_run log script)
AsksInOrder log script (Err stop.ReadFailed) old new = Asks old new (opening script ∷ []) ⊎ Asks old new (requests_of_run log script)
AsksInOrder log script ending old new = Asks old new (requests_of_run log script)

-- no count of faults fell
pub record CountsGrow (old new : Outside) : Type 0 where
  pub in_faults : old.in_faults ≤ new.in_faults
  pub log_faults : old.log_faults ≤ new.log_faults
  pub out_faults : old.out_faults ≤ new.out_faults
  pub err_faults : old.err_faults ≤ new.err_faults

-- no count of faults rose: of reading, of printing, of the log
pub record NoFaultRose (old new : Outside) : Type 0 where
  pub reading : ¬ HasRisen old.in_faults new.in_faults
  pub printing : ¬ HasRisen old.out_faults new.out_faults
  pub logging : ¬ HasRisen old.log_faults new.log_faults

-- nothing was printed or logged
pub record IsUnbegun (old new : Outside) : Type 0 where
  pub printed : new.printed ≡ old.printed
  pub logged : new.logged ≡ old.logged

-- a part of a run: no count of faults fell, and nothing was reported
pub record RunsOn (old new : Outside) : Type 0 where
  pub counts : CountsGrow old new
  pub reported : new.reported ≡ old.reported
  pub err_faults : new.err_faults ≡ old.err_faults

pub a_bad_line_is_known : text_of_bad_line (record { line = 12 }) ≡ codes "mps: script line 12: bad line\n"
unfolding digits
a_bad_line_is_known = refl
