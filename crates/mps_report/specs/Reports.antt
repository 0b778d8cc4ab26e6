-- Why a program stops, with what it reports then and its status.
use Rattle.std.specs.Prelude.{◌≡◌, ℕ, codes, List, Result, Ok, Err, ◌++◌}
use Rattle.std.specs.Option.{option_map}
use Rattle.mps_desk.specs.Desk.{Outside}
use Rattle.mps_report.specs.Streams.{HasReported}
use Rattle.mps_report.specs.declared.stop.Stop.{Stop}
use Rattle.mps_report.specs.declared.stop.Stop.TheVariants as stop

-- what is reported, where this is the text of a bad place
abbrev pub report_of : {E : Type 0} → (E → List ℕ) → Stop E → List ℕ
report_of text stop.ReadFailed = codes "mps: read failed\n"
report_of text stop.WriteFailed = codes "mps: write failed\n"
report_of text stop.LogFailed = codes "mps: log failed\n"
report_of text stop.TooLong = codes "mps: too long\n"
report_of text stop.OutOfMemory = codes "mps: out of memory\n"
report_of text (stop.Bad place) = text place

-- the status
abbrev pub status_of : {E : Type 0} → Stop E → ℕ
status_of stop.ReadFailed = 3
status_of stop.WriteFailed = 4
status_of stop.LogFailed = 5
status_of (stop.Bad place) = 6
status_of stop.TooLong = 7
status_of stop.OutOfMemory = 8

-- the status of an ending
abbrev pub status_of_ending : {T E : Type 0} → Result T (Stop E) → ℕ
status_of_ending (Ok value) = 0
status_of_ending (Err why) = status_of why

-- the report of an ending stands after what stood there before, if no fault came; nothing is reported of one without a stop
abbrev pub HasReportedEnding : {T E : Type 0} → (E → List ℕ) → Result T (Stop E) → (old new : Outside) → Type 0
HasReportedEnding text (Ok value) old new = new.reported ≡ old.reported
HasReportedEnding text (Err why) old new = HasReported old new (report_of text why)

-- the status is that of some ending, and just this ending was reported
pub record ReportsStatus {E : Type 0} (text : E → List ℕ) (status : ℕ) (old new : Outside) : Type 0 where
  pub ending : Result (Unit {0}) (Stop E)
  pub status_is : status ≡ status_of_ending ending
  pub reported : HasReportedEnding text ending old new

-- the program ends so: with the status of this ending, with this text printed, and with the line of the ending reported
pub record ProgramEnds {E : Type 0} (text_of : E → List ℕ) (ending : Result (Unit {0}) (Stop E)) (text : List ℕ) (status : ℕ)
    (old new : Outside) : Type 0 where
  pub status_is : status ≡ status_of_ending ending
  pub printed : new.printed ≡ option_map (λ before. before ++ text) old.printed
  pub reported : HasReportedEnding text_of ending old new
