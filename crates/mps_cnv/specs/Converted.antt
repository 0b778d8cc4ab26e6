-- What is printed of a log in portable text, and where the printing ends.
use Rattle.std.specs.Prelude.{◌≡◌, ℕ, ◌⊎◌, false, Option, Some, None, Result, Ok, Err, List, [], ◌++◌, take}
use Rattle.std.specs.Option.{option_map}
use Rattle.mps_desk.specs.Desk.{Outside}
use Rattle.mps_event.specs.declared.version.Version.{Version}
use Rattle.mps_event.specs.Reading.{first_of}
use Rattle.mps_report.specs.declared.stop.Stop.{Stop}
use Rattle.mps_report.specs.declared.stop.Stop.TheVariants as stop
use Rattle.mps_report.specs.Reports.{status_of_ending, HasReportedEnding, ProgramEnds}
use Rattle.mps_log_reader.specs.declared.bad_log.BadLog.{BadLog}
use Rattle.mps_log_reader.specs.declared.bad_log.BadLog.TheVariants as bad_log
use Rattle.mps_log_reader.specs.BadLog.{text_of_bad_log}
use Rattle.mps_log_reader.specs.LogPrefix.{LogPrefix, LogEnds}
use Rattle.mps_log_reader.specs.Opening.{HasNoHeader, IsCutHeader}
use Rattle.mps_log_reader.specs.PutOut.{PrintsAsFar}
use Rattle.mps_cnv.specs.Portable.{portable}

-- the portable text of the records of a prefix of a log
abbrev pub text_of_prefix : {bytes : List ℕ} → (kinds : ℕ) → LogPrefix bytes → List ℕ
text_of_prefix kinds prefix = portable prefix.version kinds prefix.records

-- the reading of the log ends after a prefix of it; what was printed after what stood there is the portable text of
-- exactly its records
pub record Converts (kinds : ℕ) (bytes : List ℕ) (ending : Result (Unit {0}) (Stop BadLog)) (old new : Outside) : Type 0 where
  pub prefix : LogPrefix bytes
  pub ends_at : LogEnds prefix ending
  pub printed : new.printed ≡ option_map (λ before. before ++ text_of_prefix kinds prefix) old.printed

-- of these bytes a part of a record had come, if anything, and what follows it is still unread
pub record IsCutRecord (version : Version) (bytes : List ℕ) (unread : Option (List ℕ)) : Type 0 where
  pub part : List ℕ
  pub others : List ℕ
  pub split : bytes ≡ part ++ others
  pub none : first_of version false part ≡ Ok None
  pub still : unread ≡ Some others

-- the log could not be opened, or a read failed before its header had come whole, and nothing is printed
pub record FailsInHeader (bytes : List ℕ) (old new : Outside) : Type 0 where
  pub cut : (new.input ≡ old.input) ⊎ IsCutHeader bytes new.input
  pub printed : new.printed ≡ old.printed

-- a read failed after the whole records that had come, and the portable text of exactly these was printed; where a write
-- failed too, a prefix of it
pub record FailsAfterRecords (kinds : ℕ) (bytes : List ℕ) (old new : Outside) : Type 0 where
  pub prefix : LogPrefix bytes
  pub cut : IsCutRecord prefix.version prefix.rest new.input
  pub printed : PrintsAsFar old new (text_of_prefix kinds prefix)

-- a write failed: a prefix of the portable text of some records at a prefix of the log was printed
pub record ConvertsUntilWriteFault (kinds : ℕ) (bytes : List ℕ) (old new : Outside) : Type 0 where
  pub prefix : LogPrefix bytes
  pub count : ℕ
  pub printed : new.printed ≡ option_map (λ before. before ++ take count (text_of_prefix kinds prefix)) old.printed

-- where a read failed: one of these
abbrev pub ConvertsUntilReadFault : (kinds : ℕ) → (bytes : List ℕ) → (old new : Outside) → Type 0
ConvertsUntilReadFault kinds bytes old new = FailsInHeader bytes old new ⊎ FailsAfterRecords kinds bytes old new

-- the same of every ending: without a header nothing is printed
abbrev pub HasConverted : (kinds : ℕ) → (bytes : List ℕ) → Result (Unit {0}) (Stop BadLog) → (old new : Outside) → Type 0
HasConverted kinds bytes (Err (stop.Bad bad_log.Header)) old new = HasNoHeader bytes × (new.printed ≡ old.printed)
HasConverted kinds bytes (Err stop.ReadFailed) old new = Unit {0}
HasConverted kinds bytes (Err stop.WriteFailed) old new = Unit {0}
HasConverted kinds bytes (Err stop.OutOfMemory) old new = new.printed ≡ old.printed
HasConverted kinds bytes ending old new = Converts kinds bytes ending old new

-- the status of a conversion, by how it ended
pub record ConvertedWith (kinds : ℕ) (bytes : List ℕ) (status : ℕ) (old new : Outside) : Type 0 where
  pub ending : Result (Unit {0}) (Stop BadLog)
  pub status_is : status ≡ status_of_ending ending
  pub converted : HasConverted kinds bytes ending old new
  pub reported : HasReportedEnding text_of_bad_log ending old new

-- In whatever way the reading of the bytes ends, the program ends so, and prints the text of just these records; where they
-- begin with no header, it prints nothing.
pub record IsUniqueConversion (kinds : ℕ) (bytes : List ℕ) (status : ℕ) (old new : Outside) : Type 0 where
  pub with_header : (prefix : LogPrefix bytes) (ending : Result (Unit {0}) (Stop BadLog)) → LogEnds prefix ending
      → ProgramEnds text_of_bad_log ending (text_of_prefix kinds prefix) status old new
  pub without_header : HasNoHeader bytes → ProgramEnds text_of_bad_log (Err (stop.Bad bad_log.Header)) [] status old new
