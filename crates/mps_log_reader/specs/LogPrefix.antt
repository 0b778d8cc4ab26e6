-- Whole records at the beginning of a log, and what follows them.
use Rattle.std.specs.Prelude.{◌≡◌, ℕ, ◌+◌, ◌≤◌, All, Result, List, ◌++◌, length}
use Rattle.mps_base.specs.Record.{Record, records_bytes}
use Rattle.mps_event.specs.declared.version.Version.{Version}
use Rattle.mps_event.specs.Grammar.{IsRecord, log_bytes}
use Rattle.mps_report.specs.declared.stop.Stop.{Stop}
use Rattle.mps_log_reader.specs.declared.bad_log.BadLog.{BadLog}
use Rattle.mps_log_reader.specs.Ending.{max_records, EndsAt}

-- the bytes are whole records of a version, as many as 32 bits count at most, and a rest
pub record RecordsPrefix (version : Version) (bytes : List ℕ) : Type 0 where
  pub records : List Record
  pub rest : List ℕ
  pub each : All (IsRecord version) records
  pub at_most : length records ≤ max_records
  pub spelled : bytes ≡ records_bytes records ++ rest

-- the bytes are the header of a version, whole records, as many as 32 bits count at most, and a rest
pub record LogPrefix (bytes : List ℕ) : Type 0 where
  pub version : Version
  pub records : List Record
  pub rest : List ℕ
  pub each : All (IsRecord version) records
  pub at_most : length records ≤ max_records
  pub spelled : bytes ≡ log_bytes version records ++ rest

-- the reading of these records ends so at their rest, where they follow a header
abbrev pub RecordsEnd : {T : Type 0} {version : Version} {bytes : List ℕ} → RecordsPrefix version bytes → Result T (Stop BadLog) → Type 0
RecordsEnd {version = version} prefix ending =
    EndsAt version ending (length prefix.records) (8 + length (records_bytes prefix.records)) prefix.rest

-- the reading of a log ends so at the rest
abbrev pub LogEnds : {T : Type 0} {bytes : List ℕ} → LogPrefix bytes → Result T (Stop BadLog) → Type 0
LogEnds prefix ending = EndsAt prefix.version ending (length prefix.records) (length (log_bytes prefix.version prefix.records)) prefix.rest
