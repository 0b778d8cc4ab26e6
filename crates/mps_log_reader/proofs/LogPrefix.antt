-- The header before whole records.
use Rattle.std.proofs.Common.{◌≡◌, ℕ, List, ◌++◌, length, Result, sym, ap, subst, ◌∙◌, append_assoc}
use Rattle.mps_base.specs.Record.{header_bytes, records_bytes}
use Rattle.mps_event.specs.declared.version.Version.{Version}
use Rattle.mps_event.specs.Event.{number_of_version}
use Rattle.mps_report.specs.declared.stop.Stop.{Stop}
use Rattle.mps_log_reader.specs.declared.bad_log.BadLog.{BadLog}
use Rattle.mps_log_reader.specs.Ending.{EndsAt}
use Rattle.mps_log_reader.specs.LogPrefix.{RecordsPrefix, LogPrefix, RecordsEnd, LogEnds}
use Rattle.mps_log_reader.specs.Opening.{HasNoHeader}
use Rattle.mps_log_reader.proofs.Opening.{size_with_header}

abbrev pub after_header : (version : Version) (bytes left : List ℕ) → bytes ≡ header_bytes (number_of_version version) ++ left
    → RecordsPrefix version left → LogPrefix bytes
after_header version bytes left is prefix = record {
  version = version;
  records = prefix.records;
  rest = prefix.rest;
  each = prefix.each;
  at_most = prefix.at_most;
  spelled = is ∙ ap (λ (x : List ℕ). header_bytes (number_of_version version) ++ x) prefix.spelled
      ∙ sym (append_assoc (header_bytes (number_of_version version)) (records_bytes prefix.records) prefix.rest);
}

pub log_ends : {T : Type 0} (version : Version) (bytes left : List ℕ) (is : bytes ≡ header_bytes (number_of_version version) ++ left)
    (prefix : RecordsPrefix version left) (ending : Result T (Stop BadLog))
    → RecordsEnd prefix ending → LogEnds (after_header version bytes left is prefix) ending
log_ends version bytes left is prefix ending h =
    subst (λ (n : ℕ). EndsAt version ending (length prefix.records) n prefix.rest) (size_with_header version prefix.records) h

-- what follows the header
pub header_first : {bytes : List ℕ} (log : LogPrefix bytes) → bytes ≡ header_bytes (number_of_version log.version)
    ++ (records_bytes log.records ++ log.rest)
header_first log = log.spelled ∙ append_assoc (header_bytes (number_of_version log.version)) (records_bytes log.records) log.rest

-- such bytes begin with a header
pub has_header : {bytes : List ℕ} → LogPrefix bytes → HasNoHeader bytes → ⊥
has_header log none = none log.version (records_bytes log.records ++ log.rest) (header_first log)
