-- What is reported of a bad log.
use Rattle.std.specs.Prelude.{◌≡◌, ℕ, codes, decimal, List, ◌++◌, refl}
use Rattle.std.specs.Fmt.{digits}
use Rattle.mps_event.specs.declared.fault.LogFault.{LogFault}
use Rattle.mps_event.specs.declared.fault.LogFault.TheVariants as log_fault
use Rattle.mps_log_reader.specs.declared.bad_log.BadLog.{BadLog}
use Rattle.mps_log_reader.specs.declared.bad_log.BadLog.TheVariants as bad_log

-- the words for a fault of a log
abbrev pub fault_text : LogFault → List ℕ
fault_text log_fault.UnknownCode = codes ": unknown code\n"
fault_text log_fault.BadCount = codes ": bad count\n"
fault_text log_fault.Cut = codes ": cut record\n"
fault_text log_fault.BadString = codes ": bad string\n"

-- what is reported of the record at an offset
abbrev pub text_of_fault : (offset : ℕ) → LogFault → List ℕ
text_of_fault offset fault = codes "mps: log offset " ++ decimal offset ++ fault_text fault

-- what is reported of a bad log
abbrev pub text_of_bad_log : BadLog → List ℕ
text_of_bad_log bad_log.Header = codes "mps: log offset 0: bad header\n"
text_of_bad_log (bad_log.Record offset fault) = text_of_fault offset fault

pub no_header : text_of_bad_log bad_log.Header ≡ codes "mps: log offset 0: bad header\n"
no_header = refl

pub an_unknown_code : text_of_bad_log (bad_log.Record 32 log_fault.UnknownCode) ≡ codes "mps: log offset 32: unknown code\n"
unfolding digits
an_unknown_code = refl

pub another_number_of_fields : text_of_bad_log (bad_log.Record 32 log_fault.BadCount) ≡ codes "mps: log offset 32: bad count\n"
unfolding digits
another_number_of_fields = refl

pub a_string_that_is_no_name : text_of_bad_log (bad_log.Record 8 log_fault.BadString) ≡ codes "mps: log offset 8: bad string\n"
unfolding digits
a_string_that_is_no_name = refl

pub a_cut_record : text_of_bad_log (bad_log.Record 248 log_fault.Cut) ≡ codes "mps: log offset 248: cut record\n"
unfolding digits
a_cut_record = refl
