-- Where the reading of a log ends, and what the program reports of it.
use Rattle.std.specs.Prelude.{◌≡◌, ℕ, ◌<◌, ◌⊎◌, ◌==◌, ◌||◌, Bool, true, false, Result, Ok, Err, List, [], length, refl}
use Rattle.mps_desk.specs.Desk.{Outside}
use Rattle.mps_event.specs.declared.version.Version.{Version}
use Rattle.mps_event.specs.Reading.{first_of}
use Rattle.mps_report.specs.declared.stop.Stop.{Stop}
use Rattle.mps_report.specs.declared.stop.Stop.TheVariants as stop
use Rattle.mps_log_reader.specs.declared.bad_log.BadLog.{BadLog}
use Rattle.mps_log_reader.specs.declared.bad_log.BadLog.TheVariants as bad_log

-- the greatest number of records, which 32 bits hold
abbrev pub max_records : ℕ
max_records = 4294967295

-- why the reading of records ends after n of them, at this offset, before this rest: nothing is left, or the first
-- record of the rest is wrong, or there are as many records as 32 bits count, and more
abbrev pub EndsAt : {T : Type 0} → Version → Result T (Stop BadLog) → (count offset : ℕ) → (rest : List ℕ) → Type 0
EndsAt version (Ok value) count offset rest = rest ≡ []
EndsAt version (Err (stop.Bad (bad_log.Record at fault))) count offset rest =
    (at ≡ offset) × (first_of version true rest ≡ Err fault) × (count < max_records)
EndsAt version (Err stop.TooLong) count offset rest = (count ≡ max_records) × (0 < length rest)
EndsAt version ending count offset rest = ⊥

-- a file that could not be opened: that is reported, or before it that there is no memory, and nothing was printed
abbrev pub IsUnopened : (status : ℕ) → (old new : Outside) → Type 0
IsUnopened status old new = ((status ≡ 3) ⊎ (status ≡ 8)) × (new.printed ≡ old.printed)

-- the status is of the input alone: no call of the desk failed that matters, and there was memory
abbrev pub is_input_verdict : ℕ → Bool
is_input_verdict status = (status == 0) || ((status == 6) || (status == 7))

pub a_failed_read_is_no_verdict : is_input_verdict 3 ≡ false
a_failed_read_is_no_verdict = refl

pub a_failed_write_is_no_verdict : is_input_verdict 4 ≡ false
a_failed_write_is_no_verdict = refl

pub out_of_memory_is_no_verdict : is_input_verdict 8 ≡ false
out_of_memory_is_no_verdict = refl

pub the_end_is_a_verdict : is_input_verdict 0 ≡ true
the_end_is_a_verdict = refl

pub too_many_records_are_a_verdict : is_input_verdict 7 ≡ true
too_many_records_are_a_verdict = refl

pub a_bad_record_is_a_verdict : is_input_verdict 6 ≡ true
a_bad_record_is_a_verdict = refl
