-- The bytes of a log are read in one way, so a conversion is the only one.
use Rattle.std.proofs.Common.{◌≡◌, ℕ, true, List, ◌++◌, Result, Err, refl, ap, subst, ◌∙◌}
use Rattle.std.specs.Option.{option_map}
use Rattle.mps_desk.specs.Desk.{Outside}
use Rattle.mps_base.specs.Record.{Record}
use Rattle.mps_event.specs.declared.version.Version.{Version}
use Rattle.mps_report.specs.declared.stop.Stop.{Stop}
use Rattle.mps_report.specs.declared.stop.Stop.TheVariants as stop
use Rattle.mps_report.specs.Reports.{HasReportedEnding, ProgramEnds, status_of_ending}
use Rattle.mps_log_reader.specs.declared.bad_log.BadLog.{BadLog}
use Rattle.mps_log_reader.specs.declared.bad_log.BadLog.TheVariants as bad_log
use Rattle.mps_log_reader.specs.BadLog.{text_of_bad_log}
use Rattle.mps_log_reader.specs.Ending.{is_input_verdict}
use Rattle.mps_log_reader.specs.LogPrefix.{LogPrefix, LogEnds}
use Rattle.mps_log_reader.proofs.LogPrefix.{has_header}
use Rattle.mps_report.proofs.Appended.{appended_empty}
use Rattle.mps_log_reader.proofs.Stops.{other_than_verdict}
use Rattle.mps_log_reader.proofs.TwoReadings.{same_reading}
use Rattle.mps_cnv.specs.Portable.{portable}
use Rattle.mps_cnv.specs.Converted.{text_of_prefix, Converts, HasConverted, ConvertedWith, IsUniqueConversion}

abbrev Ending : Type 0
Ending = Result (Unit {0}) (Stop BadLog)

module _ (kinds : ℕ) (bytes : List ℕ) (status : ℕ) where
  ends_so : (ending : Ending) (old new : Outside) → status ≡ status_of_ending ending → Converts kinds bytes ending old new
      → HasReportedEnding text_of_bad_log ending old new
      → (prefix : LogPrefix bytes) (other : Ending) → LogEnds prefix other
      → ProgramEnds text_of_bad_log other (text_of_prefix kinds prefix) status old new
  ends_so ending old new is c reported prefix other h =
      let s = same_reading c.prefix prefix ending other c.ends_at h in
      record {
        status_is = is ∙ ap (λ (e : Ending). status_of_ending e) s.ending;
        printed = c.printed
            ∙ ap (λ (v : Version). option_map (λ before. before ++ portable v kinds c.prefix.records) old.printed) s.version
            ∙ ap (λ (rs : List Record). option_map (λ before. before ++ portable prefix.version kinds rs) old.printed) s.records;
        reported = subst (λ (e : Ending). HasReportedEnding text_of_bad_log e old new) s.ending reported;
      }

  unique_of : (ending : Ending) (old new : Outside) → status ≡ status_of_ending ending → Converts kinds bytes ending old new
      → HasReportedEnding text_of_bad_log ending old new
      → IsUniqueConversion kinds bytes status old new
  unique_of ending old new is c reported = record {
    with_header = ends_so ending old new is c reported;
    without_header = λ none. absurd (has_header c.prefix none);
  }

  unique_ending : (ending : Ending) (old new : Outside) → is_input_verdict status ≡ true → status ≡ status_of_ending ending
      → HasConverted kinds bytes ending old new
      → HasReportedEnding text_of_bad_log ending old new → IsUniqueConversion kinds bytes status old new
  unique_ending (Err (stop.Bad bad_log.Header)) old new verdict is h reported = record {
    with_header = λ prefix ending e. absurd (has_header prefix h.0);
    without_header = λ none. record { status_is = is; printed = h.1 ∙ appended_empty old.printed; reported = reported };
  }
  unique_ending (Err stop.ReadFailed) old new verdict is h reported = absurd (other_than_verdict status 3 is verdict refl)
  unique_ending (Err stop.WriteFailed) old new verdict is h reported = absurd (other_than_verdict status 4 is verdict refl)
  unique_ending (Err stop.OutOfMemory) old new verdict is h reported = absurd (other_than_verdict status 8 is verdict refl)
  unique_ending ending old new verdict is h reported = unique_of ending old new is h reported

  pub unique : (old new : Outside) → is_input_verdict status ≡ true → ConvertedWith kinds bytes status old new
      → IsUniqueConversion kinds bytes status old new
  unique old new verdict w = unique_ending w.ending old new verdict w.status_is w.converted w.reported
