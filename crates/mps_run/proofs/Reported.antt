-- The report at the end of a run, and the status.
use Rattle.std.proofs.Common.{◌≡◌, ℕ, ◌≤◌, List, [], ◌∷◌, false, Ok, Err, OnOk, IfErr, refl, sym, ◌∙◌, ap, arith, subst, inl, inr}
use Rattle.mps_desk.specs.Desk.{Outside, OnlyReports, HasRisen, IsSteady}
use Rattle.mps_log_reader.proofs.Steady.{asks_then_nothing}
use Rattle.mps_report.specs.declared.stop.Stop.TheVariants as stop
use Rattle.mps_report.specs.Reports.{report_of, status_of, status_of_ending, HasReportedEnding}
use Rattle.mps_report.specs.Streams.{Reports}
use Rattle.mps_report.proofs.Outside.{reports_only-same}
use Rattle.mps_run.specs.Ending.{AsksInOrder, Ending, HasCause, RunsOn, requests_of_run, text_of_bad_line}
use Rattle.mps_desk.specs.Desk.{Asks, opening}
use Rattle.mps_report.specs.Streams.{appended}

-- an ending was reported, with its status
pub record IsReported (ends : Ending) (status : ℕ) (old new : Outside) : Type 0 where
  pub status_is : status ≡ status_of_ending ends
  pub reported : HasReportedEnding text_of_bad_line ends old new
  pub counted : old.err_faults ≤ new.err_faults
  pub others : OnlyReports old new

pub is_reported : (ends : Ending) (status : ℕ) (old new : Outside) → OnOk ends (status ≡ 0) → OnOk ends (new ≡ old)
    → IfErr ends (λ why. status ≡ status_of why) → IfErr ends (λ why. Reports old new (report_of text_of_bad_line why))
    → IsReported ends status old new
is_reported (Ok done) status old new zero same is reports = record {
  status_is = zero;
  reported = ap (λ (o : Outside). o.reported) same;
  counted = omega (arith, ap (λ (o : Outside). o.err_faults) same);
  others = subst (λ (o : Outside). OnlyReports old o) (sym same) (reports_only-same old);
}
is_reported (Err why) status old new zero same is reports = record {
  status_is = is;
  reported = reports.reported;
  counted = reports.counted;
  others = reports.others;
}

-- a report asks for nothing by name
pub asks_then_reported : (log script : List ℕ) (old mid new : Outside) → OnlyReports mid new → (ends : Ending)
    → AsksInOrder log script ends old mid → AsksInOrder log script ends old new
asks_then_reported log script old mid new o (Ok done) h = asks_then_nothing old mid new (requests_of_run log script) h o.asked
asks_then_reported log script old mid new o (Err stop.OutOfMemory) (inl h) = inl (asks_then_nothing old mid new [] h o.asked)
asks_then_reported log script old mid new o (Err stop.OutOfMemory) (inr h) =
    inr (asks_then_nothing old mid new (requests_of_run log script) h o.asked)
asks_then_reported log script old mid new o (Err stop.ReadFailed) (inl h) =
    inl (asks_then_nothing old mid new (opening script ∷ []) h o.asked)
asks_then_reported log script old mid new o (Err stop.ReadFailed) (inr h) =
    inr (asks_then_nothing old mid new (requests_of_run log script) h o.asked)
asks_then_reported log script old mid new o (Err stop.WriteFailed) h =
    asks_then_nothing old mid new (requests_of_run log script) h o.asked
asks_then_reported log script old mid new o (Err stop.LogFailed) h =
    asks_then_nothing old mid new (requests_of_run log script) h o.asked
asks_then_reported log script old mid new o (Err stop.TooLong) h =
    asks_then_nothing old mid new (requests_of_run log script) h o.asked
asks_then_reported log script old mid new o (Err (stop.Bad bad)) h =
    asks_then_nothing old mid new (requests_of_run log script) h o.asked

pub steady_then_reported : (old mid new : Outside) → IsSteady old mid → OnlyReports mid new → IsSteady old new
steady_then_reported old mid new f o = record {
  in_faults = o.in_faults ∙ f.in_faults;
  log_faults = o.log_faults ∙ f.log_faults;
  out_faults = o.out_faults ∙ f.out_faults;
}

-- after both were asked for, any ending
pub asked_for_both : (log script : List ℕ) (old mid new : Outside) (ends : Ending) → Asks old mid (requests_of_run log script)
    → new.asked ≡ mid.asked → AsksInOrder log script ends old new
asked_for_both log script old mid new (Err stop.OutOfMemory) h same =
    inr (asks_then_nothing old mid new (requests_of_run log script) h same)
asked_for_both log script old mid new (Err stop.ReadFailed) h same = inr (asks_then_nothing old mid new (requests_of_run log script) h same)
asked_for_both log script old mid new (Ok done) h same = asks_then_nothing old mid new (requests_of_run log script) h same
asked_for_both log script old mid new (Err stop.WriteFailed) h same = asks_then_nothing old mid new (requests_of_run log script) h same
asked_for_both log script old mid new (Err stop.LogFailed) h same = asks_then_nothing old mid new (requests_of_run log script) h same
asked_for_both log script old mid new (Err stop.TooLong) h same = asks_then_nothing old mid new (requests_of_run log script) h same
asked_for_both log script old mid new (Err (stop.Bad bad)) h same = asks_then_nothing old mid new (requests_of_run log script) h same

-- with status 4 printing failed
write_failed : (ends : Ending) → status_of_ending ends ≡ 4 → ends ≡ Err stop.WriteFailed
write_failed (Ok done) e = absurd (omega (arith, e))
write_failed (Err stop.WriteFailed) e = refl
write_failed (Err why) e = absurd (omega (arith, e))

pub log_written_then_reported : (ends : Ending) (status : ℕ) (mid new : Outside) → OnlyReports mid new → status ≡ status_of_ending ends
    → (ends ≡ Err stop.WriteFailed → mid.log_waits ≡ false) → status ≡ 4 → new.log_waits ≡ false
log_written_then_reported ends status mid new o is written four = o.log_waits ∙ written (write_failed ends (sym is ∙ four))

-- nothing, and then the report of an ending
pub reported_after : (ends : Ending) (old mid new : Outside) → RunsOn old mid → HasReportedEnding text_of_bad_line ends mid new
    → HasReportedEnding text_of_bad_line ends old new
reported_after (Ok done) old mid new runs reported = reported ∙ runs.reported
reported_after (Err why) old mid new runs (inl risen) = inl (subst (λ n. HasRisen n new.err_faults) runs.err_faults risen)
reported_after (Err why) old mid new runs (inr reported) =
    inr (reported ∙ ap (λ known. appended known (report_of text_of_bad_line why)) runs.reported)

-- the fault that is the cause came before the report
pub cause_then_reported : (ends : Ending) (old mid new : Outside) → OnlyReports mid new → HasCause ends old mid → HasCause ends old new
cause_then_reported (Ok done) old mid new o h = tt
cause_then_reported (Err stop.ReadFailed) old mid new o h = subst (HasRisen old.in_faults) (sym o.in_faults) h
cause_then_reported (Err stop.WriteFailed) old mid new o h = subst (HasRisen old.out_faults) (sym o.out_faults) h
cause_then_reported (Err stop.LogFailed) old mid new o h = subst (HasRisen old.log_faults) (sym o.log_faults) h
cause_then_reported (Err stop.OutOfMemory) old mid new o h = tt
cause_then_reported (Err stop.TooLong) old mid new o h = tt
cause_then_reported (Err (stop.Bad bad)) old mid new o h = tt
