-- What was reported of an ending.
use Rattle.std.proofs.Common.{◌≡◌, ℕ, ◌⊎◌, List, ◌++◌, Option, Result, Ok, Err, sym, ap, subst, ◌∙◌, arith, inl, inr}
use Rattle.std.specs.Prelude.{OnOk, IfErr}
use Rattle.std.specs.Option.{option_map}
use Rattle.mps_desk.specs.Desk.{Outside, HasRisen}
use Rattle.mps_report.specs.declared.stop.Stop.{Stop}
use Rattle.mps_report.specs.Reports.{status_of, report_of, ReportsStatus}
use Rattle.mps_report.specs.Streams.{Reports, HasReported}
use Rattle.mps_report.specs.declared.stop.Stop.TheVariants as stop
use Rattle.mps_log_reader.specs.Ending.{IsUnopened}
use Rattle.mps_log_reader.proofs.Stops.{is_out_of_memory}

pub has_reported : (text : List ℕ) (a b c : Outside) → b.reported ≡ a.reported → b.err_faults ≡ a.err_faults
    → HasReported b c text → HasReported a c text
has_reported text a b c quiet faults (inl h) = inl (subst (λ (n : ℕ). HasRisen n c.err_faults) faults h)
has_reported text a b c quiet faults (inr h) = inr (h ∙ ap (λ (o : Option (List ℕ)). option_map (λ before. before ++ text) o) quiet)

-- the status after an ending and its report
pub reports_status : {E : Type 0} (text : E → List ℕ) (status : ℕ) (ending : Result (Unit {0}) (Stop E)) (a b c : Outside)
    → b.reported ≡ a.reported → b.err_faults ≡ a.err_faults
    → OnOk ending (status ≡ 0) → OnOk ending (c ≡ b) → IfErr ending (λ why. status ≡ status_of why)
    → IfErr ending (λ why. Reports b c (report_of text why)) → ReportsStatus text status a c
reports_status text status (Ok value) a b c quiet faults zero same is reports =
    record { ending = Ok tt; status_is = zero; reported = ap (λ (o : Outside). o.reported) same ∙ quiet }
reports_status text status (Err why) a b c quiet faults zero same is reports =
    record { ending = Err why; status_is = is; reported = has_reported (report_of text why) a b c quiet faults reports.reported }

-- a file that could not be opened is reported
pub unopened : {E : Type 0} (text : E → List ℕ) (status : ℕ) (ending : Result (Unit {0}) (Stop E)) (a b c : Outside)
    → (ending ≡ Err stop.ReadFailed) ⊎ (ending ≡ Err stop.OutOfMemory) → b.printed ≡ a.printed
    → IfErr ending (λ why. status ≡ status_of why) → IfErr ending (λ why. Reports b c (report_of text why)) → IsUnopened status a c
unopened {E = E} text status ending a b c (inl e) same is reports =
    let known : status ≡ 3 = subst (λ (r : Result (Unit {0}) (Stop E)). IfErr r (λ why. status ≡ status_of why)) e is in
    let reported : Reports b c (report_of text stop.ReadFailed) =
    subst (λ (r : Result (Unit {0}) (Stop E)). IfErr r (λ why. Reports b c (report_of text why))) e reports in
    (inl known, reported.others.printed ∙ same)
unopened {E = E} text status ending a b c (inr e) same is reports =
    let known : status ≡ 8 = subst (λ (r : Result (Unit {0}) (Stop E)). IfErr r (λ why. status ≡ status_of why)) e is in
    let reported : Reports b c (report_of text stop.OutOfMemory) =
    subst (λ (r : Result (Unit {0}) (Stop E)). IfErr r (λ why. Reports b c (report_of text why))) e reports in
    (inr known, reported.others.printed ∙ same)

-- there was no memory before anything happened, and that was reported
pub reports_no_memory : {E : Type 0} (text : E → List ℕ) (status : ℕ) (ending : Result (Unit {0}) (Stop E)) (a b c : Outside) → status ≡ 8
    → (ending ≡ Err stop.OutOfMemory → b ≡ a)
    → OnOk ending (status ≡ 0) → IfErr ending (λ why. status ≡ status_of why) → IfErr ending (λ why. Reports b c (report_of text why))
    → Reports a c (report_of text stop.OutOfMemory)
reports_no_memory text status (Ok value) a b c e same zero is reports = absurd (omega (arith, e, zero))
reports_no_memory {E = E} text status (Err why) a b c e same zero is reports =
    let wants = is_out_of_memory why (sym is ∙ e) in
    subst (λ (o : Outside). Reports o c (report_of text stop.OutOfMemory)) (same (ap (λ (w : Stop E). Err w) wants))
    (subst (λ (w : Stop E). Reports b c (report_of text w)) wants reports)
