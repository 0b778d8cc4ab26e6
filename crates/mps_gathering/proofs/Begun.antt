-- A desk that begins to gather over another knows what that one knows.
use Rattle.std.proofs.Common.{◌≡◌, ℕ, false, List, [], IfSome, sym, ap, ◌∙◌}
use Rattle.std.specs.Option.{option_map}
use Rattle.mps_desk.specs.Desk.{Outside, after_log, text_in}
use Rattle.mps_report.specs.Streams.{appended}
use Rattle.mps_report.proofs.Appended.{appended_empty}
use Rattle.mps_report.proofs.Logging.{filed_nothing}
use Rattle.mps_gathering.specs.Held.{Waiting}
use Rattle.mps_gathering.specs.Gathering.{begun, outside_with, some_wait, text_over}
use Rattle.mps_gathering.proofs.Names.{text_settled}

-- what a name opens is what the inner desk opens
same_texts : (o : Outside) (waiting : List ℕ) → waiting ≡ []
    → ((name : List ℕ) → IfSome o.files (λ files. o.text name ≡ text_in files.all name))
    → text_over (option_map (after_log waiting) o.files) o.text ≡ o.text
same_texts o waiting none law = λ i name. text_settled o waiting name none (law name) i

pub nothing_waits_yet : (o : Outside) (log out : Waiting) → log.bytes ≡ [] → out.bytes ≡ []
    → ((name : List ℕ) → IfSome o.files (λ files. o.text name ≡ text_in files.all name))
    → outside_with o (record { log = log; out = out; requests_unknown = false; in_faults = 0; log_faults = 0; out_faults = 0 }) ≡ begun o
nothing_waits_yet o log out no_log no_out law =
    let files : option_map (after_log log.bytes) o.files ≡ o.files =
    ap (λ (p : List ℕ). option_map (after_log p) o.files) no_log ∙ sym (filed_nothing o.files) in
    let text : text_over (option_map (after_log log.bytes) o.files) o.text ≡ o.text = same_texts o log.bytes no_log law in
    let logged : appended o.logged log.bytes ≡ o.logged = ap (λ (p : List ℕ). appended o.logged p) no_log ∙ sym (appended_empty o.logged) in
    let printed : appended o.printed out.bytes ≡ o.printed =
    ap (λ (p : List ℕ). appended o.printed p) no_out ∙ sym (appended_empty o.printed) in
    let log_waits : some_wait log.bytes o.log_waits ≡ o.log_waits = ap (λ (p : List ℕ). some_wait p o.log_waits) no_log in
    let out_waits : some_wait out.bytes o.out_waits ≡ o.out_waits = ap (λ (p : List ℕ). some_wait p o.out_waits) no_out in
    cc (files, text, logged, printed, log_waits, out_waits)
