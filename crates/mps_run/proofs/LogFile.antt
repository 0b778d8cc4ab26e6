-- The file of the log.
use Rattle.std.proofs.Common.{◌≡◌, ◌⊎◌, ℕ, Option, Some, None, Err, List, [], ◌∷◌, ◌++◌, refl, ◌∙◌, ap, arith, inl, inr}
use Rattle.std.specs.Option.{option_map}
use Rattle.std.proofs.lemmas.Slice.Eq.{bytes_eq-Decides}
use Rattle.mps_desk.specs.Desk.{Outside, File, Files, OnlyReports, with_file, with_more, made_for_log, after_log}
use Rattle.mps_log_reader.specs.Ending.{IsUnopened}
use Rattle.mps_report.specs.declared.stop.Stop.TheVariants as stop
use Rattle.mps_report.specs.Reports.{status_of_ending}
use Rattle.mps_run.specs.Ending.{Ending}
use Rattle.mps_run.specs.Ending.{IsUnbegun}
use Rattle.mps_run.specs.LogFile.{IsInFile, IsUnlogged, LogsInto, with_log}
use Rattle.mps_report.specs.Streams.{appended, LogTakes}

with_more-with_file : (fs : List File) (name first second : List ℕ)
    → with_more (with_file fs name first) name second ≡ with_file fs name (first ++ second)
with_more-with_file [] name first second = grind (arith, bytes_eq-Decides name name)
with_more-with_file (f ∷ fs) name first second = grind (arith, with_more-with_file fs name first second)

-- what is logged after a file that was made for the log
filed_after_made : (known : Option Files) (name bytes : List ℕ)
    → option_map (after_log bytes) (option_map (made_for_log name) known) ≡ option_map (with_log name bytes) known
filed_after_made None name bytes = refl
filed_after_made (Some files) name bytes =
    ap (λ (all : List File). Some (record { all = all; log = Some name })) (with_more-with_file files.all name [] bytes)

-- all that was logged after a file that was made for the log
pub in_file : (name : List ℕ) (old made new : Outside) → made.logged ≡ old.logged → made.files ≡ option_map (made_for_log name) old.files
    → LogTakes made new → IsInFile name old new
in_file name old made new logged files takes = record {
  bytes = takes.bytes;
  logged = takes.logged ∙ ap (λ known. appended known takes.bytes) logged;
  files = takes.filed ∙ (ap (λ known. option_map (after_log takes.bytes) known) files ∙ filed_after_made old.files name takes.bytes);
}

-- the same after a report
pub in_file_then_reported : (name : List ℕ) (old mid new : Outside) → IsInFile name old mid → OnlyReports mid new → IsInFile name old new
in_file_then_reported name old mid new r o = record { bytes = r.bytes; logged = o.logged ∙ r.logged; files = o.files ∙ r.files }

pub logs_into_then_reported : (name : List ℕ) (old mid new : Outside) → LogsInto name old mid → OnlyReports mid new → LogsInto name old new
logs_into_then_reported name old mid new (inl r) o = inl (in_file_then_reported name old mid new r o)
logs_into_then_reported name old mid new (inr r) o = inr (record { logged = o.logged ∙ r.logged; files = o.files ∙ r.files })

-- a script that is not there
missing_status : (status : ℕ) (ends : Ending) → status ≡ status_of_ending ends
    → (ends ≡ Err stop.ReadFailed) ⊎ (ends ≡ Err stop.OutOfMemory) → (status ≡ 3) ⊎ (status ≡ 8)
missing_status status ends is (inl read) = inl (is ∙ ap status_of_ending read)
missing_status status ends is (inr memory) = inr (is ∙ ap status_of_ending memory)

pub missing_then_reported : (status : ℕ) (ends : Ending) (old mid new : Outside) → status ≡ status_of_ending ends
    → (ends ≡ Err stop.ReadFailed) ⊎ (ends ≡ Err stop.OutOfMemory)
    → IsUnbegun old mid → mid.files ≡ old.files → OnlyReports mid new → IsUnopened status old new × IsUnlogged old new
missing_then_reported status ends old mid new is why unbegun files o = (
  (missing_status status ends is why, o.printed ∙ unbegun.printed),
  record { logged = o.logged ∙ unbegun.logged; files = o.files ∙ files },
)
