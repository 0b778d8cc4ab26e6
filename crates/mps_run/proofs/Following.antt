-- What follows from what a run leaves.
use Rattle.std.proofs.Common.{◌≡◌, ◌≢◌, ℕ, Bool, Some, Ok, Err, List, [], ◌∷◌, ◌++◌, refl, sym, ◌∙◌, ap, arith, append-nil, subst, true, inl, inr, ◌⊎◌}
use Rattle.std.specs.Option.{option_map}
use Rattle.std.proofs.lemmas.List.{append_cancel_left}
use Rattle.std.proofs.lemmas.Slice.Eq.{bytes_eq-Decides}
use Rattle.mps_desk.specs.Desk.{Outside, File, Files, HasRisen, file_named, with_file}
use Rattle.mps_desk.proofs.Files.{file_named-with_file_other}
use Rattle.mps_base.specs.Record.{records_bytes}
use Rattle.mps_model.specs.declared.call.Call.{Call}
use Rattle.mps_model.specs.Log.{written_log, log_bytes, pools_made}
use Rattle.mps_log_reader.specs.Ending.{is_input_verdict}
use Rattle.mps_report.specs.declared.stop.Stop.TheVariants as stop
use Rattle.mps_report.specs.Reports.{status_of_ending}
use Rattle.mps_report.specs.Streams.{appended}
use Rattle.mps_report.proofs.Appended.{appended_empty}
use Rattle.mps_script.specs.Line.{lines_of}
use Rattle.mps_run.specs.Ending.{Ending}
use Rattle.mps_run.specs.Following.{Answered, RanWhole, HoldsLog}
use Rattle.mps_run.specs.Leaving.{Part, Nothing, SomeRecords, SomeAnswer, IsPartAt, EndsBefore, Leaves, LeavesRun, log_header, logged_of, printed_of}
use Rattle.mps_run.specs.LogFile.{with_log}
use Rattle.mps_run.specs.Run.{RunsScript}
use Rattle.mps_run.specs.Script.{answers_of}
use Rattle.mps_run.proofs.SoFar.{nothing_run}

-- ---- what was printed

-- no call that was to print failed
pub record PrintsAll (ends : Ending) (old new : Outside) : Type 0 where
  pub write : ends ≢ Err stop.WriteFailed
  pub log : ends ≡ Err stop.LogFailed → ¬ HasRisen old.out_faults new.out_faults

-- then of the next command nothing was printed
printed_none : (ends : Ending) (part : Part) (old new : Outside) → IsPartAt ends part old new → PrintsAll ends old new
    → printed_of part ≡ []
printed_none ends Nothing old new is other = refl
printed_none ends (SomeRecords step count) old new is other = refl
printed_none ends (SomeAnswer step count) old new is other = absurd (none is.blames)
  where
    none : (ends ≡ Err stop.WriteFailed) ⊎ (ends ≡ Err stop.LogFailed) → ⊥
    none (inl write) = other.write write
    none (inr log) = other.log log is.fault

answered_of : (takes_memory : Call → Bool) (ends : Ending) (script : List ℕ) (old new : Outside) → PrintsAll ends old new
    → Leaves takes_memory ends log_header script old new → Answered script old new
answered_of takes_memory ends script old new other l = record {
  ran = l.ran;
  later = l.later;
  lines = l.lines;
  history = l.history;
  run = l.run;
  printed = l.printed ∙ ap (appended old.printed)
      (ap (λ (p : List ℕ). answers_of l.history ++ p) (printed_none ends l.part old new l.is_part other) ∙ append-nil
      (answers_of l.history));
}

answered_nothing : (script : List ℕ) (old new : Outside) → new.printed ≡ old.printed → Answered script old new
answered_nothing script old new same = record {
  ran = [];
  later = lines_of script;
  lines = refl;
  history = [];
  run = nothing_run;
  printed = same ∙ appended_empty old.printed;
}

before_header : (ends : Ending) (old new : Outside) → EndsBefore ends old new → new.printed ≡ old.printed
before_header (Err stop.OutOfMemory) old new u = u.printed
before_header (Err stop.ReadFailed) old new u = u.printed
before_header (Err stop.LogFailed) old new u = u.printed
before_header (Ok done) old new u = absurd u
before_header (Err stop.WriteFailed) old new u = absurd u
before_header (Err stop.TooLong) old new u = absurd u
before_header (Err (stop.Bad bad)) old new u = absurd u

answered_run : (takes_memory : Call → Bool) (ends : Ending) (script : List ℕ) (old new : Outside) → PrintsAll ends old new
    → LeavesRun takes_memory ends script old new → Answered script old new
answered_run takes_memory ends script old new other (inl u) = answered_nothing script old new (before_header ends old new u)
answered_run takes_memory ends script old new other (inr l) = answered_of takes_memory ends script old new other l

pub answers_whole : (takes_memory : Call → Bool) (log script : List ℕ) (status : ℕ) (old new : Outside)
    → RunsScript takes_memory log script status old new
    → status ≢ 4 → (status ≡ 5 → ¬ HasRisen old.out_faults new.out_faults)
    → (bytes : List ℕ) → old.text script ≡ Some bytes → Answered bytes old new
answers_whole takes_memory log script status old new r write fault bytes e =
    answered_run takes_memory r.ends bytes old new (record {
      write = λ is. write (r.status_is ∙ ap status_of_ending is);
      log = λ is. fault (r.status_is ∙ ap status_of_ending is);
    }) (r.leaves bytes e)

-- ---- a whole run

not_log_failed : (ends : Ending) → is_input_verdict (status_of_ending ends) ≡ true → ends ≢ Err stop.LogFailed
not_log_failed ends whole is =
    let wrong : is_input_verdict (status_of_ending ends) ≡ is_input_verdict 5 = ap (λ e. is_input_verdict (status_of_ending e)) is in cc

not_write_failed : (ends : Ending) → is_input_verdict (status_of_ending ends) ≡ true → ends ≢ Err stop.WriteFailed
not_write_failed ends whole is =
    let wrong : is_input_verdict (status_of_ending ends) ≡ is_input_verdict 4 = ap (λ e. is_input_verdict (status_of_ending e)) is in cc

logged_none : (ends : Ending) (part : Part) (pools : ℕ) (old new : Outside) → IsPartAt ends part old new
    → is_input_verdict (status_of_ending ends) ≡ true → logged_of pools part ≡ []
logged_none ends Nothing pools old new is whole = refl
logged_none ends (SomeRecords step count) pools old new is whole = absurd (not_log_failed ends whole is)
logged_none ends (SomeAnswer step count) pools old new is whole = absurd (none is.blames)
  where
    none : (ends ≡ Err stop.WriteFailed) ⊎ (ends ≡ Err stop.LogFailed) → ⊥
    none (inl write) = not_write_failed ends whole write
    none (inr log) = not_log_failed ends whole log

whole_of : (takes_memory : Call → Bool) (ends : Ending) (script : List ℕ) (old new : Outside)
    → is_input_verdict (status_of_ending ends) ≡ true
    → Leaves takes_memory ends log_header script old new → RanWhole takes_memory ends script old new
unfolding answered_of
whole_of takes_memory ends script old new whole l = record {
  answered = answered_of takes_memory ends script old new
      (record { write = not_write_failed ends whole; log = λ is. absurd (not_log_failed ends whole is) }) l;
  ends_at = l.ends_at;
  logged = l.logged ∙ ap (λ (p : List ℕ). appended old.logged (log_header ++ p))
      (ap (λ (p : List ℕ). records_bytes (written_log l.history) ++ p) (logged_none ends l.part (pools_made l.history) old new l.is_part
      whole)
      ∙ append-nil (records_bytes (written_log l.history)));
}

whole_run : (takes_memory : Call → Bool) (ends : Ending) (script : List ℕ) (old new : Outside)
    → is_input_verdict (status_of_ending ends) ≡ true
    → LeavesRun takes_memory ends script old new → RanWhole takes_memory ends script old new
whole_run takes_memory ends script old new whole (inr l) = whole_of takes_memory ends script old new whole l
whole_run takes_memory (Err stop.OutOfMemory) script old new whole (inl u) = absurd (let wrong : is_input_verdict 8 ≡ true = whole in cc)
whole_run takes_memory (Err stop.ReadFailed) script old new whole (inl u) = absurd (let wrong : is_input_verdict 3 ≡ true = whole in cc)
whole_run takes_memory (Err stop.LogFailed) script old new whole (inl u) = absurd (let wrong : is_input_verdict 5 ≡ true = whole in cc)
whole_run takes_memory (Ok done) script old new whole (inl u) = absurd u
whole_run takes_memory (Err stop.WriteFailed) script old new whole (inl u) = absurd u
whole_run takes_memory (Err stop.TooLong) script old new whole (inl u) = absurd u
whole_run takes_memory (Err (stop.Bad bad)) script old new whole (inl u) = absurd u

pub runs_whole : (takes_memory : Call → Bool) (log script : List ℕ) (status : ℕ) (old new : Outside)
    (r : RunsScript takes_memory log script status old new)
    → is_input_verdict status ≡ true → (bytes : List ℕ) → old.text script ≡ Some bytes → RanWhole takes_memory r.ends bytes old new
runs_whole takes_memory log script status old new r whole bytes e =
    whole_run takes_memory r.ends bytes old new (subst (λ n. is_input_verdict n ≡ true) r.status_is whole) (r.leaves bytes e)

-- ---- the file of the log

file_named-with_file : (fs : List File) (name bytes : List ℕ) → file_named (with_file fs name bytes) name ≡ Some bytes
file_named-with_file [] name bytes = grind (arith, bytes_eq-Decides name name)
file_named-with_file (f ∷ fs) name bytes = grind (arith, file_named-with_file fs name bytes)

-- two pieces after the same bytes are the same
same_piece : (before first second : List ℕ) → appended (Some before) first ≡ appended (Some before) second → first ≡ second
same_piece before first second e = append_cancel_left before first second (let same : before ++ first ≡ before ++ second = cc in same)

-- what a whole run leaves in the file of the log, where the files and what was logged are known
pub log_in_its_file : (takes_memory : Call → Bool) (log script : List ℕ) (status : ℕ) (old new : Outside)
    → RunsScript takes_memory log script status old new
    → is_input_verdict status ≡ true → (files : Files) → old.files ≡ Some files → (before : List ℕ) → old.logged ≡ Some before
    → (bytes : List ℕ) → old.text script ≡ Some bytes → HoldsLog log bytes files new
log_in_its_file takes_memory log script status old new r whole files known before logged bytes e =
    let ran = runs_whole takes_memory log script status old new r whole bytes e in
    let filed = r.in_file whole in
    let same : filed.bytes ≡ log_bytes ran.answered.history = same_piece before filed.bytes (log_bytes ran.answered.history)
    (ap (λ o. appended o filed.bytes) (sym logged) ∙ (sym filed.logged
    ∙ (ran.logged ∙ ap (λ o. appended o (log_bytes ran.answered.history)) logged))) in
    record {
      ran = ran.answered.ran;
      later = ran.answered.later;
      lines = ran.answered.lines;
      history = ran.answered.history;
      run = ran.answered.run;
      now = with_log log (log_bytes ran.answered.history) files;
      known = filed.files ∙ (ap (λ bs. option_map (with_log log bs) old.files) same
          ∙ ap (λ o. option_map (with_log log (log_bytes ran.answered.history)) o) known);
      log = file_named-with_file files.all log (log_bytes ran.answered.history);
      others = λ other differ. file_named-with_file_other files.all log other (log_bytes ran.answered.history) differ;
    }
