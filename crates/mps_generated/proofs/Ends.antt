-- From the lines of a generated script to its whole run: the header of the log before them, and the report after them.
use Rattle.std.proofs.Common.{◌≡◌, ◌⊎◌, ℕ, Bool, ◌++◌, Ok, Err, OnOk, List, [], refl, ◌∙◌, ap, arith, inl, inr}
use Rattle.mps_desk.specs.Desk.{Outside, OnlyReports}
use Rattle.mps_base.specs.Record.{records_bytes}
use Rattle.mps_model.specs.Log.{written_log, pools_made}
use Rattle.mps_model.specs.declared.call.Call.{Call}
use Rattle.mps_report.specs.Streams.{appended}
use Rattle.mps_report.specs.declared.stop.Stop.TheVariants as stop
use Rattle.mps_report.specs.Reports.{status_of_ending}
use Rattle.mps_report.proofs.Appended.{appended_empty, appended_twice}
use Rattle.mps_run.specs.Ending.{Ending}
use Rattle.mps_run.specs.Leaving.{LeavesHeader, log_header, logged_of}
use Rattle.mps_generated.specs.Run.{EndsBeforeLog, LeavesGenerated}

-- the log has its header, and the lines were run after it
pub after_header : (takes_memory : Call → Bool) (ends : Ending) (script : List ℕ) (old start new : Outside) → start.printed ≡ old.printed
    → start.logged ≡ appended old.logged log_header → LeavesGenerated takes_memory ends [] script start new
    → LeavesGenerated takes_memory ends log_header script old new
after_header takes_memory ends script old start new printed logged l =
    let later = records_bytes (written_log l.history) ++ logged_of (pools_made l.history) l.part in
    record {
      ran = l.ran;
      later = l.later;
      lines = l.lines;
      history = l.history;
      run = l.run;
      part = l.part;
      is_part = l.is_part;
      begun = l.begun;
      text = l.text;
      printed = l.printed ∙ ap (λ known. appended known l.text) printed;
      ends_at = l.ends_at;
      logged = l.logged ∙ (ap (λ known. appended known later) logged ∙ appended_twice old.logged log_header later);
    }

-- the log couldn't be made
pub before_header : (old new : Outside) → new.printed ≡ old.printed → new.logged ≡ old.logged → LeavesHeader old new
before_header old new printed logged = record { printed = printed; count = 0; logged = logged ∙ appended_empty old.logged }

-- a report changes nothing of it
before_then_reported : (ends : Ending) (old mid new : Outside) → OnlyReports mid new → EndsBeforeLog ends old mid
    → EndsBeforeLog ends old new
before_then_reported (Err stop.LogFailed) old mid new o h =
    record { printed = o.printed ∙ h.printed; count = h.count; logged = o.logged ∙ h.logged }
before_then_reported (Err stop.WriteFailed) old mid new o h = absurd h
before_then_reported (Err stop.ReadFailed) old mid new o h = absurd h
before_then_reported (Err stop.TooLong) old mid new o h = absurd h
before_then_reported (Err stop.OutOfMemory) old mid new o h = absurd h
before_then_reported (Err (stop.Bad bad)) old mid new o h = absurd h
before_then_reported (Ok done) old mid new o h = absurd h

pub then_reported : (takes_memory : Call → Bool) (ends : Ending) (script : List ℕ) (old mid new : Outside) → OnlyReports mid new
    → EndsBeforeLog ends old mid ⊎ LeavesGenerated takes_memory ends log_header script old mid
    → EndsBeforeLog ends old new ⊎ LeavesGenerated takes_memory ends log_header script old new
then_reported takes_memory ends script old mid new o (inl h) = inl (before_then_reported ends old mid new o h)
then_reported takes_memory ends script old mid new o (inr l) = inr (record {
  ran = l.ran;
  later = l.later;
  lines = l.lines;
  history = l.history;
  run = l.run;
  part = l.part;
  is_part = l.is_part;
  begun = l.begun;
  text = l.text;
  printed = o.printed ∙ l.printed;
  ends_at = l.ends_at;
  logged = o.logged ∙ l.logged;
})

-- ---- the status

-- with status 0 all went well
pub went_well : {A : Type 0} (ends : Ending) → status_of_ending ends ≡ 0 → OnOk ends A → A
went_well (Ok done) e a = a
went_well (Err stop.ReadFailed) e a = absurd (omega (arith, e))
went_well (Err stop.WriteFailed) e a = absurd (omega (arith, e))
went_well (Err stop.LogFailed) e a = absurd (omega (arith, e))
went_well (Err (stop.Bad bad)) e a = absurd (omega (arith, e))
went_well (Err stop.TooLong) e a = absurd (omega (arith, e))
went_well (Err stop.OutOfMemory) e a = absurd (omega (arith, e))

pub where_well : {A B : Type 0} (ends : Ending) → (A → B) → OnOk ends A → OnOk ends B
where_well (Ok done) f a = f a
where_well (Err why) f a = tt

abbrev pub IsStatus : ℕ → Type 0
IsStatus n = (n ≡ 0) ⊎ (n ≡ 4) ⊎ (n ≡ 5) ⊎ (n ≡ 8)

pub known_status : (takes_memory : Call → Bool) (ends : Ending) (script : List ℕ) (old new : Outside)
    → EndsBeforeLog ends old new ⊎ LeavesGenerated takes_memory ends log_header script old new → IsStatus (status_of_ending ends)
known_status takes_memory (Ok done) script old new l = inl refl
known_status takes_memory (Err stop.WriteFailed) script old new l = inr (inl refl)
known_status takes_memory (Err stop.LogFailed) script old new l = inr (inr (inl refl))
known_status takes_memory (Err stop.OutOfMemory) script old new l = inr (inr (inr refl))
known_status takes_memory (Err stop.ReadFailed) script old new (inl h) = absurd h
known_status takes_memory (Err stop.ReadFailed) script old new (inr l) = absurd l.ends_at
known_status takes_memory (Err stop.TooLong) script old new (inl h) = absurd h
known_status takes_memory (Err stop.TooLong) script old new (inr l) = absurd l.ends_at
known_status takes_memory (Err (stop.Bad bad)) script old new (inl h) = absurd h
known_status takes_memory (Err (stop.Bad bad)) script old new (inr l) = absurd l.ends_at
