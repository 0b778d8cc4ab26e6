-- What the run of a generated script has done so far, and what it leaves where it ends.
use Rattle.std.proofs.Common.{◌≡◌, ℕ, ◌<◌, ◌≤◌, ◌⊎◌, Bool, true, false, Ok, Err, List, [], ◌∷◌, ◌++◌, length, take, drop, refl, sym, ◌∙◌, ap, append_assoc, append-nil, inl, inr}
use Rattle.std.specs.List.{flat_map}
use Rattle.mps_desk.specs.Desk.{Outside}
use Rattle.mps_base.specs.Record.{records_bytes}
use Rattle.mps_model.specs.Answer.{Answer}
use Rattle.mps_model.specs.Step.{History}
use Rattle.mps_model.specs.Log.{written_log}
use Rattle.mps_model.specs.Text.{line_of_answer}
use Rattle.mps_model.specs.World.{World, empty_world}
use Rattle.mps_model.specs.declared.call.Call.{Call}
use Rattle.mps_script.specs.Line.{lines_of}
use Rattle.mps_script.specs.Script.{is_grammatical}
use Rattle.mps_report.specs.Streams.{appended}
use Rattle.mps_report.specs.declared.stop.Stop.{Stop}
use Rattle.mps_report.specs.declared.stop.Stop.TheVariants as stop
use Rattle.mps_report.proofs.Appended.{appended_empty, appended_twice}
use Rattle.mps_run.specs.declared.bad_script_line.BadScriptLine.{BadScriptLine}
use Rattle.mps_run.specs.declared.progress.Progress.{Progress}
use Rattle.mps_run.specs.Ending.{Ending}
use Rattle.mps_run.specs.Leaving.{Part, Nothing, SomeRecords, SomeAnswer, IsPartAt, logged_of}
use Rattle.mps_run.specs.Running.{IsReason, LineLogged, LineStops, not_begun}
use Rattle.mps_run.specs.Script.{Line, max_lines}
use Rattle.mps_run.proofs.GoodScript.{one_more_first}
use Rattle.mps_run.proofs.Leaving.{of_next, needs_memory, good_next}
use Rattle.mps_run.proofs.SoFar.{HasCome, come_at_start, come_more, logged_more}
use Rattle.mps_run.proofs.Steps.{line_ran}
use Rattle.mps_generated.specs.Printing.{PrintsOrFails}
use Rattle.mps_generated.specs.Run.{GeneratedEndsAt, LeavesGenerated, last_answers}
use Rattle.mps_generated.specs.Texts.{AreLineTexts, first_line, text_of}
use Rattle.mps_generated.proofs.Texts.{lines_more}

-- lines were run, of which these texts are left, and a history answers their commands; what was logged is its records
pub record LoggedSoFar (stands : World → Type 0) (p : Progress) (all left : List (List ℕ)) (old now : Outside)
    : Type 0 where
  pub ran : List Line
  pub history : History
  pub come : HasCome stands p ran history
  pub lines : lines_of (text_of all) ≡ ran ++ lines_of (text_of left)
  pub logged : now.logged ≡ appended old.logged (records_bytes (written_log history))

pub logged_at_start : (stands : World → Type 0) (p : Progress) (all : List (List ℕ)) (o : Outside) → p ≡ not_begun
    → stands empty_world → LoggedSoFar stands p all all o o
logged_at_start stands p all o is h = record {
  ran = [];
  history = [];
  come = come_at_start stands p is h;
  lines = refl;
  logged = appended_empty o.logged;
}

-- one line more was run
module _ {stood stands_now : World → Type 0} {answers : List Answer} {p q : Progress} {all left : List (List ℕ)}
    {old now new : Outside} (f : LoggedSoFar stood p all left old now)
    (l : LineLogged stood stands_now answers p q (first_line left) now new) (unprinted : new.printed ≡ now.printed) where
  -- the outside where its answer is printed
  abbrev told : Outside
  told = record new { printed = appended new.printed (flat_map line_of_answer answers) }

  abbrev pub one_logged : AreLineTexts left → 0 < length left → q.lines ≤ max_lines
      → LoggedSoFar stands_now q all (drop 1 left) old new
  one_logged texts some bounded = record {
    ran = f.ran ++ first_line left ∷ [];
    history = f.history ++ l.logs.steps;
    come = come_more stood stands_now p q f.ran f.history (first_line left) now told f.come
        (line_ran stood stands_now answers p q (first_line left) now new told l unprinted refl refl) bounded;
    lines = f.lines
        ∙ (ap (λ (ls : List Line). f.ran ++ ls) (lines_more left texts some)
        ∙ sym (append_assoc f.ran (first_line left ∷ []) (lines_of (text_of (drop 1 left)))));
    logged = logged_more old.logged now.logged new.logged f.history l.logs.steps p.pools f.come.pools f.logged l.logs.logged;
  }

-- ---- a line that stops the run

log_part : (why : Stop BadScriptLine) (part : Part) (old new : Outside) → (why ≡ stop.WriteFailed → ⊥) → IsPartAt (Err why) part old new
    → (part ≡ Nothing) ⊎ (let ends : Ending = Err why in ends ≡ Err stop.LogFailed)
log_part why Nothing old new unprinted is = inl refl
log_part why (SomeRecords step count) old new unprinted is = inr is
log_part why (SomeAnswer step count) old new unprinted is = blamed is.blames
  where
    blamed : (let ends : Ending = Err why in (ends ≡ Err stop.WriteFailed) ⊎ (ends ≡ Err stop.LogFailed))
        → (SomeAnswer step count ≡ Nothing) ⊎ (let ends : Ending = Err why in ends ≡ Err stop.LogFailed)
    blamed (inl wrong) = absurd (unprinted (let ends : Ending = Err why in let same : ends ≡ Err stop.WriteFailed = wrong in cc))
    blamed (inr right) = inr right

module _ (takes_memory : Call → Bool) (stands : World → Type 0) (p : Progress) (all left : List (List ℕ)) (old now new : Outside)
    (f : LoggedSoFar stands p all left old now) (texts : AreLineTexts left) (some : 0 < length left)
    (good : is_grammatical (lines_of (text_of all)) ≡ true) where
  first : take 1 (lines_of (text_of left)) ≡ first_line left ∷ []
  first = ap (take 1) (lines_more left texts some)

  -- no line is bad
  no_bad_line : is_grammatical (f.ran ++ take 1 (lines_of (text_of left))) ≡ true
  no_bad_line = one_more_first f.ran (lines_of (text_of left)) (sym (ap is_grammatical f.lines) ∙ good)

  ends_here : (why : Stop BadScriptLine) → (why ≡ stop.WriteFailed → ⊥) → IsReason takes_memory why p (first_line left)
      → GeneratedEndsAt takes_memory (Err why) f.ran (lines_of (text_of left)) f.history []
  ends_here stop.OutOfMemory unprinted reason =
      (refl, needs_memory stands p f.ran f.history f.come (first_line left) (lines_of (text_of left)) first takes_memory reason)
  ends_here stop.LogFailed unprinted reason = inl refl
  ends_here stop.WriteFailed unprinted reason = absurd (unprinted refl)
  ends_here (stop.Bad bad) unprinted reason =
      let wrong : true ≡ false = sym no_bad_line
      ∙ (good_next stands p f.ran f.history f.come (first_line left) (lines_of (text_of left)) first ∙ reason.1) in
      absurd cc
  ends_here stop.TooLong unprinted reason = absurd reason
  ends_here stop.ReadFailed unprinted reason = absurd reason

  pub leaves_at_line : (why : Stop BadScriptLine) → (why ≡ stop.WriteFailed → ⊥) → now.printed ≡ old.printed → new.printed ≡ now.printed
      → LineStops takes_memory why stands p (first_line left) now new → LeavesGenerated takes_memory (Err why) [] (text_of all) old new
  leaves_at_line why unprinted before after s = record {
    ran = f.ran;
    later = lines_of (text_of left);
    lines = f.lines;
    history = f.history;
    run = f.come.run;
    part = s.within.part;
    is_part = log_part why s.within.part now new unprinted s.within.is_part;
    begun = of_next stands p f.ran f.history f.come (first_line left) (lines_of (text_of left)) first s.within.part s.within.begun;
    text = [];
    printed = after ∙ (before ∙ appended_empty old.printed);
    ends_at = ends_here why unprinted s.reason;
    logged = s.within.logged
        ∙ (ap (λ known. appended known (logged_of p.pools s.within.part)) f.logged
        ∙ (appended_twice old.logged (records_bytes (written_log f.history)) (logged_of p.pools s.within.part)
        ∙ ap (λ n. appended old.logged (records_bytes (written_log f.history) ++ logged_of n s.within.part)) f.come.pools));
  }

-- ---- after the last line

module _ (takes_memory : Call → Bool) (stands : World → Type 0) (p : Progress) (all : List (List ℕ)) (old now new : Outside)
    (f : LoggedSoFar stands p all [] old now) (unprinted : now.printed ≡ old.printed) (whole : List ℕ)
    (answers : last_answers f.history ≡ whole) where
  leaves_printed : (ends : Ending) (text : List ℕ) → new.printed ≡ appended now.printed text → new.logged ≡ now.logged
      → GeneratedEndsAt takes_memory ends f.ran [] f.history text → LeavesGenerated takes_memory ends [] (text_of all) old new
  leaves_printed ends text printed logged ends_at = record {
    ran = f.ran;
    later = [];
    lines = f.lines;
    history = f.history;
    run = f.come.run;
    part = Nothing;
    is_part = inl refl;
    begun = tt;
    text = text;
    printed = printed ∙ ap (λ known. appended known text) unprinted;
    ends_at = ends_at;
    logged = logged ∙ (f.logged ∙ ap (appended old.logged) (sym (append-nil (records_bytes (written_log f.history)))));
  }

  cut_here : (why : Stop BadScriptLine) (count : ℕ) → (why ≡ stop.WriteFailed) ⊎ (why ≡ stop.LogFailed)
      → GeneratedEndsAt takes_memory (Err why) f.ran [] f.history (take count whole)
  cut_here stop.WriteFailed count blames = record { all = refl; front = record { count = count; is = ap (take count) (sym answers) } }
  cut_here stop.LogFailed count blames = inr (record { all = refl; front = record { count = count; is = ap (take count) (sym answers) } })
  cut_here stop.OutOfMemory count (inl is) = absurd cc
  cut_here stop.OutOfMemory count (inr is) = absurd cc
  cut_here stop.ReadFailed count (inl is) = absurd cc
  cut_here stop.ReadFailed count (inr is) = absurd cc
  cut_here stop.TooLong count (inl is) = absurd cc
  cut_here stop.TooLong count (inr is) = absurd cc
  cut_here (stop.Bad bad) count (inl is) = absurd cc
  cut_here (stop.Bad bad) count (inr is) = absurd cc

  pub leaves_at_end : (ends : Ending) → PrintsOrFails whole ends now new → LeavesGenerated takes_memory ends [] (text_of all) old new
  leaves_at_end (Ok done) prints = leaves_printed (Ok done) whole prints.0 prints.1 (refl, sym answers)
  leaves_at_end (Err why) prints =
      leaves_printed (Err why) (take prints.0.count whole) prints.0.printed prints.1 (cut_here why prints.0.count prints.0.blames)
