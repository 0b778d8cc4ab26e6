-- The step of a command that was answered, from what was logged and printed of it, and of the line in which it stands.
use Rattle.std.proofs.Common.{◌≡◌, ℕ, ◌+◌, ◌≤◌, Bool, true, None, Some, Ok, Err, OnOk, IfErr, [], ◌∷◌, ◌++◌, List, take, refl, sym, ◌∙◌, ap, subst, arith, append_assoc, append-nil, inl, inr, ◌⊎◌}
use Rattle.std.specs.Prelude.{if◌then◌else◌, is_ok, All, map}
use Rattle.std.specs.List.{flat_map}
use Rattle.std.proofs.lemmas.List.Elements.{All-from_recursion}
use Rattle.mps_event.specs.declared.version.Version.TheVariants.{Two}
use Rattle.mps_event.specs.Grammar.{IsRecord}
use Rattle.mps_desk.specs.Desk.{Outside, HasRisen}
use Rattle.mps_base.specs.declared.moves.Move.{Move}
use Rattle.mps_base.specs.Record.{Record, records_bytes}
use Rattle.mps_model.specs.declared.call.Call.{Call}
use Rattle.mps_model.specs.declared.call.Call.TheVariants as call
use Rattle.mps_model.specs.declared.reply.Reply.{Reply}
use Rattle.mps_model.specs.declared.reply.Reply.TheVariants as reply
use Rattle.mps_model.specs.Answer.{Answer, Replied, answer_of, is_accepted}
use Rattle.mps_model.specs.Step.{Step, History}
use Rattle.mps_model.specs.World.{World}
use Rattle.mps_model.specs.Log.{records_of, records_of_accepted, records_of_answered, records_of_command, records_of_label, labelled_log_from, records_with_label, pools_of_accepted, pools_made_by}
use Rattle.mps_model.specs.Text.{line_of_answer}
use Rattle.mps_commands.specs.RightAnswer.{step_in, IsLegalIn, StandsAfter}
use Rattle.mps_script.specs.Line.{call_of_line}
use Rattle.mps_script.specs.Script.{in_turn, has_arena_after}
use Rattle.mps_script.proofs.Scripts.{turn_taken}
use Rattle.mps_report.specs.Streams.{appended}
use Rattle.mps_report.specs.declared.stop.Stop.{Stop}
use Rattle.mps_report.specs.declared.stop.Stop.TheVariants as stop
use Rattle.mps_report.proofs.Appended.{appended_empty}
use Rattle.mps_run.specs.declared.bad_script_line.BadScriptLine.{BadScriptLine}
use Rattle.mps_run.specs.declared.progress.Progress.{Progress}
use Rattle.mps_run.specs.Ending.{Ending}
use Rattle.mps_run.specs.Leaving.{SomeRecords, SomeAnswer}
use Rattle.mps_run.specs.Running.{HasAnswered, PrintsOrStops, PrintsSomeAnswer, StepsLogged, LineLogged, LineRan, IsBegun, StopsWithin, IsReason, LineStops, IsReasonOfCall, CommandStops}
use Rattle.mps_run.specs.Script.{Line, ScriptCommand, answer_of_step, answers_of, commands_of_call}

-- a reply and its answer are accepted alike
accepted_alike : (words : List ℕ) (given : Reply) → is_accepted (answer_of words given) ≡ is_accepted (Replied given)
accepted_alike words (reply.Words at count) = refl
accepted_alike words given = refl

-- their labels are alike
label_alike : (words : List ℕ) (given : Reply) (c : Call) (line : ℕ)
    → records_of_label c (Replied given) line ≡ records_of_label c (answer_of words given) line
label_alike words (reply.Words at count) c line = none c
  where
    none : (c : Call) → records_of_label c (Replied (reply.Words at count)) line
        ≡ records_of_label c (answer_of words (reply.Words at count)) line
    none (call.Intern label) = refl
    none (call.Label slot label) = refl
    none _ = refl
label_alike words given c line = refl

-- what a machine promises of a call that it answered
pub record IsRightAnswer (stood stands_now : World → Type 0) (call : Call) (moves : List Move) (words : List ℕ)
    (given : Reply) : Type 0 where
  pub legal : IsLegalIn stood call moves (answer_of words given)
  pub stands : StandsAfter stood stands_now call moves (answer_of words given)

module _ (stood stands_now : World → Type 0) (line : ℕ) (call : Call) (moves : List Move) (words : List ℕ) (given : Reply)
    (is : IsRightAnswer stood stands_now call moves words given) where
  abbrev the_step : Step
  the_step = step_in line call moves (answer_of words given)

  -- the records that are logged
  abbrev the_records : (pools : ℕ) → List Record
  the_records pools = records_of moves line ++ records_of_answered pools call (Replied given) line

  -- they are those that the model gives the step
  same_records : (pools : ℕ) → the_records pools ≡ records_with_label pools the_step
  same_records pools =
      ap (λ (b : Bool). records_of moves line ++ ((if b then records_of_accepted pools call line else [])
      ++ records_of_label call (Replied given) line)) (sym (accepted_alike words given))
      ∙ ap (λ rs. records_of moves line ++ (records_of_command pools call (answer_of words given) line ++ rs))
      (label_alike words given call line)
      ∙ sym (append_assoc (records_of moves line) (records_of_command pools call (answer_of words given) line)
      (records_of_label call (answer_of words given) line))

  same_pools : pools_made_by call (Replied given) ≡ pools_made_by call (answer_of words given)
  same_pools = ap (λ (b : Bool). if b then pools_of_accepted call else 0) (sym (accepted_alike words given))

  begun : IsBegun stood (record { line = line; call = call } ∷ []) the_step
  begun = record {
    answers = refl;
    legal = λ w s. (is.legal w line s, tt);
  }

  module _ (pools pools_after : ℕ) (old new : Outside) where
    pub steps_logged : pools_after ≡ pools + pools_made_by call (Replied given) → pools_made_by call (Replied given) ≤ 1
        → new.logged ≡ appended old.logged (records_bytes (the_records pools)) → All (IsRecord Two) (the_records pools)
        → StepsLogged stood stands_now (record { line = line; call = call } ∷ []) (answer_of words given ∷ []) pools pools_after
        old new
    unfolding begun
    steps_logged made at_most logged recorded = record {
      steps = the_step ∷ [];
      answered = record {
        answers = refl;
        legal = begun.legal;
        stands = λ w s. is.stands w line s;
      };
      told = refl;
      pools = omega (arith, made, same_pools);
      at_most = omega (arith, made, at_most);
      logged = logged
          ∙ ap (λ rs. appended old.logged (records_bytes rs)) (same_records pools ∙ sym (append-nil (records_with_label pools the_step)));
      recorded = subst (All (IsRecord Two)) (same_records pools ∙ sym (append-nil (records_with_label pools the_step))) recorded;
    }

    -- a prefix of the records was logged
    pub some_records : (takes_memory : Call → Bool) (count : ℕ)
        → new.logged ≡ appended old.logged (take count (records_bytes (the_records pools)))
        → new.printed ≡ old.printed → CommandStops takes_memory stop.LogFailed stood line call pools old new
    unfolding begun
    some_records takes_memory count logged printed = record {
      reason = tt;
      within = record {
        part = SomeRecords the_step count;
        is_part = refl;
        begun = begun;
        printed = printed ∙ appended_empty old.printed;
        logged = logged ∙ ap (λ rs. appended old.logged (take count (records_bytes rs))) (same_records pools);
      };
    }

-- ---- the line

module _ (stood stands_now : World → Type 0) (p : Progress) (line : Line) (old new : Outside) where
  -- a line without a call
  pub empty_line : in_turn p.has_arena (call_of_line line) ≡ Ok None
      → LineLogged stood stood [] p (record p { lines = p.lines + 1 }) line old old
  empty_line turn =
      let e : call_of_line line ≡ Ok None = turn_taken p.has_arena (call_of_line line) None turn in
      record {
        good = ap is_ok turn;
        lines = refl;
        arena = ap (has_arena_after p.has_arena) (sym e);
        logs = record {
          steps = [];
          answered = record {
            answers = sym (ap (commands_of_call (p.lines + 1)) e);
            legal = λ w s. tt;
            stands = λ w s. s;
          };
          told = refl;
          pools = omega arith;
          at_most = omega arith;
          logged = appended_empty old.logged;
          recorded = All-from_recursion (IsRecord Two) [] tt;
        };
      }

  -- the command of a line that has a call
  command_of : (call : Call) → call_of_line line ≡ Ok (Some call)
      → record { line = p.lines + 1; call = call } ∷ [] ≡ commands_of_call (p.lines + 1) (call_of_line line)
  command_of call e = sym (ap (commands_of_call (p.lines + 1)) e)

  pub line_logged : (call : Call) (answers : List Answer) (pools : ℕ) → in_turn p.has_arena (call_of_line line) ≡ Ok (Some call)
      → StepsLogged stood stands_now (record { line = p.lines + 1; call = call } ∷ []) answers p.pools pools old new
      → LineLogged stood stands_now answers p (record { lines = p.lines + 1; has_arena = true; pools = pools }) line old new
  line_logged call answers pools turn logs =
      let e : call_of_line line ≡ Ok (Some call) = turn_taken p.has_arena (call_of_line line) (Some call) turn in
      record {
        good = ap is_ok turn;
        lines = refl;
        arena = ap (has_arena_after p.has_arena) (sym e);
        logs = subst (λ cs. StepsLogged stood stands_now cs answers p.pools pools old new) (command_of call e) logs;
      }

  reason_of : (takes_memory : Call → Bool) (call : Call) (why : Stop BadScriptLine) → call_of_line line ≡ Ok (Some call)
      → IsReasonOfCall takes_memory why call
      → IsReason takes_memory why p line
  reason_of takes_memory call stop.OutOfMemory e takes =
      record { command = record { line = p.lines + 1; call = call }; is = sym (command_of call e); takes = takes }
  reason_of takes_memory call stop.LogFailed e h = tt
  reason_of takes_memory call stop.WriteFailed e h = tt
  reason_of takes_memory call stop.ReadFailed e h = absurd h
  reason_of takes_memory call stop.TooLong e h = absurd h
  reason_of takes_memory call (stop.Bad bad) e h = absurd h

  pub line_stops : (takes_memory : Call → Bool) (call : Call) (ends : Ending) → in_turn p.has_arena (call_of_line line) ≡ Ok (Some call)
      → IfErr ends (λ why. CommandStops takes_memory why stood (p.lines + 1) call p.pools old new)
      → IfErr ends (λ why. LineStops takes_memory why stood p line old new)
  line_stops takes_memory call (Ok value) turn stops = tt
  line_stops takes_memory call (Err why) turn stops =
      let e : call_of_line line ≡ Ok (Some call) = turn_taken p.has_arena (call_of_line line) (Some call) turn in
      record {
        reason = reason_of takes_memory call why e stops.reason;
        within = subst (λ cs. StopsWithin why stood cs p.pools old new) (command_of call e) stops.within;
      }

-- ---- the answer

-- the answer lines of steps are those of their answers
pub texts_told : (steps : History) → answers_of steps ≡ flat_map line_of_answer (map answer_of_step steps)
texts_told [] = refl
texts_told (s ∷ ss) = ap (λ (rest : List ℕ). line_of_answer s.answer ++ rest) (texts_told ss)

module _ (stood stands_now : World → Type 0) (answers : List Answer) (p q : Progress) (line : Line) (old mid new : Outside)
    (l : LineLogged stood stands_now answers p q line old mid) (unprinted : mid.printed ≡ old.printed)
    (unlogged : new.logged ≡ mid.logged) where
  -- what was logged is printed too
  abbrev pub line_ran : new.printed ≡ appended mid.printed (flat_map line_of_answer answers)
      → LineRan stood stands_now p q line old new
  line_ran printed = record {
    good = l.good;
    lines = l.lines;
    arena = l.arena;
    ran = record {
      steps = l.logs.steps;
      answered = l.logs.answered;
      pools = l.logs.pools;
      at_most = l.logs.at_most;
      logged = unlogged ∙ l.logs.logged;
      printed = printed
          ∙ (ap (λ known. appended known (flat_map line_of_answer answers)) unprinted
          ∙ ap (appended old.printed) (ap (flat_map line_of_answer) (sym l.logs.told) ∙ sym (texts_told l.logs.steps)));
      recorded = l.logs.recorded;
    };
  }

-- a call that was to print failed
reason_of_print : (takes_memory : Call → Bool) (why : Stop BadScriptLine) (p : Progress) (line : Line)
    → (let ends : Ending = Err why in (ends ≡ Err stop.WriteFailed) ⊎ (ends ≡ Err stop.LogFailed)) → IsReason takes_memory why p line
reason_of_print takes_memory stop.LogFailed p line blames = tt
reason_of_print takes_memory stop.WriteFailed p line blames = tt
reason_of_print takes_memory stop.OutOfMemory p line (inl is) = absurd cc
reason_of_print takes_memory stop.OutOfMemory p line (inr is) = absurd cc
reason_of_print takes_memory stop.ReadFailed p line (inl is) = absurd cc
reason_of_print takes_memory stop.ReadFailed p line (inr is) = absurd cc
reason_of_print takes_memory stop.TooLong p line (inl is) = absurd cc
reason_of_print takes_memory stop.TooLong p line (inr is) = absurd cc
reason_of_print takes_memory (stop.Bad bad) p line (inl is) = absurd cc
reason_of_print takes_memory (stop.Bad bad) p line (inr is) = absurd cc

module _ (stood stands_now : World → Type 0) (answer : Answer) (p q : Progress) (line : Line) (old mid new : Outside)
    (l : LineLogged stood stands_now (answer ∷ []) p q line old mid) (unprinted : mid.printed ≡ old.printed)
    (no_fault : mid.out_faults ≡ old.out_faults) (unlogged : new.logged ≡ mid.logged) (why : Stop BadScriptLine)
    (some : PrintsSomeAnswer (line_of_answer answer) why mid new) where
  abbrev its_commands : List ScriptCommand
  its_commands = commands_of_call (p.lines + 1) (call_of_line line)

  cut_answer : (steps : History) → HasAnswered stood stands_now its_commands steps → map answer_of_step steps ≡ answer ∷ []
      → mid.logged ≡ appended old.logged (records_bytes (labelled_log_from p.pools steps))
      → StopsWithin why stood its_commands p.pools old new
  cut_answer [] answered told logged = absurd (let none : List Answer = [] in let wrong : none ≡ answer ∷ [] = told in cc)
  cut_answer (s ∷ []) answered told logged =
      let same : s.answer ∷ [] ≡ answer ∷ [] = told in
      let is : s.answer ≡ answer = cc in
      record {
        part = SomeAnswer s some.count;
        is_part = record {
          blames = some.stops.blames;
          fault = subst (λ n. HasRisen n new.out_faults) no_fault some.stops.fault;
        };
        begun = record { answers = answered.answers; legal = answered.legal };
        printed = some.printed
            ∙ (ap (λ known. appended known (take some.count (line_of_answer answer))) unprinted
            ∙ ap (λ (a : Answer). appended old.printed (take some.count (line_of_answer a))) (sym is));
        logged = unlogged
            ∙ (logged ∙ ap (λ rs. appended old.logged (records_bytes rs)) (append-nil (records_with_label p.pools s)));
      }
  cut_answer (s ∷ t ∷ ss) answered told logged =
      absurd (let wrong : s.answer ∷ t.answer ∷ map answer_of_step ss ≡ answer ∷ [] = told in cc)

  -- its answer was printed only in part
  pub line_cut : (takes_memory : Call → Bool) → LineStops takes_memory why stood p line old new
  line_cut takes_memory = record {
    reason = reason_of_print takes_memory why p line some.stops.blames;
    within = cut_answer l.logs.steps l.logs.answered l.logs.told l.logs.logged;
  }

module _ (stood stands_now : World → Type 0) (answer : Answer) (p q : Progress) (line : Line) (old mid new : Outside)
    (l : LineLogged stood stands_now (answer ∷ []) p q line old mid) (unprinted : mid.printed ≡ old.printed)
    (no_fault : mid.out_faults ≡ old.out_faults) where
  -- it was run where its answer was printed
  pub ran_if_printed : (ends : Ending) → PrintsOrStops (line_of_answer answer) ends mid new
      → OnOk ends (LineRan stood stands_now p q line old new)
  ran_if_printed (Ok done) prints =
      line_ran stood stands_now (answer ∷ []) p q line old mid new l unprinted prints.1
      (prints.0 ∙ ap (appended mid.printed) (sym (append-nil (line_of_answer answer))))
  ran_if_printed (Err why) prints = tt

  -- and stopped the run where it wasn't
  pub cut_if_not : (takes_memory : Call → Bool) (ends : Ending) → PrintsOrStops (line_of_answer answer) ends mid new
      → IfErr ends (λ why. LineStops takes_memory why stood p line old new)
  cut_if_not takes_memory (Ok done) prints = tt
  cut_if_not takes_memory (Err why) prints =
      line_cut stood stands_now answer p q line old mid new l unprinted no_fault prints.1 why prints.0 takes_memory
