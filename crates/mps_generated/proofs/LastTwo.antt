-- The last two lines of a generated script, and their answers.
use Rattle.std.proofs.Common.{◌≡◌, ℕ, ◌+◌, ◌-◌, ◌≤◌, Bool, true, false, if◌then◌else◌, List, [], ◌∷◌, ◌++◌, length, drop, refl, sym, ◌∙◌, ap, subst, arith, append_assoc, append-nil}
use Rattle.std.specs.Prelude.{map}
use Rattle.std.proofs.Math.Seq.{drop-append_seam}
use Rattle.std.proofs.lemmas.List.{length-append}
use Rattle.mps_desk.specs.Desk.{Outside}
use Rattle.mps_model.specs.declared.call.Call.{Call}
use Rattle.mps_model.specs.declared.call.Call.TheVariants as call
use Rattle.mps_model.specs.declared.reply.Reply.{Reply}
use Rattle.mps_model.specs.declared.reply.Reply.TheVariants as reply
use Rattle.mps_model.specs.Answer.{Answer, Replied, answer_of, is_block}
use Rattle.mps_model.specs.Reply.{reply_to}
use Rattle.mps_model.specs.Step.{Step, History}
use Rattle.mps_model.specs.Text.{line_of_answer}
use Rattle.mps_model.specs.World.{World}
use Rattle.mps_model.specs.History.{IsLegalFrom, IsLegalStep, judged_world, moved_world, world_after_history}
use Rattle.mps_run.specs.declared.progress.Progress.{Progress}
use Rattle.mps_run.specs.Ending.{Ending}
use Rattle.mps_run.specs.Running.{LineLogged}
use Rattle.mps_run.specs.Script.{ScriptCommand, answer_of_step, answers_of, commands_of, max_lines}
use Rattle.mps_workload.specs.Script.{last_two_lines}
use Rattle.mps_generated.specs.Printing.{PrintsOrFails}
use Rattle.mps_generated.specs.Run.{LeavesGenerated, last_answers}
use Rattle.mps_generated.specs.Texts.{AreLineTexts, first_line, text_of}
use Rattle.mps_generated.proofs.SoFar.{LoggedSoFar, one_logged, leaves_at_end}
use Rattle.mps_generated.proofs.Texts.{texts_later}

-- ---- the answer of `live` is no dump

record IsReply (answer : Answer) : Type 0 where
  given : Reply
  is : answer ≡ Replied given

live_is_reply : (marked : Bool) (judged after : World) → IsReply (reply_to marked judged after call.Live)
live_is_reply marked judged after = record { given = _; is = refl }

answer_of_live : (w : World) (s : Step) → s.call ≡ call.Live → IsLegalStep w s → IsReply s.answer
answer_of_live w s is legal =
    let marked = is_block s.answer in
    let judged = judged_world w s.call s.moves in
    let after = moved_world w s.call s.moves in
    subst IsReply (sym (legal.answer_is_due ∙ ap (λ (c : Call). reply_to marked judged after c) is)) (live_is_reply marked judged after)

-- a reply that isn't a dump is the same answer whatever words the arena has
any_words : (before after : List ℕ) (given : Reply) → IsReply (answer_of before given) → answer_of after given ≡ answer_of before given
any_words before after (reply.Words at count) r =
    absurd (let wrong : answer_of before (reply.Words at count) ≡ Replied r.given = r.is in cc)
any_words before after given r = refl

-- ---- one step each

record OneStep (steps : History) (c : Call) : Type 0 where
  step : Step
  is : steps ≡ step ∷ []
  call : step.call ≡ c

one_step : (steps : History) (line : ℕ) (c : Call) → commands_of steps ≡ record { line = line; call = c } ∷ [] → OneStep steps c
one_step [] line c e =
    let none : List ScriptCommand = [] in let wrong : none ≡ record { line = line; call = c } ∷ [] = e in absurd cc
one_step (s ∷ []) line c e =
    let mine : ScriptCommand = record { line = s.line; call = s.call } in
    let its : ScriptCommand = record { line = line; call = c } in
    let whole : mine ∷ [] ≡ its ∷ [] = e in
    let same : mine ≡ its = cc in
    record { step = s; is = refl; call = ap (λ (k : ScriptCommand). k.call) same }
one_step (s ∷ t ∷ ss) line c e =
    let wrong : commands_of (s ∷ t ∷ ss) ≡ record { line = line; call = c } ∷ [] = e in absurd cc

told_as : (s : Step) (has_call : Bool) (answer : Answer) → answer_of_step s ∷ [] ≡ (if has_call then answer ∷ [] else [])
    → s.answer ≡ answer
told_as s true answer e = let same : s.answer ∷ [] ≡ answer ∷ [] = e in cc
told_as s false answer e = let none : List Answer = [] in let wrong : s.answer ∷ [] ≡ none = e in absurd cc

-- ---- their answer lines

last_of_two : (h : History) (s t : Step)
    → last_answers ((h ++ s ∷ []) ++ t ∷ []) ≡ line_of_answer s.answer ++ line_of_answer t.answer
last_of_two h s t =
    let both : History = s ∷ t ∷ [] in
    let joined : (h ++ s ∷ []) ++ t ∷ [] ≡ h ++ both = append_assoc h (s ∷ []) (t ∷ []) in
    let size : length (h ++ both) - 2 ≡ length h = (let all = length-append h both in omega (arith, all)) in
    ap last_answers joined
    ∙ (ap (λ n. answers_of (drop n (h ++ both))) size
    ∙ (ap answers_of (drop-append_seam h both)
    ∙ ap (λ (rest : List ℕ). line_of_answer s.answer ++ rest) (append-nil (line_of_answer t.answer))))

module _ (takes_memory : Call → Bool) (stood between stands : World → Type 0) (p q r : Progress) (all left : List (List ℕ))
    (old now mid late : Outside) (two : left ≡ last_two_lines) (f : LoggedSoFar stood p all left old now)
    (has_live has_committed : Bool) (words_then words : List ℕ) (live committed : Reply)
    (l : LineLogged stood between (if has_live then answer_of words_then live ∷ [] else []) p q (first_line left) now mid)
    (k : LineLogged between stands (if has_committed then answer_of words committed ∷ [] else []) q r (first_line (drop 1 left))
    mid late)
    (unprinted : now.printed ≡ old.printed) (same : mid.printed ≡ now.printed) (later : late.printed ≡ mid.printed)
    (texts : AreLineTexts left) (few : q.lines ≤ max_lines) (few_later : r.lines ≤ max_lines) where
  at_two : LoggedSoFar stood p all last_two_lines old now
  at_two = subst (λ (ls : List (List ℕ)). LoggedSoFar stood p all ls old now) two f

  its_live : LineLogged stood between (if has_live then answer_of words_then live ∷ [] else []) p q (first_line last_two_lines)
      now mid
  its_live = subst (λ (ls : List (List ℕ)). LineLogged stood between (if has_live then answer_of words_then live ∷ [] else []) p q
      (first_line ls) now mid) two l

  its_committed : LineLogged between stands (if has_committed then answer_of words committed ∷ [] else []) q r
      (first_line (drop 1 last_two_lines)) mid late
  its_committed = subst (λ (ls : List (List ℕ)). LineLogged between stands
      (if has_committed then answer_of words committed ∷ [] else []) q r (first_line (drop 1 ls)) mid late) two k

  their_texts : AreLineTexts last_two_lines
  their_texts = subst AreLineTexts two texts

  abbrev whole : LoggedSoFar stands r all [] old late
  whole =
      one_logged (one_logged at_two its_live same their_texts (omega arith) few) its_committed later
      (texts_later last_two_lines their_texts)
      (omega arith) few_later

  first_step : OneStep its_live.logs.steps call.Live
  first_step = one_step its_live.logs.steps (p.lines + 1) call.Live its_live.logs.answered.answers

  second_step : OneStep its_committed.logs.steps call.Committed
  second_step = one_step its_committed.logs.steps (q.lines + 1) call.Committed its_committed.logs.answered.answers

  first_answer : first_step.step.answer ≡ answer_of words_then live
  first_answer =
      told_as first_step.step has_live (answer_of words_then live)
      (sym (ap (λ (steps : History). map answer_of_step steps) first_step.is) ∙ its_live.logs.told)

  second_answer : second_step.step.answer ≡ answer_of words committed
  second_answer =
      told_as second_step.step has_committed (answer_of words committed)
      (sym (ap (λ (steps : History). map answer_of_step steps) second_step.is) ∙ its_committed.logs.told)

  -- the words of the arena may have changed since
  live_now : first_step.step.answer ≡ answer_of words live
  live_now =
      let w = world_after_history at_two.history in
      let legal : IsLegalFrom w (first_step.step ∷ []) =
      subst (IsLegalFrom w) first_step.is (its_live.logs.answered.legal w at_two.come.stands_for) in
      let is : IsReply first_step.step.answer = answer_of_live w first_step.step first_step.call legal.0 in
      first_answer ∙ sym (any_words words_then words live (subst IsReply first_answer is))

  answers_now : last_answers whole.history ≡ line_of_answer (answer_of words live) ++ line_of_answer (answer_of words committed)
  answers_now =
      let h = at_two.history in
      ap (λ (steps : History). last_answers ((h ++ steps) ++ its_committed.logs.steps)) first_step.is
      ∙ (ap (λ (steps : History). last_answers ((h ++ first_step.step ∷ []) ++ steps)) second_step.is
      ∙ (last_of_two h first_step.step second_step.step
      ∙ (ap (λ (a : Answer). line_of_answer a ++ line_of_answer second_step.step.answer) live_now
      ∙ ap (λ (a : Answer). line_of_answer (answer_of words live) ++ line_of_answer a) second_answer)))

  -- both were run, and their answers printed, or a part of them
  pub leaves_both : (new : Outside) (ends : Ending)
      → PrintsOrFails (line_of_answer (answer_of words live) ++ line_of_answer (answer_of words committed)) ends late new
      → LeavesGenerated takes_memory ends [] (text_of all) old new
  leaves_both new ends prints =
      leaves_at_end takes_memory stands r all old late new whole (later ∙ (same ∙ unprinted))
      (line_of_answer (answer_of words live) ++ line_of_answer (answer_of words committed)) answers_now ends prints
