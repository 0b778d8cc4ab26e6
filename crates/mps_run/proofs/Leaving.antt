-- What a run leaves, however it ends: from the line that ends it to the whole run.
use Rattle.std.proofs.Common.{◌≡◌, ℕ, ◌+◌, ◌<◌, ◌≤◌, ◌⊎◌, Bool, true, false, Option, Some, None, Ok, Err, List, [], ◌∷◌, ◌++◌, length, take, refl, sym, ◌∙◌, ap, arith, append-nil, subst, inl, inr, nat_lt}
use Rattle.std.specs.Option.{option_map}
use Rattle.std.proofs.lemmas.List.{length-take-le}
use Rattle.std.proofs.lemmas.Grind.{common_steps}
use Rattle.mps_desk.specs.Desk.{Outside, OnlyReports}
use Rattle.mps_base.specs.Record.{records_bytes}
use Rattle.mps_model.specs.declared.call.Call.{Call}
use Rattle.mps_model.specs.Step.{Step, History}
use Rattle.mps_model.specs.Log.{written_log, pools_made}
use Rattle.mps_model.specs.World.{World, empty_world}
use Rattle.mps_model.specs.History.{world_after_history}
use Rattle.mps_model.proofs.Appending.{IsLegalFrom-append}
use Rattle.mps_answers.specs.Lines.{max_line_bytes}
use Rattle.mps_script.specs.Line.{lines_of, call_of_line}
use Rattle.mps_script.specs.Script.{is_good_after, is_grammatical}
use Rattle.mps_report.specs.declared.stop.Stop.{Stop}
use Rattle.mps_report.specs.declared.stop.Stop.TheVariants as stop
use Rattle.mps_report.specs.Streams.{appended}
use Rattle.mps_report.proofs.Appended.{appended_empty, appended_twice}
use Rattle.mps_report.proofs.Outside.{reports_only-then}
use Rattle.mps_lines.specs.Buffer.{LineBuffer, ComesNextOf, KeepsUnread, length_of_line, rest_of_script}
use Rattle.mps_lines.specs.declared.next.Next.{Next}
use Rattle.mps_lines.specs.declared.next.Next.TheVariants as next
use Rattle.mps_lines.proofs.NextLine.{line_bound}
use Rattle.mps_run.specs.declared.bad_script_line.BadScriptLine.{BadScriptLine}
use Rattle.mps_run.specs.declared.progress.Progress.{Progress}
use Rattle.mps_run.specs.Ending.{Ending, IsFault, IsUnbegun, is_fault}
use Rattle.mps_report.proofs.Outside.{risen_earlier, risen_later}
use Rattle.mps_run.specs.Leaving.{Part, Nothing, SomeRecords, SomeAnswer, IsPartAt, IsOfNext, Begins, NeedsMemory, StopsReading, RunEndsAt, Leaves, LeavesRun, log_header, logged_of, printed_of}
use Rattle.mps_run.specs.Running.{IsBegun, IsPartOf, IsReason, LineStops}
use Rattle.mps_run.specs.Script.{Line, answers_of, commands_of_call, commands_from, max_lines}
use Rattle.mps_run.proofs.LineByLine.{first_line, commands_more, grammar_more}
use Rattle.mps_run.proofs.SoFar.{HasCome, SoFar, ReadUpTo, ReadSoFar, IsKnown, known_rest}

-- ---- the part of a longer time

-- it began earlier
part_earlier : (ends : Ending) (part : Part) (a b c : Outside) → a.out_faults ≤ b.out_faults → IsPartAt ends part b c
    → IsPartAt ends part a c
part_earlier ends Nothing a b c grew is = tt
part_earlier ends (SomeRecords step count) a b c grew is = is
part_earlier ends (SomeAnswer step count) a b c grew is =
    record { blames = is.blames; fault = risen_earlier a.out_faults b.out_faults c.out_faults grew is.fault }

-- it ended later
part_later : (ends : Ending) (part : Part) (a b c : Outside) → b.out_faults ≤ c.out_faults → IsPartAt ends part a b
    → IsPartAt ends part a c
part_later ends Nothing a b c grew is = tt
part_later ends (SomeRecords step count) a b c grew is = is
part_later ends (SomeAnswer step count) a b c grew is =
    record { blames = is.blames; fault = risen_later a.out_faults b.out_faults c.out_faults is.fault grew }

-- ---- between two lines, where nothing more was printed or logged

module _ (takes_memory : Call → Bool) (stands : World → Type 0) (p : Progress) (old now new : Outside) (f : SoFar stands p old now)
    (printed : new.printed ≡ now.printed) (logged : new.logged ≡ now.logged) (script : List ℕ) where
  leaves_nothing_more : (ends : Ending) (rest : List ℕ) → ReadUpTo f.ran script rest
      → RunEndsAt takes_memory ends f.ran (lines_of rest) script new.input → Leaves takes_memory ends [] script old new
  leaves_nothing_more ends rest r at = record {
    ran = f.ran;
    later = lines_of rest;
    lines = r.lines;
    history = f.history;
    run = f.come.run;
    part = Nothing;
    is_part = tt;
    begun = tt;
    ends_at = at;
    printed = printed ∙ (f.printed ∙ ap (appended old.printed) (sym (append-nil (answers_of f.history))));
    logged = logged ∙ (f.logged ∙ ap (appended old.logged) (sym (append-nil (records_bytes (written_log f.history)))));
  }

  some_line : (rest : List ℕ) → 0 < length rest → 0 < length (lines_of rest)
  some_line rest pos = let e = first_line rest pos in omega (arith, ap length e)

  -- with the first line that is left they are no script
  next_is_bad : (rest : List ℕ) (line : Line) → 0 < length rest → line ≡ take (length_of_line rest) rest
      → is_good_after p.has_arena line ≡ false → is_grammatical (f.ran ++ take 1 (lines_of rest)) ≡ false
  next_is_bad rest line pos is bad =
      ap (λ (ls : List Line). is_grammatical (f.ran ++ take 1 ls)) (first_line rest pos)
      ∙ (ap (λ (l : Line). is_grammatical (f.ran ++ l ∷ [])) (sym is)
      ∙ (grammar_more f.history f.ran line f.come.run.grammatical f.come.run.commands
      ∙ (ap (λ (b : Bool). is_good_after b line) (sym f.come.arena) ∙ bad)))

  long_line_is_bad : (line : Line) → max_line_bytes < length line → is_good_after p.has_arena line ≡ false
  long_line_is_bad line h = let t : nat_lt max_line_bytes (length line) ≡ true = grind (arith, common_steps) in rw t

  module _ (known left left2 : Option (List ℕ)) (line : Line) (e : known ≡ Some script) (read : ReadSoFar f.ran known left) where
    known_here : IsKnown f.ran script left
    known_here = known_rest f.ran script known left e read

    comes_here : (n : Next) → ComesNextOf n left line left2 → ComesNextOf n (Some known_here.rest) line left2
    comes_here n comes = subst (λ (l : Option (List ℕ)). ComesNextOf n l line left2) known_here.is comes

    -- at the end of the input
    pub ends_done : ComesNextOf next.End left line left2 → Leaves takes_memory (Ok tt) [] script old new
    ends_done comes =
        leaves_nothing_more (Ok tt) known_here.rest known_here.read (ap lines_of (comes_here next.End comes))

    -- where there are more lines than can be counted
    more_than_none : (n : Next) → (n ≡ next.End → ⊥) → ComesNextOf n (Some known_here.rest) line left2 → 0 < length known_here.rest
    more_than_none next.End not_end comes = absurd (not_end refl)
    more_than_none next.Line not_end comes = comes.0
    more_than_none next.TooLong not_end comes = omega (arith, comes, line_bound known_here.rest)

    pub ends_too_long : (n : Next) → (n ≡ next.End → ⊥) → ComesNextOf n left line left2 → p.lines ≡ max_lines
        → Leaves takes_memory (Err stop.TooLong) [] script old new
    ends_too_long n not_end comes count =
        leaves_nothing_more (Err stop.TooLong) known_here.rest known_here.read
        (f.come.counted ∙ count, some_line known_here.rest (more_than_none n not_end (comes_here n comes)))

    -- at a line that is too long
    pub ends_long_line : ComesNextOf next.TooLong left line left2 → p.lines + 1 ≤ max_lines
        → Leaves takes_memory (Err (stop.Bad (record { line = p.lines + 1 }))) [] script old new
    ends_long_line comes bounded =
        let rest = known_here.rest in
        let long : max_line_bytes < length_of_line rest = comes_here next.TooLong comes in
        let size : length (take (length_of_line rest) rest) ≡ length_of_line rest = length-take-le (length_of_line rest) rest
        (line_bound rest) in
        let bad : is_good_after p.has_arena (take (length_of_line rest) rest) ≡ false = long_line_is_bad (take (length_of_line rest) rest)
        (omega (arith, long)) in
        leaves_nothing_more (Err (stop.Bad (record { line = p.lines + 1 }))) rest known_here.read (
          ap (λ n. n + 1) (sym f.come.counted),
          bounded,
          next_is_bad rest (take (length_of_line rest) rest) (omega (arith, long, line_bound rest)) refl bad,
        )

    -- where a side failed
    stops_reading : (w x : LineBuffer) (before after : Option (List ℕ)) → left ≡ rest_of_script w before → new.input ≡ after
        → KeepsUnread w x before after → StopsReading (length f.ran) script new.input
    stops_reading w x before after is input k =
        unread_part after (k.left ∙ (sym is ∙ known_here.is)) input
      where
        unread_part : (after : Option (List ℕ)) → option_map (λ rest. x.waiting ++ rest) after ≡ Some known_here.rest → new.input ≡ after
            → StopsReading (length f.ran) script new.input
        unread_part None e input = absurd (let wrong : None ≡ Some known_here.rest = e in cc)
        unread_part (Some unread) e input = record {
          part = x.waiting;
          unread = unread;
          left = input;
          parts = sym known_here.read.left ∙ sym (let same : Some (x.waiting ++ unread) ≡ Some known_here.rest = e in cc);
          unfinished = k.unfinished;
        }

    pub ends_at_fault : (why : Stop BadScriptLine) (w x : LineBuffer) (before after : Option (List ℕ)) → IsFault why
        → left ≡ rest_of_script w before → new.input ≡ after → (why ≡ stop.ReadFailed → KeepsUnread w x before after)
        → Leaves takes_memory (Err why) [] script old new
    ends_at_fault why w x before after (inl at) is input k =
        subst (λ why. Leaves takes_memory (Err why) [] script old new) (sym at)
        (leaves_nothing_more (Err stop.ReadFailed) known_here.rest known_here.read (stops_reading w x before after is input (k at)))
    ends_at_fault why w x before after (inr (inl at)) is input k =
        subst (λ why. Leaves takes_memory (Err why) [] script old new) (sym at)
        (leaves_nothing_more (Err stop.LogFailed) known_here.rest known_here.read tt)
    ends_at_fault why w x before after (inr (inr at)) is input k =
        subst (λ why. Leaves takes_memory (Err why) [] script old new) (sym at)
        (leaves_nothing_more (Err stop.WriteFailed) known_here.rest known_here.read tt)

-- ---- at a line that stops the run

module _ (stands : World → Type 0) (p : Progress) (ran : List Line) (history : History)
    (come : HasCome stands p ran history) (line : Line) (later : List Line) (first : take 1 later ≡ line ∷ []) where
  -- a step of its command is one of the next command
  begins : (step : Step) → IsBegun stands (commands_of_call (p.lines + 1) (call_of_line line)) step
      → Begins ran later history step
  begins step b = record {
    commands = commands_more history (step ∷ []) ran line come.run.commands
        (b.answers ∙ ap (λ n. commands_of_call (n + 1) (call_of_line line)) (sym come.counted))
        ∙ ap (λ (ls : List Line). commands_from 1 (ran ++ ls)) (sym first);
    legal = IsLegalFrom-append empty_world history (step ∷ []) come.run.legal
        (b.legal (world_after_history history) come.stands_for);
  }

  pub of_next : (part : Part) → IsPartOf stands (commands_of_call (p.lines + 1) (call_of_line line)) part
      → IsOfNext ran later history part
  of_next Nothing b = tt
  of_next (SomeRecords step count) b = begins step b
  of_next (SomeAnswer step count) b = begins step b

  -- its command, for which there is no memory
  pub needs_memory : (takes_memory : Call → Bool) → NeedsMemory takes_memory (commands_of_call (p.lines + 1) (call_of_line line))
      → NeedsMemory takes_memory (commands_from (length ran + 1) (take 1 later))
  needs_memory takes_memory needs =
      subst (NeedsMemory takes_memory)
      (ap (λ n. commands_of_call (n + 1) (call_of_line line)) (sym come.counted)
      ∙ (sym (append-nil (commands_of_call (length ran + 1) (call_of_line line)))
      ∙ ap (λ (ls : List Line). commands_from (length ran + 1) ls) (sym first)))
      needs

  -- it is good where they are a script with it
  pub good_next : is_grammatical (ran ++ take 1 later) ≡ is_good_after p.has_arena line
  good_next =
      ap (λ (ls : List Line). is_grammatical (ran ++ ls)) first
      ∙ (grammar_more history ran line come.run.grammatical come.run.commands
      ∙ ap (λ (b : Bool). is_good_after b line) (sym come.arena))

module _ (takes_memory : Call → Bool) (stands : World → Type 0) (p : Progress) (old now mid new : Outside) (f : SoFar stands p old now)
    (printed : mid.printed ≡ now.printed) (logged : mid.logged ≡ now.logged) (script : List ℕ) (line : Line)
    (bounded : p.lines + 1 ≤ max_lines) (grew : old.out_faults ≤ mid.out_faults) where
  ends_here : (why : Stop BadScriptLine) (later : List Line) → take 1 later ≡ line ∷ [] → IsReason takes_memory why p line
      → RunEndsAt takes_memory (Err why) f.ran later script new.input
  ends_here stop.OutOfMemory later first needs = needs_memory stands p f.ran f.history f.come line later first takes_memory needs
  ends_here (stop.Bad bad) later first reason = (
    reason.0 ∙ ap (λ n. n + 1) (sym f.come.counted),
    omega (arith, reason.0, bounded),
    good_next stands p f.ran f.history f.come line later first ∙ reason.1,
  )
  ends_here stop.LogFailed later first reason = tt
  ends_here stop.WriteFailed later first reason = tt
  ends_here stop.TooLong later first reason = absurd reason
  ends_here stop.ReadFailed later first reason = absurd reason

  leaves_at : (why : Stop BadScriptLine) (rest : List ℕ) → ReadUpTo f.ran script rest → take 1 (lines_of rest) ≡ line ∷ []
      → LineStops takes_memory why stands p line mid new → Leaves takes_memory (Err why) [] script old new
  leaves_at why rest r first s = record {
    ran = f.ran;
    later = lines_of rest;
    lines = r.lines;
    history = f.history;
    run = f.come.run;
    part = s.within.part;
    is_part = part_earlier (Err why) s.within.part old mid new grew s.within.is_part;
    begun = of_next stands p f.ran f.history f.come line (lines_of rest) first s.within.part s.within.begun;
    ends_at = ends_here why (lines_of rest) first s.reason;
    printed = s.within.printed
        ∙ (ap (λ known. appended known (printed_of s.within.part)) (printed ∙ f.printed)
        ∙ appended_twice old.printed (answers_of f.history) (printed_of s.within.part));
    logged = s.within.logged
        ∙ (ap (λ known. appended known (logged_of p.pools s.within.part)) (logged ∙ f.logged)
        ∙ (appended_twice old.logged (records_bytes (written_log f.history)) (logged_of p.pools s.within.part)
        ∙ ap (λ n. appended old.logged (records_bytes (written_log f.history) ++ logged_of n s.within.part)) f.come.pools));
  }

  -- the line that was read stops the run
  pub leaves_line : (why : Stop BadScriptLine) (known left left2 : Option (List ℕ)) → known ≡ Some script → ReadSoFar f.ran known left
      → ComesNextOf next.Line left line left2 → LineStops takes_memory why stands p line mid new
      → Leaves takes_memory (Err why) [] script old new
  leaves_line why known left left2 e read comes s =
      let k = known_rest f.ran script known left e read in
      let here = subst (λ (l : Option (List ℕ)). ComesNextOf next.Line l line left2) k.is comes in
      leaves_at why k.rest k.read
      (ap (take 1) (first_line k.rest here.0) ∙ ap (λ (l : Line). l ∷ []) (sym here.1)) s

-- ---- the same lines, their history and the part of the next command

leaves_as : {takes_memory : Call → Bool} {ends : Ending} {header script : List ℕ} {old mid : Outside}
    (l : Leaves takes_memory ends header script old mid)
    (ends_now : Ending) (header_now : List ℕ) (first new : Outside) → IsPartAt ends_now l.part first new
    → RunEndsAt takes_memory ends_now l.ran l.later script new.input
    → new.printed ≡ appended first.printed (answers_of l.history ++ printed_of l.part)
    → new.logged
    ≡ appended first.logged (header_now ++ (records_bytes (written_log l.history) ++ logged_of (pools_made l.history) l.part))
    → Leaves takes_memory ends_now header_now script first new
leaves_as l ends_now header_now first new is_part ends_at printed logged = record {
  ran = l.ran;
  later = l.later;
  lines = l.lines;
  history = l.history;
  run = l.run;
  part = l.part;
  is_part = is_part;
  begun = l.begun;
  ends_at = ends_at;
  printed = printed;
  logged = logged;
}

-- ---- nothing more is printed or logged

module _ (takes_memory : Call → Bool) (header script : List ℕ) (old mid new : Outside) (printed : new.printed ≡ mid.printed)
    (logged : new.logged ≡ mid.logged) (input : new.input ≡ mid.input) where
  pub leaves_kept : (ends : Ending) → mid.out_faults ≤ new.out_faults → Leaves takes_memory ends header script old mid
      → Leaves takes_memory ends header script old new
  leaves_kept ends grew l =
      leaves_as l ends header old new (part_later ends l.part old mid new grew l.is_part)
      (subst (λ (i : Option (List ℕ)). RunEndsAt takes_memory ends l.ran l.later script i) (sym input) l.ends_at)
      (printed ∙ l.printed) (logged ∙ l.logged)

  no_fault_blamed : (ends : Ending) → is_fault ends ≡ false → (ends ≡ Err stop.WriteFailed) ⊎ (ends ≡ Err stop.LogFailed) → ⊥
  no_fault_blamed ends none (inl is) = let wrong : true ≡ false = sym (ap is_fault is) ∙ none in cc
  no_fault_blamed ends none (inr is) = let wrong : true ≡ false = sym (ap is_fault is) ∙ none in cc

  fault_or_none : (ends : Ending) (part : Part) → is_fault ends ≡ false → IsPartAt ends part old mid → part ≡ Nothing
  fault_or_none ends Nothing none is = refl
  fault_or_none ends (SomeRecords step count) none is = absurd (no_fault_blamed ends none (inr is))
  fault_or_none ends (SomeAnswer step count) none is = absurd (no_fault_blamed ends none is.blames)

  -- what waited could not be written after another ending
  pub leaves_unsettled : (ends : Ending) (why : Stop BadScriptLine) → is_fault ends ≡ false
      → (why ≡ stop.LogFailed) ⊎ (why ≡ stop.WriteFailed) → Leaves takes_memory ends header script old mid
      → Leaves takes_memory (Err why) header script old new
  leaves_unsettled ends why none is l =
      let nothing : Nothing ≡ l.part = sym (fault_or_none ends l.part none l.is_part) in
      leaves_as l (Err why) header old new (subst (λ (p : Part). IsPartAt (Err why) p old new) nothing tt) (of_fault why is) (printed
      ∙ l.printed)
      (logged ∙ l.logged)
    where
      of_fault : (why : Stop BadScriptLine) → (why ≡ stop.LogFailed) ⊎ (why ≡ stop.WriteFailed)
          → RunEndsAt takes_memory (Err why) l.ran l.later script new.input
      of_fault stop.LogFailed is = tt
      of_fault stop.WriteFailed is = tt
      of_fault stop.ReadFailed (inl is) = cc
      of_fault stop.ReadFailed (inr is) = cc
      of_fault stop.OutOfMemory (inl is) = cc
      of_fault stop.OutOfMemory (inr is) = cc
      of_fault stop.TooLong (inl is) = cc
      of_fault stop.TooLong (inr is) = cc
      of_fault (stop.Bad bad) (inl is) = cc
      of_fault (stop.Bad bad) (inr is) = cc

-- ---- the whole run

-- the same after the header of the log
pub leaves_after_header : (takes_memory : Call → Bool) (ends : Ending) (script : List ℕ) (old start new : Outside)
    → old.out_faults ≤ start.out_faults
    → start.printed ≡ old.printed
    → start.logged ≡ appended old.logged log_header → Leaves takes_memory ends [] script start new
    → LeavesRun takes_memory ends script old new
leaves_after_header takes_memory ends script old start new grew printed logged l =
    let later = records_bytes (written_log l.history) ++ logged_of (pools_made l.history) l.part in
    inr (leaves_as l ends log_header old new (part_earlier ends l.part old start new grew l.is_part) l.ends_at
    (l.printed ∙ ap (λ known. appended known (answers_of l.history ++ printed_of l.part)) printed)
    (l.logged ∙ (ap (λ known. appended known later) logged ∙ appended_twice old.logged log_header later)))

-- the script can't be opened, or the log can't be made
pub leaves_unbegun : (takes_memory : Call → Bool) (why : Stop BadScriptLine) (script : List ℕ) (old new : Outside)
    → (why ≡ stop.ReadFailed) ⊎ (why ≡ stop.LogFailed) → IsUnbegun old new → LeavesRun takes_memory (Err why) script old new
leaves_unbegun takes_memory why script old new (inl is) u = subst (λ why. LeavesRun takes_memory (Err why) script old new) (sym is) (inl u)
leaves_unbegun takes_memory why script old new (inr is) u =
    subst (λ why. LeavesRun takes_memory (Err why) script old new) (sym is)
    (inl (record { printed = u.printed; count = 0; logged = u.logged ∙ appended_empty old.logged }))

-- a report changes nothing of what the run leaves
pub leaves_then_reported : (takes_memory : Call → Bool) (script : List ℕ) (old mid new : Outside) → OnlyReports mid new → (ends : Ending)
    → LeavesRun takes_memory ends script old mid → LeavesRun takes_memory ends script old new
leaves_then_reported takes_memory script old mid new o ends (inr l) =
    inr (leaves_kept takes_memory log_header script old mid new o.printed o.logged o.input ends (omega (arith, o.out_faults)) l)
leaves_then_reported takes_memory script old mid new o (Err stop.ReadFailed) (inl u) =
    inl (record { printed = o.printed ∙ u.printed; logged = o.logged ∙ u.logged })
leaves_then_reported takes_memory script old mid new o (Err stop.OutOfMemory) (inl u) = inl (reports_only-then old mid new u o)
leaves_then_reported takes_memory script old mid new o (Err stop.LogFailed) (inl u) =
    inl (record { printed = o.printed ∙ u.printed; count = u.count; logged = o.logged ∙ u.logged })
leaves_then_reported takes_memory script old mid new o (Ok done) (inl u) = absurd u
leaves_then_reported takes_memory script old mid new o (Err stop.WriteFailed) (inl u) = absurd u
leaves_then_reported takes_memory script old mid new o (Err stop.TooLong) (inl u) = absurd u
leaves_then_reported takes_memory script old mid new o (Err (stop.Bad bad)) (inl u) = absurd u
