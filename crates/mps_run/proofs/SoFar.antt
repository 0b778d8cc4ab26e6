-- What a run has done so far, and what is left to do.
use Rattle.std.proofs.Common.{◌≡◌, ℕ, ◌+◌, ◌≤◌, Bool, Option, Some, None, List, [], ◌∷◌, ◌++◌, length, drop, refl, sym, ◌∙◌, ap, arith, append_assoc, length-append, subst, zero-add, add-one}
use Rattle.std.specs.Prelude.{All}
use Rattle.std.proofs.lemmas.Grind.{flat_map-append}
use Rattle.std.proofs.lemmas.List.Elements.{All-append, All-from_recursion}
use Rattle.mps_event.specs.declared.version.Version.TheVariants.{Two}
use Rattle.mps_event.specs.Grammar.{IsRecord}
use Rattle.mps_desk.specs.Desk.{Outside}
use Rattle.mps_base.specs.Record.{record_bytes, records_bytes}
use Rattle.mps_model.specs.Step.{Step, History}
use Rattle.mps_model.specs.Log.{labelled_log_from, written_log, pools_made}
use Rattle.mps_model.specs.World.{World, empty_world}
use Rattle.mps_model.specs.History.{world_after_history}
use Rattle.mps_model.specs.Text.{line_of_answer}
use Rattle.mps_model.proofs.Appending.{labelled_log_from-append, IsLegalFrom-append, world_after_steps-append}
use Rattle.mps_model.specs.Any.{numbered_layout}
use Rattle.mps_laws.proofs.Flipping.{no_more_than_steps}
use Rattle.mps_laws.proofs.Replays.LabelledLogs.{labelled_log_replays}
use Rattle.mps_commands.specs.Asked.{has_arena}
use Rattle.mps_script.specs.Line.{lines_of, call_of_line}
use Rattle.mps_script.specs.Script.{has_arena_after, is_good_after, is_some_call}
use Rattle.mps_report.specs.Streams.{appended}
use Rattle.mps_report.proofs.Appended.{appended_empty, appended_twice}
use Rattle.mps_lines.specs.Buffer.{ComesNextOf, after_lines, length_of_line}
use Rattle.mps_lines.specs.declared.next.Next.TheVariants as next
use Rattle.mps_run.specs.declared.progress.Progress.{Progress}
use Rattle.mps_run.specs.Running.{HasComeTo, LineRan, not_begun}
use Rattle.mps_run.specs.Script.{Line, HasRun, answers_of, commands_of, commands_of_call, max_lines}
use Rattle.mps_run.proofs.Asked.{arena_after_line}
use Rattle.mps_run.proofs.InRange.{call_in_range}
use Rattle.mps_run.proofs.LineByLine.{first_line, calls_of_history, commands_more, few_steps, grammar_more, arena_more}

-- these lines were run, and this history answers their commands, wherever they came from: the machine stands for the world after
-- it
pub record HasCome (stands : World → Type 0) (p : Progress) (ran : List Line) (history : History) : Type 0 where
  pub counted : length ran ≡ p.lines
  pub run : HasRun ran history
  pub stands_for : stands (world_after_history history)
  pub pools : p.pools ≡ pools_made history
  pub few : p.pools ≤ p.lines
  -- whether it has its arena, which its first call made
  pub arena : p.has_arena ≡ is_some_call (calls_of_history history)
  -- then it is there
  pub made : has_arena (world_after_history history) ≡ p.has_arena

-- and what was printed and logged since then is that of the history
pub record SoFar (stands : World → Type 0) (p : Progress) (old now : Outside) : Type 0 where
  pub ran : List Line
  pub history : History
  pub come : HasCome stands p ran history
  pub printed : now.printed ≡ appended old.printed (answers_of history)
  pub logged : now.logged ≡ appended old.logged (records_bytes (written_log history))

pub nothing_run : HasRun [] []
nothing_run = record {
  bounded = omega arith;
  grammatical = refl;
  commands = refl;
  legal = tt;
  replayed = refl;
  recorded = All-from_recursion (IsRecord Two) [] tt;
}

nothing_come : (stands : World → Type 0) → stands empty_world → HasCome stands not_begun [] []
nothing_come stands h = record {
  counted = refl;
  run = nothing_run;
  stands_for = h;
  pools = refl;
  few = omega arith;
  arena = refl;
  made = refl;
}

pub come_at_start : (stands : World → Type 0) (p : Progress) → p ≡ not_begun → stands empty_world → HasCome stands p [] []
come_at_start stands p is h = subst (λ (p : Progress). HasCome stands p [] []) (sym is) (nothing_come stands h)

-- before the first line
abbrev pub at_start : (stands : World → Type 0) (p : Progress) (o : Outside) → p ≡ not_begun → stands empty_world → SoFar stands p o o
at_start stands p o is h = record {
  ran = [];
  history = [];
  come = come_at_start stands p is h;
  printed = appended_empty o.printed;
  logged = appended_empty o.logged;
}

-- no more flips came than steps, and no more steps than lines
pub come_to : (stands : World → Type 0) (p : Progress) (ran : List Line) (history : History) → HasCome stands p ran history
    → HasComeTo stands p
come_to stands p ran history c =
    let flips : length (world_after_history history).flips ≤ length history = no_more_than_steps numbered_layout history c.run.legal in
    let steps : length history ≤ length ran = few_steps history ran c.run.commands in
    record {
      world = world_after_history history;
      stands = c.stands_for;
      flips = omega (arith, flips, steps, c.counted);
      arena = c.made;
    }

-- ---- one line more

pools_made-append : (h steps : History) → pools_made (h ++ steps) ≡ pools_made h + pools_made steps
pools_made-append [] steps = sym (zero-add (pools_made steps))
pools_made-append (s ∷ ss) steps = let e = pools_made-append ss steps in omega (arith, e)

-- the records of a history with more steps, where n pools were made before these
log_more : (h steps : History) (pools : ℕ) → pools ≡ pools_made h
    → written_log (h ++ steps) ≡ written_log h ++ labelled_log_from pools steps
log_more h steps pools count =
    labelled_log_from-append 0 h steps ∙ sym (ap (λ n. written_log h ++ labelled_log_from n steps) (count ∙ sym (zero-add (pools_made h))))

-- the history with the steps of a line that was run
module _ (stood stands_now : World → Type 0) (p q : Progress) (ran : List Line) (history : History) (line : Line)
    (old new : Outside) (c : HasCome stood p ran history) (l : LineRan stood stands_now p q line old new)
    (bounded : q.lines ≤ max_lines) where
  steps_answer : commands_of l.ran.steps ≡ commands_of_call (length ran + 1) (call_of_line line)
  steps_answer = l.ran.answered.answers ∙ ap (λ n. commands_of_call (n + 1) (call_of_line line)) (sym c.counted)

  run_more : HasRun (ran ++ line ∷ []) (history ++ l.ran.steps)
  run_more =
      let legal = IsLegalFrom-append empty_world history l.ran.steps c.run.legal
      (l.ran.answered.legal (world_after_history history) c.stands_for) in
      let logs : written_log (history ++ l.ran.steps) ≡ written_log history ++ labelled_log_from p.pools l.ran.steps =
      log_more history l.ran.steps p.pools c.pools in
      record {
        bounded = let size = length-append ran (line ∷ []) in omega (arith, size, c.counted, l.lines, bounded);
        grammatical = grammar_more history ran line c.run.grammatical c.run.commands
            ∙ (ap (λ (b : Bool). is_good_after b line) (sym c.arena) ∙ l.good);
        commands = commands_more history l.ran.steps ran line c.run.commands steps_answer;
        legal = legal;
        replayed = labelled_log_replays numbered_layout (history ++ l.ran.steps) legal;
        recorded = subst (All (IsRecord Two)) (sym logs)
            (All-append (IsRecord Two) (written_log history) (labelled_log_from p.pools l.ran.steps) c.run.recorded l.ran.recorded);
      }

  pub come_more : HasCome stands_now q (ran ++ line ∷ []) (history ++ l.ran.steps)
  come_more = record {
    counted = let size = length-append ran (line ∷ []) in omega (arith, size, c.counted, l.lines);
    run = run_more;
    stands_for = subst stands_now (sym (world_after_steps-append empty_world history l.ran.steps))
        (l.ran.answered.stands (world_after_history history) c.stands_for);
    pools = l.ran.pools ∙ (ap (λ n. n + pools_made l.ran.steps) c.pools ∙ sym (pools_made-append history l.ran.steps));
    few = omega (arith, l.ran.at_most, c.few, l.lines);
    arena = l.arena ∙ (ap (λ (b : Bool). has_arena_after b (call_of_line line)) c.arena
        ∙ sym (arena_more history l.ran.steps (length ran + 1) (call_of_line line) steps_answer));
    made = ap has_arena (world_after_steps-append empty_world history l.ran.steps)
        ∙ (arena_after_line (world_after_history history) p.has_arena c.made (length ran + 1) (call_of_line line) l.ran.steps steps_answer
        l.good (λ call e. call_in_range line call e)
        ∙ sym l.arena);
  }

-- what was printed of it
pub printed_more : (before now new : Option (List ℕ)) (h steps : History) → now ≡ appended before (answers_of h)
    → new ≡ appended now (answers_of steps) → new ≡ appended before (answers_of (h ++ steps))
printed_more before now new h steps first more =
    more ∙ (ap (λ known. appended known (answers_of steps)) first
    ∙ (appended_twice before (answers_of h) (answers_of steps)
    ∙ ap (appended before) (sym (flat_map-append (λ (t : Step). line_of_answer t.answer) h steps))))

-- what was logged of it, where n pools were made before
pub logged_more : (before now new : Option (List ℕ)) (h steps : History) (pools : ℕ) → pools ≡ pools_made h
    → now ≡ appended before (records_bytes (written_log h)) → new ≡ appended now (records_bytes (labelled_log_from pools steps))
    → new ≡ appended before (records_bytes (written_log (h ++ steps)))
logged_more before now new h steps pools count first more =
    more ∙ (ap (λ known. appended known (records_bytes (labelled_log_from pools steps))) first
    ∙ (appended_twice before (records_bytes (written_log h)) (records_bytes (labelled_log_from pools steps))
    ∙ ap (appended before) (sym (flat_map-append record_bytes (written_log h) (labelled_log_from pools steps))
    ∙ ap records_bytes (sym (log_more h steps pools count)))))

-- the line after those that were run was run too. Meanwhile nothing was printed or logged but of it
abbrev pub one_line_more : {stood stands_now : World → Type 0} {p q : Progress} {line : Line} {old now mid new : Outside}
    → SoFar stood p old now → mid.printed ≡ now.printed → mid.logged ≡ now.logged → LineRan stood stands_now p q line mid new
    → q.lines ≤ max_lines → SoFar stands_now q old new
one_line_more {stood} {stands_now} {p} {q} {line} {old} {now} {mid} {new} f printed logged l bounded = record {
  ran = f.ran ++ line ∷ [];
  history = f.history ++ l.ran.steps;
  come = come_more stood stands_now p q f.ran f.history line mid new f.come l bounded;
  printed = printed_more old.printed mid.printed new.printed f.history l.ran.steps (printed ∙ f.printed) l.ran.printed;
  logged = logged_more old.logged mid.logged new.logged f.history l.ran.steps p.pools f.come.pools (logged ∙ f.logged) l.ran.logged;
}

-- ---- lines that come from a script

-- the lines that were run are the first of a script, of which these bytes are left
pub record ReadUpTo (ran : List Line) (script rest : List ℕ) : Type 0 where
  pub lines : lines_of script ≡ ran ++ lines_of rest
  pub left : rest ≡ after_lines (length ran) script

-- the same, where the script is known
abbrev pub ReadSoFar : (ran : List Line) → (script left : Option (List ℕ)) → Type 0
ReadSoFar ran None left = left ≡ None
ReadSoFar ran (Some script) None = ⊥
ReadSoFar ran (Some script) (Some rest) = ReadUpTo ran script rest

pub read_nothing : (left : Option (List ℕ)) → ReadSoFar [] left left
read_nothing None = refl
read_nothing (Some script) = record { lines = refl; left = refl }

-- what is left, where the script is known
pub record IsKnown (ran : List Line) (script : List ℕ) (left : Option (List ℕ)) : Type 0 where
  pub rest : List ℕ
  pub is : left ≡ Some rest
  pub read : ReadUpTo ran script rest

pub known_rest : (ran : List Line) (script : List ℕ) (known left : Option (List ℕ)) → known ≡ Some script → ReadSoFar ran known left
    → IsKnown ran script left
known_rest ran script None left e r = absurd (let wrong : None ≡ Some script = e in cc)
known_rest ran script (Some known) None e r = absurd r
known_rest ran script (Some known) (Some rest) e r =
    let same : known ≡ script = (let whole : Some known ≡ Some script = e in cc) in
    record { rest = rest; is = refl; read = subst (λ (s : List ℕ). ReadUpTo ran s rest) same r }

-- the next line is the first of those that are left
pub next_line : (line rest rest2 : List ℕ) → ComesNextOf next.Line (Some rest) line (Some rest2) → lines_of rest ≡ line ∷ lines_of rest2
next_line line rest rest2 comes =
    let later : rest2 ≡ drop (length_of_line rest + 1) rest =
    (let whole : Some rest2 ≡ Some (drop (length_of_line rest + 1) rest) = comes.2 in cc) in
    first_line rest comes.0 ∙ ap (λ (l : List ℕ). l ∷ lines_of (drop (length_of_line rest + 1) rest)) (sym comes.1)
    ∙ ap (λ (bytes : List ℕ). line ∷ lines_of bytes) (sym later)

-- one line more was read
pub read_more : (ran : List Line) (script left : Option (List ℕ)) (line : Line) (left2 : Option (List ℕ)) → ReadSoFar ran script left
    → ComesNextOf next.Line left line left2 → ReadSoFar (ran ++ line ∷ []) script left2
read_more ran None None line left2 r comes = comes
read_more ran None (Some rest) line left2 r comes = absurd (let e : Some rest ≡ None = r in cc)
read_more ran (Some script) None line left2 r comes = absurd r
read_more ran (Some script) (Some rest) line None r comes =
    absurd (let e : None ≡ Some (drop (length_of_line rest + 1) rest) = comes.2 in cc)
read_more ran (Some script) (Some rest) line (Some rest2) r comes =
    let later : rest2 ≡ drop (length_of_line rest + 1) rest =
    (let whole : Some rest2 ≡ Some (drop (length_of_line rest + 1) rest) = comes.2 in cc) in
    let size : length (ran ++ line ∷ []) ≡ length ran + 1 = length-append ran (line ∷ []) in
    record {
      lines = r.lines ∙ (ap (λ (ls : List Line). ran ++ ls) (next_line line rest rest2 comes)
          ∙ sym (append_assoc ran (line ∷ []) (lines_of rest2)));
      left = later ∙ (ap (λ (bytes : List ℕ). drop (length_of_line bytes + 1) bytes) r.left
          ∙ sym (ap (λ n. after_lines n script) (size ∙ add-one (length ran))));
    }
