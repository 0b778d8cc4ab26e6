-- A script line by line.
use Rattle.std.proofs.Common.{◌≡◌, ℕ, ◌+◌, ◌<◌, ◌≤◌, Bool, true, false, List, [], ◌∷◌, ◌++◌, length, take, drop, refl, sym, ◌∙◌, ap, arith, append_assoc, append-nil, length-append}
use Rattle.std.specs.Prelude.{Option, Some, None, Result, Ok, Err, map}
use Rattle.std.specs.List.{slice_split}
use Rattle.std.proofs.lemmas.List.Splits.{slice_split-cons_yes, slice_split-cons_no}
use Rattle.std.proofs.lemmas.List.{drop-drop, length-map, map-append}
use Rattle.std.proofs.lemmas.Grind.{common_steps}
use Rattle.mps_model.specs.declared.call.Call.{Call}
use Rattle.mps_model.specs.Step.{Step, History}
use Rattle.mps_script.specs.declared.line.BadLine.{BadLine}
use Rattle.mps_script.specs.Script.{calls_of, call_or_none, has_arena_after, is_good_after, is_grammatical, is_some_call}
use Rattle.mps_script.proofs.Scripts.{script_grows, arena_after}
use Rattle.mps_answers.specs.Lines.{is_line_feed}
use Rattle.mps_script.specs.Line.{lines_of, without_empty_last, call_of_line}
use Rattle.mps_lines.specs.Buffer.{length_of_line}
use Rattle.mps_run.specs.Script.{ScriptCommand, commands_from, commands_of, command_of_step, commands_of_call}

abbrev rest_parts : List ℕ → List (List ℕ)
rest_parts [] = []
rest_parts (y ∷ ys) = slice_split is_line_feed ys

length_yes : (x : ℕ) (xs : List ℕ) → is_line_feed x ≡ true → length_of_line (x ∷ xs) ≡ 0
length_yes x xs h = rw h

length_no : (x : ℕ) (xs : List ℕ) → is_line_feed x ≡ false → length_of_line (x ∷ xs) ≡ 1 + length_of_line xs
length_no x xs h = rw h

take_more : (x n : ℕ) (xs : List ℕ) → take (1 + n) (x ∷ xs) ≡ x ∷ take n xs
take_more x n xs = grind (arith, common_steps)

drop_more : (x n : ℕ) (xs : List ℕ) → drop (1 + n) (x ∷ xs) ≡ drop n xs
drop_more x n xs = grind (arith, common_steps)

split_front_at : (x : ℕ) (xs : List ℕ) (b : Bool) → is_line_feed x ≡ b
    → slice_split is_line_feed xs ≡ take (length_of_line xs) xs ∷ rest_parts (drop (length_of_line xs) xs)
    → slice_split is_line_feed (x ∷ xs) ≡ take (length_of_line (x ∷ xs)) (x ∷ xs) ∷ rest_parts (drop (length_of_line (x ∷ xs)) (x ∷ xs))
split_front_at x xs true h ih = rw (slice_split-cons_yes is_line_feed x xs h, length_yes x xs h)
split_front_at x xs false h ih =
    rw (
      slice_split-cons_no is_line_feed x xs h,
      length_no x xs h,
      take_more x (length_of_line xs) xs,
      drop_more x
          (length_of_line xs) xs,
      ih,
    )

split_front : (xs : List ℕ) → slice_split is_line_feed xs ≡ take (length_of_line xs) xs ∷ rest_parts (drop (length_of_line xs) xs)
split_front [] = refl
split_front (x ∷ xs) = split_front_at x xs (is_line_feed x) refl (split_front xs)

-- a first line before others stays
first_stays : (line : List ℕ) (ys : List ℕ) → without_empty_last (line ∷ slice_split is_line_feed ys) ≡ line ∷ without_empty_last
    (slice_split is_line_feed ys)
first_stays line ys = rw (split_front ys) (stays line (take (length_of_line ys) ys) (rest_parts (drop (length_of_line ys) ys)))
  where
    stays : (line m : List ℕ) (ms : List (List ℕ)) → without_empty_last (line ∷ m ∷ ms) ≡ line ∷ without_empty_last (m ∷ ms)
    stays [] m ms = refl
    stays (x ∷ xs) m ms = refl

only_line : (line : List ℕ) → 0 < length line → without_empty_last (line ∷ []) ≡ line ∷ []
only_line [] h = absurd (omega arith)
only_line (x ∷ xs) h = refl

first_at : (bytes rest : List ℕ) → 0 < length bytes → drop (length_of_line bytes) bytes ≡ rest
    → lines_of bytes ≡ take (length_of_line bytes) bytes ∷ lines_of (drop 1 rest)
first_at bytes [] h e =
    let long : length bytes ≤ length_of_line bytes = grind (arith, common_steps, ap length e) in
    let all : take (length_of_line bytes) bytes ≡ bytes = grind (arith, common_steps) in
    ap without_empty_last (split_front bytes ∙ ap (λ r. take (length_of_line bytes) bytes ∷ rest_parts r) e)
    ∙ rw all (only_line bytes h)
first_at bytes (y ∷ ys) h e =
    ap without_empty_last (split_front bytes ∙ ap (λ r. take (length_of_line bytes) bytes ∷ rest_parts r) e)
    ∙ first_stays (take (length_of_line bytes) bytes) ys

-- the first line of what is left, and the lines after it
pub first_line : (bytes : List ℕ) → 0 < length bytes
    → lines_of bytes ≡ take (length_of_line bytes) bytes ∷ lines_of (drop (length_of_line bytes + 1) bytes)
first_line bytes h =
    let e : drop 1 (drop (length_of_line bytes) bytes) ≡ drop (length_of_line bytes + 1) bytes = drop-drop 1 (length_of_line bytes) bytes in
    first_at bytes (drop (length_of_line bytes) bytes) h refl ∙ ap (λ r. take (length_of_line bytes) bytes ∷ lines_of r) e

-- ---- commands

pub commands_append : (n : ℕ) (xs ys : List (List ℕ)) → commands_from n (xs ++ ys) ≡ commands_from n xs ++ commands_from (n + length xs) ys
commands_append n [] ys = ap (λ m. commands_from m ys) (omega arith)
commands_append n (x ∷ xs) ys =
    ap (λ r. commands_of_call n (call_of_line x) ++ r) (commands_append (n + 1) xs ys
    ∙ ap (λ m. commands_from (n + 1) xs ++ commands_from m ys) (omega arith))
    ∙ sym (append_assoc (commands_of_call n (call_of_line x)) (commands_from (n + 1) xs) (commands_from (n + length (x ∷ xs)) ys))

-- ---- the calls of lines, of their commands, and of a history that answers these

abbrev call_of_command : ScriptCommand → Call
call_of_command command = command.call

-- the calls that a history answers
abbrev pub calls_of_history : History → List Call
calls_of_history history = map (λ (s : Step). s.call) history

call_of_one : (line : ℕ) (r : Result (Option Call) BadLine) → map call_of_command (commands_of_call line r) ≡ call_or_none r
call_of_one line (Ok (Some c)) = refl
call_of_one line (Ok None) = refl
call_of_one line (Err bad) = refl

calls_of_commands : (line : ℕ) (ls : List (List ℕ)) → map call_of_command (commands_from line ls) ≡ calls_of ls
calls_of_commands line [] = refl
calls_of_commands line (l ∷ ls) =
    map-append call_of_command (commands_of_call line (call_of_line l)) (commands_from (line + 1) ls)
    ∙ (ap (λ (cs : List Call). cs ++ map call_of_command (commands_from (line + 1) ls)) (call_of_one line (call_of_line l))
    ∙ ap (λ (cs : List Call). call_or_none (call_of_line l) ++ cs) (calls_of_commands (line + 1) ls))

calls_of_answered : (h : History) → map call_of_command (commands_of h) ≡ calls_of_history h
calls_of_answered [] = refl
calls_of_answered (s ∷ h) = ap (λ (cs : List Call). s.call ∷ cs) (calls_of_answered h)

calls_known : (h : History) (ls : List (List ℕ)) → commands_of h ≡ commands_from 1 ls → calls_of_history h ≡ calls_of ls
calls_known h ls e = sym (calls_of_answered h) ∙ (ap (map call_of_command) e ∙ calls_of_commands 1 ls)

few_of_call : (line : ℕ) (r : Result (Option Call) BadLine) → length (commands_of_call line r) ≤ 1
few_of_call line (Ok (Some c)) = omega arith
few_of_call line (Ok None) = omega arith
few_of_call line (Err bad) = omega arith

few_commands : (line : ℕ) (ls : List (List ℕ)) → length (commands_from line ls) ≤ length ls
few_commands line [] = omega arith
few_commands line (l ∷ ls) =
    let both = length-append (commands_of_call line (call_of_line l)) (commands_from (line + 1) ls) in
    omega (arith, both, few_of_call line (call_of_line l), few_commands (line + 1) ls)

-- a history that answers the commands of lines has no more steps than there are lines
pub few_steps : (h : History) (ls : List (List ℕ)) → commands_of h ≡ commands_from 1 ls → length h ≤ length ls
few_steps h ls e = omega (arith, length-map h command_of_step, ap length e, few_commands 1 ls)

-- with one line more they are a script exactly where that line has its turn
pub grammar_more : (h : History) (ran : List (List ℕ)) (line : List ℕ) → is_grammatical ran ≡ true → commands_of h ≡ commands_from 1 ran
    → is_grammatical (ran ++ line ∷ []) ≡ is_good_after (is_some_call (calls_of_history h)) line
grammar_more h ran line good commands =
    script_grows ran line good ∙ ap (λ (cs : List Call). is_good_after (is_some_call cs) line) (sym (calls_known h ran commands))

-- and the history answers its command
pub commands_more : (h steps : History) (ran : List (List ℕ)) (line : List ℕ) → commands_of h ≡ commands_from 1 ran
    → commands_of steps ≡ commands_of_call (length ran + 1) (call_of_line line)
    → commands_of (h ++ steps) ≡ commands_from 1 (ran ++ line ∷ [])
commands_more h steps ran line commands answers =
    let last : commands_of_call (length ran + 1) (call_of_line line) ≡ commands_from (1 + length ran) (line ∷ []) =
    ap (λ m. commands_of_call m (call_of_line line)) (omega arith)
    ∙ sym (append-nil (commands_of_call (1 + length ran) (call_of_line line))) in
    map-append command_of_step h steps
    ∙ (ap (λ cs. cs ++ commands_of steps) commands
    ∙ (ap (λ cs. commands_from 1 ran ++ cs) (answers ∙ last) ∙ sym (commands_append 1 ran (line ∷ []))))

-- a line more, and whether there is a call then
pub arena_more : (h steps : History) (line : ℕ) (r : Result (Option Call) BadLine) → commands_of steps ≡ commands_of_call line r
    → is_some_call (calls_of_history (h ++ steps)) ≡ has_arena_after (is_some_call (calls_of_history h)) r
arena_more h steps line r answers =
    let new : calls_of_history steps ≡ call_or_none r
    = sym (calls_of_answered steps) ∙ (ap (map call_of_command) answers ∙ call_of_one line r) in
    ap is_some_call (map-append (λ (s : Step). s.call) h steps
    ∙ ap (λ (cs : List Call). calls_of_history h ++ cs) new)
    ∙ arena_after (calls_of_history h) r
