-- Which lines are a script: each is good by itself, the first call is `arena`, and no other is.
use Rattle.std.specs.Prelude.{ℕ, ◌≡◌, Bool, true, false, not, ◌&&◌, if◌then◌else◌, codes, Option, Some, None, Result, Ok, Err, is_ok, List, [], ◌∷◌, refl}
use Rattle.std.specs.List.{flat_map, list_all, list_any}
use Rattle.mps_model.specs.FirstCall.{is_arena}
use Rattle.mps_model.specs.declared.call.Call.{Call}
use Rattle.mps_script.specs.declared.line.BadLine.{BadLine}
use Rattle.mps_script.specs.Line.{call_of_line}

-- the line is good by itself
abbrev pub is_good : List ℕ → Bool
is_good line = is_ok (call_of_line line)

-- the call of a line, if it has one
abbrev pub call_or_none : Result (Option Call) BadLine → List Call
call_or_none (Ok (Some c)) = c ∷ []
call_or_none (Ok None) = []
call_or_none (Err bad) = []

-- the calls of lines, in order
abbrev pub calls_of : List (List ℕ) → List Call
calls_of lines = flat_map (λ line. call_or_none (call_of_line line)) lines

-- the first is `arena`, and no other is
abbrev pub begin_with_arena : List Call → Bool
begin_with_arena [] = true
begin_with_arena (first ∷ later) = is_arena first && not (list_any is_arena later)

-- the lines are a script
abbrev pub is_grammatical : List (List ℕ) → Bool
is_grammatical lines = list_all is_good lines && begin_with_arena (calls_of lines)

-- ---- one line more

-- there is a call
abbrev pub is_some_call : List Call → Bool
is_some_call [] = false
is_some_call (first ∷ later) = true

-- a call has its turn: `arena` if no call was before it, and any other if one was
abbrev pub has_turn : (has_arena is_arena : Bool) → Bool
has_turn true is_arena = not is_arena
has_turn false is_arena = is_arena

-- the call of the next line of a script, in which there is a call so far or none: bad if it hasn't its turn
abbrev pub in_turn : (has_arena : Bool) → Result (Option Call) BadLine → Result (Option Call) BadLine
in_turn has_arena (Err bad) = Err bad
in_turn has_arena (Ok None) = Ok None
in_turn has_arena (Ok (Some c)) = if has_turn has_arena (is_arena c) then Ok (Some c) else Err (record {})

-- the line is good there
abbrev pub is_good_after : (has_arena : Bool) → List ℕ → Bool
is_good_after has_arena line = is_ok (in_turn has_arena (call_of_line line))

-- whether there is a call after a line that is good
abbrev pub has_arena_after : (has_arena : Bool) → Result (Option Call) BadLine → Bool
has_arena_after has_arena (Err bad) = has_arena
has_arena_after has_arena (Ok None) = has_arena
has_arena_after has_arena (Ok (Some c)) = true

pub a_script : is_grammatical (codes "# x" ∷ codes "arena 1 0" ∷ [] ∷ codes "live" ∷ []) ≡ true
a_script = refl

pub no_lines_are_a_script : is_grammatical [] ≡ true
no_lines_are_a_script = refl

pub another_command_first : is_grammatical (codes "live" ∷ codes "arena 1 0" ∷ []) ≡ false
another_command_first = refl

pub an_arena_again : is_grammatical (codes "arena 1 0" ∷ codes "live" ∷ codes "arena 1 0" ∷ []) ≡ false
an_arena_again = refl

pub a_bad_line : is_grammatical (codes "arena 1 0" ∷ codes "foo" ∷ []) ≡ false
a_bad_line = refl
