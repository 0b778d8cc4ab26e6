-- The lines of a script, and the call of each.
use Rattle.std.specs.Prelude.{ℕ, ◌≡◌, ◌==◌, nat_lt, Bool, false, if◌then◌else◌, codes, Option, Some, None, Result, Ok, Err, List, [], ◌∷◌, ◌++◌, length, refl}
use Rattle.std.specs.List.{slice_split}
use Rattle.mps_model.specs.declared.call.Call.{Call}
use Rattle.mps_script.specs.declared.line.BadLine.{BadLine}
use Rattle.mps_line_words.specs.Lines.{is_line_feed, max_line_bytes}
use Rattle.mps_line_words.specs.Word.{words}
use Rattle.mps_grammar.specs.Form.{command_call}

-- without the last part if that is empty
abbrev pub without_empty_last : List (List ℕ) → List (List ℕ)
without_empty_last [] = []
without_empty_last ([] ∷ []) = []
without_empty_last ((b ∷ bs) ∷ []) = (b ∷ bs) ∷ []
without_empty_last (l ∷ m ∷ ls) = l ∷ without_empty_last (m ∷ ls)

-- the lines of a script: each ends at a line feed or at the end
abbrev pub lines_of : List ℕ → List (List ℕ)
lines_of script = without_empty_last (slice_split is_line_feed script)

-- the word begins with `#`
abbrev pub begins_comment : List ℕ → Bool
begins_comment [] = false
begins_comment (b ∷ bs) = b == 35

-- bad if there is no call
abbrev pub or_bad : Option Call → Result (Option Call) BadLine
or_bad None = Err (record {})
or_bad (Some c) = Ok (Some c)

-- the call of a line's words: none if there are no words or they are a comment, bad if they are in the form of no command
abbrev pub call_of_words : List (List ℕ) → Result (Option Call) BadLine
call_of_words [] = Ok None
call_of_words (word ∷ ws) = if begins_comment word then Ok None else or_bad (command_call word ws)

-- the call of a line: bad if the line is too long or in the form of no command, none if it is empty, of spaces alone or a
-- comment
abbrev pub call_of_line : List ℕ → Result (Option Call) BadLine
call_of_line line = if nat_lt max_line_bytes (length line) then Err (record {}) else call_of_words (words line)

pub the_last_line_needs_no_line_feed : lines_of (codes "a\n\nb") ≡ codes "a" ∷ [] ∷ codes "b" ∷ []
the_last_line_needs_no_line_feed = refl

pub nothing_after_the_last_line_feed : lines_of (codes "a\n") ≡ codes "a" ∷ []
nothing_after_the_last_line_feed = refl

pub no_lines : lines_of [] ≡ []
no_lines = refl

pub a_comment_of_any_bytes : call_of_line (codes "  #" ++ 9 ∷ 255 ∷ []) ≡ Ok None
a_comment_of_any_bytes = refl

pub a_tab_begins_no_comment : call_of_line (9 ∷ codes "# x") ≡ Err (record {})
a_tab_begins_no_comment = refl

pub spaces_alone : call_of_line (codes "   ") ≡ Ok None
spaces_alone = refl

pub an_unknown_command : call_of_line (codes "foo") ≡ Err (record {})
an_unknown_command = refl
