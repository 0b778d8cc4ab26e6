-- The call of a line by what stands after its spaces.
use Rattle.std.proofs.Common.{◌≡◌, ℕ, ◌==◌, nat_lt, Bool, true, false, Option, None, Ok, List, [], ◌∷◌, length, refl, sym, ap, ◌∙◌, arith}
use Rattle.std.proofs.lemmas.Bool.Decides.{nat_tests}
use Rattle.mps_model.specs.declared.call.Call.{Call}
use Rattle.mps_line_words.specs.Lines.{max_line_bytes}
use Rattle.mps_line_words.specs.Word.{words, is_space, word_at, after_spaces, after_word}
use Rattle.mps_line_words.proofs.FirstWord.{first_word, no_words_from, some_words_from, no_word, word_more}
use Rattle.mps_grammar.specs.Form.{command_call}
use Rattle.mps_script.specs.Line.{begins_comment, call_of_line, call_of_words, or_bad}

-- a comment begins with its word
begins_alike_by : (byte : ℕ) (bytes : List ℕ) (b : Bool) → is_space byte ≡ b
    → begins_comment (word_at (byte ∷ bytes)) ≡ begins_comment (byte ∷ bytes)
begins_alike_by byte bytes true space =
    let other : (byte == 35) ≡ false = grind (arith, nat_tests) in
    ap begins_comment (no_word byte bytes space) ∙ sym other
begins_alike_by byte bytes false space = ap begins_comment (word_more byte bytes space)

begins_alike : (line : List ℕ) → begins_comment (word_at line) ≡ begins_comment line
begins_alike [] = refl
begins_alike (byte ∷ bytes) = begins_alike_by byte bytes (is_space byte) refl

module _ (line : List ℕ) (short : nat_lt max_line_bytes (length line) ≡ false) where
  of_words : call_of_line line ≡ call_of_words (words line)
  of_words = rw short refl

  -- there are no words
  pub of_blank : (length (after_spaces line) == 0) ≡ true → Ok None ≡ call_of_line line
  of_blank empty = sym (of_words ∙ ap call_of_words (first_word line ∙ no_words_from (after_spaces line) empty))

  first_words : (length (after_spaces line) == 0) ≡ false
      → words line ≡ word_at (after_spaces line) ∷ words (after_word (after_spaces line))
  first_words some = first_word line ∙ some_words_from (after_spaces line) some

  -- a comment
  pub of_comment : (length (after_spaces line) == 0) ≡ false → begins_comment (after_spaces line) ≡ true → Ok None ≡ call_of_line line
  of_comment some comment =
      sym (of_words ∙ ap call_of_words (first_words some) ∙ rw (begins_alike (after_spaces line), comment) refl)

  -- a command
  pub of_command : (length (after_spaces line) == 0) ≡ false → begins_comment (after_spaces line) ≡ false → (o : Option Call)
      → o ≡ command_call (word_at (after_spaces line)) (words (after_word (after_spaces line))) → or_bad o ≡ call_of_line line
  of_command some other o is =
      ap or_bad is ∙ sym (of_words ∙ ap call_of_words (first_words some) ∙ rw (begins_alike (after_spaces line), other) refl)
