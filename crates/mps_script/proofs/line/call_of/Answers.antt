use Rattle.std.proofs.Common.{◌≡◌, ◌==◌, ◌∙◌, nat_lt, List, ℕ, false, length, ap, sym, arith}
use Rattle.std.proofs.lemmas.Bool.Decides.{nat_tests}
use Rattle.mps_line_words.specs.Lines.{max_line_bytes}
use Rattle.mps_line_words.specs.Word.{words, word_at, after_word}
use Rattle.mps_grammar.specs.Form.{command_call}
use Rattle.mps_grammar.specs.Filled.{filled}
use Rattle.mps_script.specs.Line.{begins_comment, or_bad}
use Rattle.mps_script.proofs.FirstOfLine.{of_blank, of_comment, of_command}
use Rattle.mps_script.proofs.line.call_of.Goals as goal

pub returns-then-is_empty : goal.returns-then-is_empty
returns-then-is_empty c =
    let short : nat_lt max_line_bytes (length c.args.line.now) ≡ false = grind (arith, nat_tests) in
    of_blank c.args.line.now short
    (ap (λ (l : List ℕ). length l == 0) (sym c.after_spaces-command.ensures) ∙ sym c.is_empty.ensures ∙ c.if-is_empty.true)

pub returns-then-is_comment : goal.returns-then-is_comment
returns-then-is_comment c =
    let short : nat_lt max_line_bytes (length c.args.line.now) ≡ false = grind (arith, nat_tests) in
    of_comment c.args.line.now short
    (ap (λ (l : List ℕ). length l == 0) (sym c.after_spaces-command.ensures) ∙ sym c.is_empty.ensures ∙ c.if-is_empty.false)
    (ap begins_comment (sym c.after_spaces-command.ensures) ∙ sym c.is_comment.ensures ∙ c.if-is_comment.true)

pub returns-in-None : goal.returns-in-None
returns-in-None c =
    let short : nat_lt max_line_bytes (length c.args.line.now) ≡ false = grind (arith, nat_tests) in
    ap (λ r. or_bad (filled r c.command_call.new.into)) (sym c.in-None.is)
    ∙ of_command c.args.line.now short
    (ap (λ (l : List ℕ). length l == 0) (sym c.after_spaces-command.ensures) ∙ sym c.is_empty.ensures ∙ c.if-is_empty.false)
    (ap begins_comment (sym c.after_spaces-command.ensures) ∙ sym c.is_comment.ensures ∙ c.if-is_comment.false)
    (filled c.command_call.result c.command_call.new.into)
    (c.command_call.ensures
    ∙ ap (λ (l : List ℕ). command_call (word_at l) (words (after_word l))) c.after_spaces-command.ensures)

pub returns-in-Some : goal.returns-in-Some
returns-in-Some c =
    let short : nat_lt max_line_bytes (length c.args.line.now) ≡ false = grind (arith, nat_tests) in
    ap (λ r. or_bad (filled r c.command_call.new.into)) (sym c.in-Some.is)
    ∙ of_command c.args.line.now short
    (ap (λ (l : List ℕ). length l == 0) (sym c.after_spaces-command.ensures) ∙ sym c.is_empty.ensures ∙ c.if-is_empty.false)
    (ap begins_comment (sym c.after_spaces-command.ensures) ∙ sym c.is_comment.ensures ∙ c.if-is_comment.false)
    (filled c.command_call.result c.command_call.new.into)
    (c.command_call.ensures
    ∙ ap (λ (l : List ℕ). command_call (word_at l) (words (after_word l))) c.after_spaces-command.ensures)
