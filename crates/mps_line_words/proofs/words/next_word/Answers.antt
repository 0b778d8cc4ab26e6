use Rattle.std.proofs.Common.{◌∙◌, List, ℕ, ap, sym, refl}
use Rattle.mps_line_words.proofs.FirstWord.{first_word, words_from, no_words_from, some_words_from, word_before}
use Rattle.mps_line_words.proofs.words.next_word.Goals as goal

pub returns-then-is_empty : goal.returns-then-is_empty
returns-then-is_empty c =
    first_word c.args.bytes.now ∙ ap words_from (sym c.after_spaces-line.ensures)
    ∙ no_words_from c.after_spaces-line.result.now (sym c.is_empty.ensures ∙ c.if-is_empty.true)

pub returns : goal.returns
returns c =
    let line : List ℕ = c.after_spaces-line.result.now in
    let rest : List ℕ = c.after_word-rest.result.now in
    first_word c.args.bytes.now ∙ ap words_from (sym c.after_spaces-line.ensures)
    ∙ some_words_from line (sym c.is_empty.ensures ∙ c.if-is_empty.false)
    ∙ rw (word_before line rest c.after_word-rest.ensures.rest, c.after_word-rest.ensures.rest) refl
