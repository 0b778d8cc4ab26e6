use Rattle.std.proofs.Common.{◌≡◌, ◌∙◌, ℕ, List, Option, Some, None, option_and_then, ap, refl, sym}
use Rattle.mps_format.specs.HeadText.{word_of}
use Rattle.mps_line_words.specs.Head.{head_of}
use Rattle.mps_line_words.specs.Reading.{single}
use Rattle.mps_line_words.specs.Word.{words, only_word, after_spaces}
use Rattle.mps_line_words.proofs.FirstWord.{words_spaced}
use Rattle.mps_line_words.proofs.Headed.{one_read}
use Rattle.mps_line_words.proofs.head.only_head.Goals as goal

-- the one word of a line is the one after its spaces
word_read : (bytes line : List ℕ) → line ≡ after_spaces bytes → (word : Option (List ℕ)) → only_word (words line) ≡ word
    → option_and_then head_of word ≡ single head_of (words bytes)
word_read bytes line is word e =
    ap (option_and_then head_of) (sym e ∙ ap only_word (ap words is ∙ words_spaced bytes))

pub returns-in-Some : goal.returns-in-Some
returns-in-Some c =
    ap Some c.word.ensures ∙ ap (option_and_then (λ h. Some (word_of h))) c.in-Some.ensures.0
    ∙ one_read head_of refl c.args.bytes.now c.after_spaces-line.result.now c.after_spaces-line.ensures c.in-Some.ensures.1

pub returns-in_err-only_word-in-None : goal.returns-in_err-only_word-in-None
returns-in_err-only_word-in-None c =
    c.from_residual.ensures
    ∙ word_read c.args.bytes.now c.after_spaces-line.result.now c.after_spaces-line.ensures None c.in_err-only_word-in-None.ensures

pub returns-in_ok-only_word-in-None : goal.returns-in_ok-only_word-in-None
returns-in_ok-only_word-in-None c =
    c.head_of.ensures
    ∙ word_read c.args.bytes.now c.after_spaces-line.result.now c.after_spaces-line.ensures _ c.in_ok-only_word-in-None.ensures
