use Rattle.std.proofs.Common.{◌∙◌, ap, sym}
use Rattle.mps_line_words.specs.Word.{is_none_left}
use Rattle.mps_line_words.proofs.FirstWord.{first_word, words_from, is_none}
use Rattle.mps_line_words.proofs.words.is_blank.Goals as goal

pub returns : goal.returns
returns c =
    c.is_empty.ensures ∙ is_none c.after_spaces.result.now
    ∙ ap is_none_left (ap words_from c.after_spaces.ensures ∙ sym (first_word c.args.bytes.now))
