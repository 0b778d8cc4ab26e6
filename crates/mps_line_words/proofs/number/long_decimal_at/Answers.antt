use Rattle.std.proofs.Common.{◌∙◌, ap, sym}
use Rattle.mps_numerals.specs.Decimal.{decimal_number}
use Rattle.mps_line_words.proofs.FirstWord.{word_before}
use Rattle.mps_line_words.proofs.number.long_decimal_at.Goals as goal

pub returns-in_err-n : goal.returns-in_err-n
returns-in_err-n c =
    rw c.from_residual.ensures
    (ap decimal_number (sym (word_before c.args.bytes.now c.after_word-rest.result.now c.after_word-rest.ensures.rest))
    ∙ sym c.decimal_number.ensures.value ∙ c.in_err-n.was)

pub returns : goal.returns
returns c = (
  ap decimal_number (sym (word_before c.args.bytes.now c.after_word-rest.result.now c.after_word-rest.ensures.rest))
      ∙ sym c.decimal_number.ensures.value ∙ c.in_ok-n.was,
  c.after_word-rest.ensures.rest,
)
