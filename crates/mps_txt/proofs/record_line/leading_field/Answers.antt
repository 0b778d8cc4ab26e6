use Rattle.std.proofs.Common.{arith, option_copied}
use Rattle.mps_numerals.specs.Hexadecimal.{hexadecimal}
use Rattle.mps_txt.proofs.NumberTexts.{if_none, none_in_front, hexadecimal_lacks}
use Rattle.mps_txt.proofs.record_line.leading_field.Goals as goal

pub returns-in_err-number-clause-complete : goal.returns-in_err-number-clause-complete
returns-in_err-number-clause-complete c =
    if_none c.from_residual.result _
    (none_in_front hexadecimal (λ n fits. hexadecimal_lacks 32 n (omega arith)) c.args.text.now c.split_word.result.0.now
    (option_copied c.split_word.result.1)
    c.split_word.ensures.text c.split_word.ensures.word c.in_err-number.ensures.complete)
