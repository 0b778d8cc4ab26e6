use Rattle.std.proofs.Common.{arith, option_copied}
use Rattle.std.specs.Prelude.{decimal}
use Rattle.mps_txt.proofs.NumberTexts.{if_none, none_in_front, decimal_lacks}
use Rattle.mps_txt.proofs.record_line.leading_number.Goals as goal

pub returns-in_err-number-clause-complete : goal.returns-in_err-number-clause-complete
returns-in_err-number-clause-complete c =
    if_none c.from_residual.result _
    (none_in_front decimal (λ n fits. decimal_lacks 32 n (omega arith) fits) c.args.text.now c.split_word.result.0.now
    (option_copied c.split_word.result.1)
    c.split_word.ensures.text c.split_word.ensures.word c.in_err-number.ensures.complete)
