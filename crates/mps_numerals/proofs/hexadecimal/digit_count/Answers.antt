use Rattle.std.proofs.Common.{◌∙◌, inl, inr, length, ap, arith}
use Rattle.std.proofs.lemmas.Bool.{cases_eq}
use Rattle.mps_numerals.specs.Hexadecimal.{hexadecimal}
use Rattle.mps_numerals.proofs.Digits.{one_long, digits_by_bits}
use Rattle.mps_numerals.proofs.hexadecimal.digit_count.Goals as goal

pub returns-clause-value : goal.returns-clause-value
returns-clause-value c =
    let bits = digits_by_bits c.max.result (omega (arith, c.max.ensures)) (omega (arith, c.max.ensures)) in
    elim (cases_eq c.args.number 0) [
      | inl none ↦ omega (arith, bits, one_long c.args.number (omega arith), one_long c.max.result (omega (arith, c.max.ensures)))
      | inr some ↦ bits ∙ ap (λ n. length (hexadecimal n)) (omega (arith, c.max.ensures, some))
    ]
