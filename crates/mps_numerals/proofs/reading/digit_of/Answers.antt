use Rattle.std.proofs.Common.{◌≡◌, ◌∙◌, arith}
use Rattle.mps_numerals.specs.Reading.{digit_of}
use Rattle.mps_numerals.proofs.DigitValues.{value_there, at_most_sixteen}
use Rattle.mps_numerals.proofs.reading.digit_of.Goals as goal

pub returns-clause-value : goal.returns-clause-value
returns-clause-value c = c.from.ensures ∙ value_there c.args.byte (omega arith)

pub returns-clause-at_most : goal.returns-clause-at_most
returns-clause-at_most c =
    let value : c.from.result ≡ digit_of c.args.byte = c.from.ensures ∙ value_there c.args.byte (omega arith) in
    omega (arith, value, at_most_sixteen c.args.byte)
