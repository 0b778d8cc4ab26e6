use Rattle.std.proofs.Common.{◌+◌, ◌-◌, ◌/◌, ◌%◌, ◌<◌, length, ◌∙◌, arith}
use Rattle.mps_bits.proofs.Row.{bit_in_write_inside, bit_in_write_outside}
use Rattle.mps_bits.proofs.words.write_in_word.Goals as goal

pub returns-clause-inside : goal.returns-clause-inside
returns-clause-inside c = λ i from upto.
    let words = c.args.words.now in
    let at = c.args.from in
    let in_row : at / 64 < length words = omega (arith, c.requires.in_row, c.requires.nonempty) in
    bit_in_write_inside words at c.args.count c.with_bits.result i c.requires.in_word in_row from upto
    ∙ c.with_bits.ensures.inside (at % 64 + (i - at)) (omega arith) (omega (arith, from, upto))

pub returns-clause-unchanged : goal.returns-clause-unchanged
returns-clause-unchanged c = λ i out.
    let words = c.args.words.now in
    let at = c.args.from in
    let in_row : at / 64 < length words = omega (arith, c.requires.in_row, c.requires.nonempty) in
    bit_in_write_outside words at c.args.count c.with_bits.result i c.requires.in_word in_row c.with_bits.ensures.unchanged out
