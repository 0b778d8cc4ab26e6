use Rattle.std.proofs.Common.{◌+◌, ◌-◌, ◌/◌, ◌%◌, ◌<◌, ◌≤◌, ◌⊎◌, length, ◌∙◌, inl, inr, arith}
use Rattle.mps_bits.proofs.Row.{bit_in_write_inside, bit_in_write_outside}
use Rattle.mps_bits.proofs.words.write_range.Goals as goal

pub returns-then-from-to-le64-clause-inside : goal.returns-then-from-to-le64-clause-inside
returns-then-from-to-le64-clause-inside c = λ i from upto.
    let words = c.args.words.now in
    let at = c.args.from in
    let width = c.args.to - at in
    let in_word : at % 64 + width ≤ 64 = c.if-from-to-le64.true in
    let in_row : at / 64 < length words = omega (arith, c.requires, c.if-from-to.true) in
    bit_in_write_inside words at width c.with_bits.result i in_word in_row from (omega (arith, upto, c.if-from-to.true))
    ∙ c.with_bits.ensures.inside (at % 64 + (i - at)) (omega arith) (omega (arith, from, upto))

pub returns-then-from-to-le64-clause-unchanged : goal.returns-then-from-to-le64-clause-unchanged
returns-then-from-to-le64-clause-unchanged c = λ i out.
    let words = c.args.words.now in
    let at = c.args.from in
    let width = c.args.to - at in
    let in_word : at % 64 + width ≤ 64 = c.if-from-to-le64.true in
    let in_row : at / 64 < length words = omega (arith, c.requires, c.if-from-to.true) in
    let apart : (i < at) ⊎ (at + width ≤ i) =
    elim out [ inl before ↦ inl before | inr after ↦ inr (omega (arith, after, c.if-from-to.true)) ]
    in
    bit_in_write_outside words at width c.with_bits.result i in_word in_row c.with_bits.ensures.unchanged apart
