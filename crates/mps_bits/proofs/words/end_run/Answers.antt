use Rattle.std.proofs.Common.{ℕ, ◌+◌, ◌-◌, ◌/◌, ◌%◌, ◌<◌, ◌≤◌, ◌≡◌, ◌⊎◌, length, ap, ◌∙◌, inl, inr, arith}
use Rattle.std.specs.Int.{bit_at}
use Rattle.mps_bits.proofs.Row.{bit_in_write_inside, bit_in_write_outside}
use Rattle.mps_bits.proofs.words.end_run.Goals as goal

pub returns-then-from-to-le64-clause-last : goal.returns-then-from-to-le64-clause-last
returns-then-from-to-le64-clause-last c =
    let words = c.args.words.now in
    let at = c.args.from in
    let width = c.args.to - at in
    let in_word : at % 64 + width ≤ 64 = c.if-from-to-le64.true in
    let in_row : at / 64 < length words = omega (arith, c.requires.in_row, c.requires.nonempty) in
    let index : at % 64 + (c.args.to - 1 - at) ≡ at % 64 + width - 1 = omega (arith, c.requires.nonempty) in
    bit_in_write_inside words at width c.with_last.result (c.args.to - 1) in_word in_row (omega (arith, c.requires.nonempty))
    (omega (arith, c.requires.nonempty))
    ∙ ap (λ (k : ℕ). bit_at c.with_last.result k) index ∙ c.with_last.ensures.last

pub returns-then-from-to-le64-clause-others : goal.returns-then-from-to-le64-clause-others
returns-then-from-to-le64-clause-others c = λ i from upto.
    let words = c.args.words.now in
    let at = c.args.from in
    let width = c.args.to - at in
    let in_word : at % 64 + width ≤ 64 = c.if-from-to-le64.true in
    let in_row : at / 64 < length words = omega (arith, c.requires.in_row, c.requires.nonempty) in
    bit_in_write_inside words at width c.with_last.result i in_word in_row from (omega (arith, upto))
    ∙ c.with_last.ensures.others (at % 64 + (i - at)) (omega arith) (omega (arith, from, upto))

pub returns-then-from-to-le64-clause-unchanged : goal.returns-then-from-to-le64-clause-unchanged
returns-then-from-to-le64-clause-unchanged c = λ i out.
    let words = c.args.words.now in
    let at = c.args.from in
    let width = c.args.to - at in
    let in_word : at % 64 + width ≤ 64 = c.if-from-to-le64.true in
    let in_row : at / 64 < length words = omega (arith, c.requires.in_row, c.requires.nonempty) in
    let apart : (i < at) ⊎ (at + width ≤ i) =
    elim out [ inl before ↦ inl before | inr after ↦ inr (omega (arith, after, c.requires.nonempty)) ]
    in
    bit_in_write_outside words at width c.with_last.result i in_word in_row c.with_last.ensures.unchanged apart

pub returns-else-from-to-le64-clause-others : goal.returns-else-from-to-le64-clause-others
returns-else-from-to-le64-clause-others c = λ i from upto.
    c.write_bit.ensures.unchanged i (λ e. omega arith) ∙ c.write_words.ensures.inside i from (omega arith)

pub returns-else-from-to-le64-clause-unchanged : goal.returns-else-from-to-le64-clause-unchanged
returns-else-from-to-le64-clause-unchanged c = λ i out.
    c.write_bit.ensures.unchanged i
    (λ e. elim out [ inl before ↦ omega (arith, c.requires.nonempty) | inr after ↦ omega (arith, c.requires.nonempty) ])
    ∙ c.write_words.ensures.unchanged i out
