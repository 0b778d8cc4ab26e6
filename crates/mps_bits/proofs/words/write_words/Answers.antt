use Rattle.std.proofs.Common.{ℕ, ◌+◌, ◌-◌, ◌/◌, ◌%◌, ◌<◌, ◌≤◌, ◌⊎◌, length, ◌∙◌, inl, inr, arith}
use Rattle.std.proofs.lemmas.Bool.{cases_lt}
use Rattle.mps_bits.proofs.Row.{bit_in_write_inside, bit_in_write_outside}
use Rattle.mps_bits.proofs.words.write_words.Goals as goal

pub loop-at-preserved : goal.loop-at-preserved
loop-at-preserved c =
    let words = c.loop-at.words in
    let at = c.loop-at.at in
    let width = c.width_at-width.result in
    let word = c.with_bits.result in
    let in_word : at % 64 + width ≤ 64 = c.width_at-width.ensures.in_word in
    let in_row : at / 64 < length words = omega (arith, c.loop-at.auto.words, c.requires) in
    let kept =
    λ (i : ℕ) (out : (i < at) ⊎ (at + width ≤ i)). bit_in_write_outside words at width word i in_word in_row
    c.with_bits.ensures.unchanged out
    in
    record {
      from_on = omega arith;
      within = inl c.width_at-width.ensures.in_range;
      inside = λ i from upto to. elim (cases_lt i at) [
        | inl before ↦ kept i (inl before) ∙ c.loop-at.invariant.inside i from before to
        | inr after ↦
            bit_in_write_inside words at width word i in_word in_row after upto
            ∙ c.with_bits.ensures.inside (at % 64 + (i - at)) (omega arith) (omega arith)
      ];
      outside = λ i out. kept i (elim out [ inl before ↦ inl (omega arith) | inr after ↦ inr after ])
          ∙ c.loop-at.invariant.outside i (elim out [ inl before ↦ inl before | inr after ↦ inr (omega arith) ]);
    }

pub returns-clause-unchanged : goal.returns-clause-unchanged
returns-clause-unchanged c =
    λ i out. elim out [
      | inl before ↦ c.loop-at.invariant.outside i (inl before)
      | inr after ↦ elim (cases_lt i c.args.from) [
        | inl before ↦ c.loop-at.invariant.outside i (inl before)
        | inr from ↦
            c.loop-at.invariant.outside i (inr (elim c.loop-at.invariant.within [ inl within ↦ omega arith | inr stays ↦ omega arith ]))
      ]
    ]
