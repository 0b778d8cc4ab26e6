use Rattle.std.proofs.Common.{ℕ, ◌*◌, ◌≡◌, sym, ap, ◌∙◌, inl, inr, arith}
use Rattle.std.proofs.lemmas.Bool.{cases_lt}
use Rattle.mps_bits.specs.OpenRuns.{is_one, is_one_unless}
use Rattle.mps_bits.proofs.AllSet.{same_by_bits}
use Rattle.mps_bits.proofs.words.are_words_unless.Goals as goal

pub loop-at-preserved : goal.loop-at-preserved
loop-at-preserved c = λ at k above below within. elim (cases_lt at c.loop-at.at) [
  | inl before ↦ c.loop-at.invariant at k above before within
  | inr after ↦
      let here : c.loop-at.at ≡ at = omega arith in
      ap (λ (n : ℕ). is_one_unless c.args.words.now c.args.others.now (64 * n) k) (sym here) ∙ sym (c.word_unless.ensures k within)
      ∙ ap (λ (w : ℕ). is_one w k) c.if-word_unless-value.false
]

pub returns-then-word_unless-value-clause-complete : goal.returns-then-word_unless-value-clause-complete
returns-then-word_unless-value-clause-complete c = λ all.
    absurd (c.if-word_unless-value.true (same_by_bits c.word_unless.result c.args.value (omega arith) (omega arith) (λ k within.
    c.word_unless.ensures k within ∙ all c.loop-at.at k (omega arith) (omega arith) within)))
