use Rattle.std.proofs.Common.{◌*◌, inl, inr, arith}
use Rattle.std.proofs.lemmas.Bool.{cases_lt}
use Rattle.mps_bits.proofs.AllSet.{set_in_full, full_of_set}
use Rattle.mps_bits.proofs.words.are_full.Goals as goal

pub loop-at-preserved : goal.loop-at-preserved
loop-at-preserved c = λ i above below. elim (cases_lt i (64 * c.loop-at.at)) [
  | inl before ↦ c.loop-at.invariant i above before
  | inr after ↦ set_in_full c.args.words.now c.loop-at.at i (omega arith) after (omega arith)
]

pub returns-then-words-at-clause-complete : goal.returns-then-words-at-clause-complete
returns-then-words-at-clause-complete c = λ all.
    let words = c.args.words.now in
    let at = c.loop-at.at in
    let full = full_of_set words at (omega (arith, c.type_inv.words at)) (λ i above below. all i (omega arith) (omega arith)) in
    absurd (c.if-words-at.true full)
