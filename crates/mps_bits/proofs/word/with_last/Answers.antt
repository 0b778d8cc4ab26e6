use Rattle.std.proofs.Common.{◌+◌, ◌-◌, ◌<◌, ◌≤◌, ◌⊎◌, ◌∙◌, inl, inr, arith}
use Rattle.mps_bits.proofs.word.with_last.Goals as goal

pub returns-clause-last : goal.returns-clause-last
returns-clause-last c = c.with_bits-2.ensures.inside (c.args.low + c.args.width - 1) (omega arith) (omega arith)

pub returns-clause-others : goal.returns-clause-others
returns-clause-others c = λ i from upto.
    c.with_bits-2.ensures.unchanged i (omega (arith, c.requires.fits)) (inl upto)
    ∙ c.with_bits.ensures.inside i from (omega arith)

pub returns-clause-unchanged : goal.returns-clause-unchanged
returns-clause-unchanged c = λ i within out.
    let far : (i < c.args.low + c.args.width - 1) ⊎ (c.args.low + c.args.width - 1 + 1 ≤ i) =
    elim out [ inl before ↦ inl (omega (arith, c.requires.nonzero)) | inr after ↦ inr (omega (arith, c.requires.nonzero)) ]
    in
    c.with_bits-2.ensures.unchanged i within far ∙ c.with_bits.ensures.unchanged i within out
