use Rattle.std.proofs.Common.{◌+◌, ◌-◌, ◌%◌, ◌≤◌, ◌<◌, ◌⊎◌, ◌∙◌, inl, inr, arith}
use Rattle.std.proofs.lemmas.Bool.{cases_lt}
use Rattle.mps_bits.proofs.Row.{bit_in_write_inside, bit_in_write_outside}
use Rattle.mps_bits.proofs.words.write_bit.Goals as goal

pub returns-clause-same : goal.returns-clause-same
returns-clause-same c =
    let at = c.args.at in
    bit_in_write_inside c.args.words.now at 1 c.with_bits.result at (omega arith) (omega (arith, c.requires)) (omega arith) (omega arith)
    ∙ c.with_bits.ensures.inside (at % 64 + (at - at)) (omega arith) (omega arith)

pub returns-clause-unchanged : goal.returns-clause-unchanged
returns-clause-unchanged c =
    let at = c.args.at in
    λ i other.
    let out : (i < at) ⊎ (at + 1 ≤ i) = elim (cases_lt i at) [ inl below ↦ inl below | inr from ↦ inr (omega arith) ] in
    bit_in_write_outside c.args.words.now at 1 c.with_bits.result i (omega arith) (omega (arith, c.requires))
    c.with_bits.ensures.unchanged out
