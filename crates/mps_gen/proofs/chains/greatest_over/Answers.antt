use Rattle.std.proofs.Common.{◌∙◌, ◌+◌, Option, ℕ, sym, ap, arith}
use Rattle.mps_base.specs.Generation.{later}
use Rattle.mps_gen.proofs.Rest.{none_over_from}
use Rattle.mps_gen.proofs.chains.greatest_over.Goals as goal

pub returns : goal.returns
returns c =
    let index = c.loop-index.index in
    let none = none_over_from (c.args.generation + index) c.args.capacities.now c.args.held.now index
    (omega (arith, c.min-index-end.ensures, c.loop-index-test.false))
    in
    sym (ap (λ (o : Option ℕ). later c.loop-index.greatest o) none) ∙ c.loop-index.invariant
