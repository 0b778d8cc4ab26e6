use Rattle.std.proofs.Common.{◌∙◌, List, ap}
use Rattle.mps_dep.specs.declared.dependents.Pair.{Pair}
use Rattle.mps_dep.specs.State.{dependent_of}
use Rattle.mps_dep.proofs.Pairs.{unmarked_has_none}
use Rattle.mps_dep.proofs.dependents.Dependents.dependent.Goals as goal

pub returns-then-not-test : goal.returns-then-not-test
returns-then-not-test c =
    unmarked_has_none c.self.inside.marks c.self.inside.pairs.items c.args.holder.0 c.self.invariant.marked (cc)
    ∙ ap (λ (pairs : List Pair). dependent_of pairs c.args.holder.0) c.self.view_is
