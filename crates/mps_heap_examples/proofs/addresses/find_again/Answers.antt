use Rattle.mps_format.specs.TailExample.{tail_layout}
use Rattle.mps_heap_examples.proofs.Located.{collect_leaves_noted}
use Rattle.mps_heap_examples.proofs.addresses.find_again.Goals as goal

pub returns-then-branch-clause-found : goal.returns-then-branch-clause-found
returns-then-branch-clause-found c w stands =
    let noted = c.in_ok-at.ensures.noted w stands in
    c.in_ok-is_where_noted.ensures.right _ (collect_leaves_noted (λ _. tail_layout) _ _ _ _ c.collect.ensures.right _ noted)
    c.if-branch.true
