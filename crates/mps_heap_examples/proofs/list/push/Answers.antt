use Rattle.mps_format.specs.TailExample.{tail_layout}
use Rattle.mps_heap_examples.proofs.Pushing.{item_committed, item_reserved, number_reserved}
use Rattle.mps_heap_examples.proofs.list.push.Goals as goal

pub returns-clause-pushed : goal.returns-clause-pushed
returns-clause-pushed c numbers has =
    let is = c.named-point.ensures in
    let r = number_reserved (λ _. tail_layout) _ numbers has _ is _ _ _ _ _ c.in_ok-reserve.ensures.right c.in_ok-init_num.ensures.right in
    let item = item_reserved (λ _. tail_layout) _ numbers has _ is _ _ _ _ c.first.ensures r c.in_ok-init_ref.ensures.right in
    item_committed (λ _. tail_layout) _ numbers has _ is _ _ _ _ c.first-2.ensures item _ _ _ c.in_ok-commit.ensures.right
