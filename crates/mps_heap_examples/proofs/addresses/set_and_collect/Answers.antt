use Rattle.mps_format.specs.TailExample.{tail_layout}
use Rattle.mps_heap_examples.proofs.ReadBack.{first_read_again}
use Rattle.mps_heap_examples.proofs.addresses.set_and_collect.Goals as goal

pub returns-clause-same : goal.returns-clause-same
returns-clause-same c old numbers has =
    first_read_again (λ _. tail_layout) _ _ _ _ _ c.first.ensures c.first-2.ensures _ old numbers has c.in_ok-set_num.ensures.right _ _
    c.collect.ensures.right c.num.result c.num.ensures.right
