use Rattle.mps_format.specs.TailExample.{tail_layout}
use Rattle.mps_heap_examples.proofs.Located.{first_still_lies}
use Rattle.mps_heap_examples.proofs.addresses.read_second.Goals as goal

pub returns-clause-there : goal.returns-clause-there
returns-clause-there c w stands =
    first_still_lies (λ _. tail_layout) _ _ c.first.ensures _ c.in_ok-at.ensures.right _ _ _ _ _ _ _ c.cursor.ensures
    c.in_ok-get.ensures.right w stands
