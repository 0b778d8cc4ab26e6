use Rattle.mps_format.specs.TailExample.{tail_layout}
use Rattle.mps_heap_examples.proofs.Located.{first_noted}
use Rattle.mps_heap_examples.proofs.addresses.note_first.Goals as goal

pub returns-clause-noted : goal.returns-clause-noted
returns-clause-noted c w stands =
    first_noted (λ _. tail_layout) _ _ _ _ _ _ c.named-dependency.ensures c.first.ensures c.first-2.ensures
    c.in_ok-ld_reset.ensures.right c.in_ok-ld_add.ensures.right w stands c.addr.result c.addr.ensures.right
