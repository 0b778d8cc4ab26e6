use Rattle.mps_format.specs.TailExample.{tail_layout}
use Rattle.mps_heap_examples.proofs.Popped.{first_dropped}
use Rattle.mps_heap_examples.proofs.list.pop.Goals as goal

pub returns-clause-popped : goal.returns-clause-popped
returns-clause-popped c number numbers has =
    first_dropped (λ _. tail_layout) _ _ number numbers has _ _ c.first.ensures c.first-2.ensures _ _ c.get.result c.get.ensures.right
