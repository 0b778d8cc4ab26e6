use Rattle.mps_format.specs.TailExample.{tail_layout}
use Rattle.mps_heap_examples.proofs.Located.{first_lies}
use Rattle.mps_heap_examples.proofs.Pinned.{first_pinned, first_poked}
use Rattle.mps_heap_examples.proofs.addresses.pin_and_collect.Goals as goal

pub returns-then-not-can_collect-clause-there : goal.returns-then-not-can_collect-clause-there
returns-then-not-can_collect-clause-there c w stands =
    first_poked (λ _. tail_layout) _ _ _ _ _ c.in_ok-poke.ensures.right
    (first_lies (λ _. tail_layout) _ _ c.first.ensures _ c.in_ok-at.ensures.right w stands)

pub returns-clause-there : goal.returns-clause-there
returns-clause-there c w stands =
    first_pinned (λ _. tail_layout) _ _ _ _ _ c.in_ok-poke.ensures.right
    (first_lies (λ _. tail_layout) _ _ c.first.ensures _ c.in_ok-at.ensures.right w stands) _ _ _ c.collect.ensures.right
