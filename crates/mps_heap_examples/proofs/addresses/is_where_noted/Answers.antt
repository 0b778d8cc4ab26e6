use Rattle.mps_format.specs.TailExample.{tail_layout}
use Rattle.mps_heap_examples.proofs.Located.{fresh_is_right}
use Rattle.mps_heap_examples.proofs.addresses.is_where_noted.Goals as goal

pub returns : goal.returns
returns c = record {
  right = λ at noted fresh.
      fresh_is_right (λ _. tail_layout) _ _ c.named.ensures _ c.in_ok-stale.ensures.right fresh at noted;
}
