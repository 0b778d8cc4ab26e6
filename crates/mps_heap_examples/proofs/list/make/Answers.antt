use Rattle.mps_format.specs.TailExample.{tail_layout}
use Rattle.mps_heap_examples.proofs.Made.{list_then, pool_then, table_then}
use Rattle.mps_heap_examples.proofs.list.make.Goals as goal
use Rattle.std.proofs.Common.{refl}

pub returns-clause-empty : goal.returns-clause-empty
returns-clause-empty c may =
    let none = pool_then (λ _. tail_layout) _ _ _ tail_layout _ _ may c.in_ok-pool.ensures.right in
    let table = table_then (λ _. tail_layout) _ _ _ _ c.named-2.ensures none c.in_ok-table.ensures.right in
    list_then (λ _. tail_layout) _ _ _ _ _ c.named-3.ensures refl table _ c.point.ensures.right
