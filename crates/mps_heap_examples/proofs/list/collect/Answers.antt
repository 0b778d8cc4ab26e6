use Rattle.mps_format.specs.TailExample.{tail_layout}
use Rattle.mps_heap_examples.proofs.Lists.{collect_keeps}
use Rattle.mps_heap_examples.proofs.Live.{collect_leaves_live}
use Rattle.mps_heap_examples.proofs.list.collect.Goals as goal

pub returns-clause-kept : goal.returns-clause-kept
returns-clause-kept c numbers has = collect_keeps (λ _. tail_layout) _ _ _ _ c.collect.ensures.right numbers has

pub returns-clause-live : goal.returns-clause-live
returns-clause-live c numbers has done = collect_leaves_live (λ _. tail_layout) _ _ _ _ c.collect.ensures.right numbers has
