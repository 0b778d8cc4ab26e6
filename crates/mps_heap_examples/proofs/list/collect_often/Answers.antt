use Rattle.std.proofs.Common.{arith}
use Rattle.std.proofs.lemmas.Grind.{common_steps}
use Rattle.mps_format.specs.TailExample.{tail_layout}
use Rattle.mps_heap_examples.proofs.Lists.{collect_keeps}
use Rattle.mps_heap_examples.proofs.list.collect_often.Goals as goal

pub loop-done-preserved : goal.loop-done-preserved
loop-done-preserved c = (
  grind (arith, common_steps),
  grind (arith, common_steps),
  grind (arith, common_steps),
  λ numbers has.
      collect_keeps (λ _. tail_layout) _ _ _ _ c.collect.ensures.right numbers (c.loop-done.invariant.3 numbers has),
)
