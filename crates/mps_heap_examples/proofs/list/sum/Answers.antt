use Rattle.std.proofs.Common.{arith}
use Rattle.std.proofs.lemmas.Grind.{common_steps}
use Rattle.mps_format.specs.TailExample.{tail_layout}
use Rattle.mps_heap_examples.proofs.Sums.{all_counted, copy_begins, get_goes_on, null_ends}
use Rattle.mps_heap_examples.proofs.list.sum.Goals as goal

pub loop-count-init : goal.loop-count-init
loop-count-init c = (
  grind (arith, common_steps),
  grind (arith, common_steps),
  grind (arith, common_steps),
  λ numbers has. copy_begins (λ _. tail_layout) _ _ numbers _ _ c.cursor-cursor.ensures c.first.ensures has c.in_ok-copy.ensures.right,
)

pub returns-then-branch-clause-summed : goal.returns-then-branch-clause-summed
returns-then-branch-clause-summed c numbers has =
    null_ends (λ _. tail_layout) _ numbers _ _ (c.loop-count.invariant.3 numbers has) _ c.cursor-cursor.ensures _
    c.in_ok-is_null.ensures.right _ c.loop-count-test.true c.if-branch.true

pub loop-count-preserved : goal.loop-count-preserved
loop-count-preserved c = (
  grind (arith, common_steps),
  grind (arith, common_steps),
  grind (arith, common_steps),
  λ numbers has.
      get_goes_on (λ _. tail_layout) _ numbers _ _ (c.loop-count.invariant.3 numbers has) _ c.cursor-cursor.ensures _
      c.in_ok-is_null.ensures.right _ _ _ _ c.if-branch.false c.in_ok-total.ensures.right c.in_ok-get.ensures.right,
)

pub returns-clause-summed : goal.returns-clause-summed
returns-clause-summed c numbers has =
    all_counted (λ _. tail_layout) _ numbers _ _ _ (omega (arith, c.loop-count-test.false, c.loop-count.auto.count-end))
    (c.loop-count.invariant.3 numbers has)
