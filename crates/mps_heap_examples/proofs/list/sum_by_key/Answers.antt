use Rattle.std.proofs.Common.{arith, refl, ap, ◌∙◌}
use Rattle.std.proofs.lemmas.Grind.{common_steps}
use Rattle.mps_format.specs.TailExample.{tail_layout}
use Rattle.mps_heap.specs.Keys.{table_name}
use Rattle.mps_laws.specs.Held.{slot_of_t}
use Rattle.mps_heap_examples.proofs.Keyed.{copy_by, get_by, null_by, number_by}
use Rattle.mps_heap_examples.proofs.Sums.{all_counted, begun, get_goes_on, null_ends}
use Rattle.mps_heap_examples.proofs.list.sum_by_key.Goals as goal

pub loop-count-init : goal.loop-count-init
loop-count-init c = (
  grind (arith, common_steps),
  grind (arith, common_steps),
  grind (arith, common_steps),
  grind (arith, common_steps),
  λ good numbers has.
      begun (λ _. tail_layout) _ _ numbers has (copy_by (λ _. tail_layout) _ _ good _ _ c.in_ok-copy_by_key.ensures.right),
)

pub returns-then-branch-clause-summed : goal.returns-then-branch-clause-summed
returns-then-branch-clause-summed c good numbers has =
    let still = ap (λ keys. table_name keys c.args.table) c.loop-count.invariant.3 ∙ good in
    null_ends (λ _. tail_layout) _ numbers _ _ (c.loop-count.invariant.4 good numbers has) (slot_of_t 1) refl _
    (null_by (λ _. tail_layout) _ _ still _ c.in_ok-is_null_by_key.ensures.right) _ c.loop-count-test.true c.if-branch.true

pub loop-count-preserved : goal.loop-count-preserved
loop-count-preserved c = (
  grind (arith, common_steps),
  grind (arith, common_steps),
  grind (arith, common_steps),
  grind (arith, common_steps),
  λ good numbers has.
      let still = ap (λ keys. table_name keys c.args.table) c.loop-count.invariant.3 ∙ good in
      get_goes_on (λ _. tail_layout) _ numbers _ _ (c.loop-count.invariant.4 good numbers has) (slot_of_t 1) refl _
      (null_by (λ _. tail_layout) _ _ still _ c.in_ok-is_null_by_key.ensures.right) _ _ _ _ c.if-branch.false
      (number_by (λ _. tail_layout) _ _ still _ c.in_ok-total.ensures.right)
      (get_by (λ _. tail_layout) _ _ still _ _ _ _ c.in_ok-get_by_key.ensures.right),
)

pub returns-clause-summed : goal.returns-clause-summed
returns-clause-summed c good numbers has =
    all_counted (λ _. tail_layout) _ numbers _ _ _ (omega (arith, c.loop-count-test.false, c.loop-count.auto.count-end))
    (c.loop-count.invariant.4 good numbers has)
