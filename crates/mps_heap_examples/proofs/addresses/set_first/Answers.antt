use Rattle.mps_format.specs.TailExample.{tail_layout}
use Rattle.mps_heap_examples.proofs.Located.{set_leaves_first}
use Rattle.mps_heap_examples.proofs.Refused.{refusal_is_listed, refused_changes_nothing}
use Rattle.mps_heap_examples.proofs.Setting.{first_set}
use Rattle.mps_heap_examples.proofs.addresses.set_first.Goals as goal

pub returns-clause-stays : goal.returns-clause-stays
returns-clause-stays c at has = set_leaves_first (λ _. tail_layout) _ _ _ _ _ _ c.set_num.ensures.right at has

pub returns-clause-listed : goal.returns-clause-listed
returns-clause-listed c w stands =
    refusal_is_listed (λ _. tail_layout) _ _ _ _ _ w stands c.set_num.result c.set_num.ensures.right

pub returns-clause-unchanged : goal.returns-clause-unchanged
returns-clause-unchanged c w stands =
    refused_changes_nothing (λ _. tail_layout) _ _ _ _ _ w stands c.set_num.result c.set_num.ensures.right

pub returns-clause-set : goal.returns-clause-set
returns-clause-set c old numbers has =
    first_set (λ _. tail_layout) _ _ c.first.ensures old numbers has _ _ c.set_num.result c.set_num.ensures.right
