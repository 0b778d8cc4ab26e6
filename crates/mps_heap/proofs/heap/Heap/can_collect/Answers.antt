use Rattle.std.proofs.Common.{◌∙◌, ap, subst, sym}
use Rattle.mps_heap_spec.specs.Collecting.{can_collect}
use Rattle.mps_refinement.specs.InWorlds.{SaysIfItCounts}
use Rattle.mps_refinement.proofs.Calls.InWorlds.{says_if_it_counts}
use Rattle.mps_heap.proofs.heap.Heap.can_collect.Goals as goal

pub returns : goal.returns
returns g c = record {
  value = c.can_collect.ensures ∙ ap (λ h. can_collect h) c.self.view_is;
  right = subst (λ h. SaysIfItCounts g.F.Format.layout h c.can_collect.result) c.self.view_is
      (subst (λ b. SaysIfItCounts g.F.Format.layout c.self.inside.state b) (sym c.can_collect.ensures)
      (says_if_it_counts g.F.Format.layout c.self.inside.state));
}
