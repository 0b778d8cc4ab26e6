use Rattle.std.proofs.Common.{◌∙◌, ◌≤◌, ap, subst, arith}
use Rattle.mps_heap_spec.specs.Collect.{most_moves}
use Rattle.mps_refinement.specs.MovesNeeded.{moves_needed}
use Rattle.mps_heap.proofs.heap.Heap.moves_needed.Goals as goal

pub returns : goal.returns
returns g c =
    let few = c.moves_needed.ensures.value in
    record {
      value = c.moves_needed.ensures.value ∙ ap (λ h. moves_needed h.segs) c.self.view_is;
      at_most = subst (λ h. c.moves_needed.result ≤ most_moves h.segs.grains) c.self.view_is (omega (arith, few));
      fits = c.moves_needed.ensures.at_most;
    }
