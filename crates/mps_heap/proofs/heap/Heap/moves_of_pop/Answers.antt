use Rattle.std.proofs.Common.{subst, ◌∙◌, ◌≤◌, ap, sym}
use Rattle.mps_heap_spec.specs.Collect.{most_moves}
use Rattle.mps_heap_spec.specs.Popping.{moves_of_pop}
use Rattle.mps_refinement.proofs.Worlds.PopTrails.{pop_moves_few}
use Rattle.mps_heap.proofs.heap.Heap.moves_of_pop.Goals as goal

pub returns : goal.returns
returns g c =
    let few = pop_moves_few g.F.Format.layout c.self.inside.state c.self.invariant c.args.pool c.args.frame in
    record {
      value = c.most_moves_of_pop.ensures ∙ ap (λ h. moves_of_pop h c.args.pool c.args.frame) c.self.view_is;
      at_most = subst (λ h. c.most_moves_of_pop.result ≤ most_moves h.segs.grains) c.self.view_is
          (subst (λ n. n ≤ most_moves c.self.inside.state.segs.grains) (sym c.most_moves_of_pop.ensures) few);
    }
