use Rattle.std.proofs.Common.{◌≤◌, ◌∙◌, ap, subst, sym}
use Rattle.mps_heap_spec.specs.Collect.{most_moves}
use Rattle.mps_heap_spec.specs.Popping.{moves_of_pop}
use Rattle.mps_refinement.specs.InWorlds.{SaysMostMoves}
use Rattle.mps_refinement.proofs.Calls.InWorlds.{says_most_moves}
use Rattle.mps_refinement.proofs.Worlds.PopTrails.{pop_moves_few}
use Rattle.mps_heap.proofs.heap.Heap.most_moves.Goals as goal

pub returns : goal.returns
returns g c = record {
  value = c.most_moves.ensures.value ∙ ap (λ h. most_moves h.segs.grains) c.self.view_is;
  at_most = c.most_moves.ensures.at_most;
  pops = λ pool frame. subst (λ h. moves_of_pop h pool frame ≤ c.most_moves.result) c.self.view_is
      (subst (λ n. moves_of_pop c.self.inside.state pool frame ≤ n) (sym c.most_moves.ensures.value)
      (pop_moves_few g.F.Format.layout c.self.inside.state c.self.invariant pool frame));
  right = subst (λ h. SaysMostMoves g.F.Format.layout h c.most_moves.result) c.self.view_is
      (subst (λ n. SaysMostMoves g.F.Format.layout c.self.inside.state n) (sym c.most_moves.ensures.value)
      (says_most_moves g.F.Format.layout c.self.inside.state));
}
