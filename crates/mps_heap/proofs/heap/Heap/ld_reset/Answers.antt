use Rattle.std.proofs.Common.{subst, [], ◌≡◌, refl}
use Rattle.mps_model.specs.declared.call.Call.TheVariants as call
use Rattle.mps_refinement.specs.Answering.{answer_to, says_ok}
use Rattle.mps_refinement.specs.RightStep.{IsRight}
use Rattle.mps_refinement.proofs.Calls.Dependencies.{dependency_reset_is_right}
use Rattle.mps_refinement.proofs.Worlds.Staying.{stays, grains_stay}
use Rattle.mps_heap_spec.proofs.NamesStay.{resets, keys_stay}
use Rattle.mps_heap.proofs.heap.Heap.ld_reset.Goals as goal

pub invariant_of-self : goal.invariant_of-self
invariant_of-self g c =
    stays g.F.Format.layout c.self.inside.state c.ld_reset.new.state (call.DependencyReset c.args.name) [] (answer_to says_ok
    c.ld_reset.result) c.self.invariant
    (dependency_reset_is_right g.F.Format.layout c.self.inside.state c.args.name c.ld_reset.result c.ld_reset.new.state c.ld_reset.ensures)

pub returns : goal.returns
returns g c = record {
  right = subst (λ h. IsRight g.F.Format.layout h (call.DependencyReset c.args.name) [] (answer_to says_ok c.ld_reset.result)
      c.ld_reset.new.state) c.self.view_is
      (dependency_reset_is_right g.F.Format.layout c.self.inside.state c.args.name c.ld_reset.result c.ld_reset.new.state
      c.ld_reset.ensures);
  grains = subst (λ x. c.ld_reset.new.state.segs.grains ≡ x.segs.grains) c.self.view_is
      (grains_stay g.F.Format.layout c.self.inside.state c.ld_reset.new.state (call.DependencyReset c.args.name) [] (answer_to says_ok
      c.ld_reset.result) c.self.invariant (dependency_reset_is_right g.F.Format.layout c.self.inside.state c.args.name c.ld_reset.result
      c.ld_reset.new.state c.ld_reset.ensures) refl);
  keys = subst (λ x. c.ld_reset.new.state.names.keys ≡ x.names.keys) c.self.view_is
      (keys_stay c.self.inside.state _ c.ld_reset.ensures (resets c.self.inside.state c.args.name));
}
