use Rattle.std.proofs.Common.{subst, [], ◌≡◌, refl}
use Rattle.mps_model.specs.declared.call.Call.TheVariants as call
use Rattle.mps_refinement.specs.Answering.{answer_to, says_ok}
use Rattle.mps_refinement.specs.RightStep.{IsRight}
use Rattle.mps_refinement.proofs.Calls.Definalizing.{can_unregister, unregistered_right}
use Rattle.mps_refinement.proofs.Worlds.Staying.{one_world, stays, grains_stay}
use Rattle.mps_heap_spec.proofs.NamesStay.{unregisters, keys_stay}
use Rattle.mps_heap.proofs.heap.Heap.definalize.Goals as goal

pub definalize-requires : goal.definalize-requires
definalize-requires g c =
    let one = one_world g.F.Format.layout c.self.inside.state c.self.invariant in
    can_unregister g.F.Format.layout c.self.inside.state one.0 one.1

pub invariant_of-self : goal.invariant_of-self
invariant_of-self g c =
    stays g.F.Format.layout c.self.inside.state c.definalize.new.state (call.Definalize c.args.slot) [] (answer_to says_ok
    c.definalize.result) c.self.invariant
    (unregistered_right g.F.Format.layout c.self.inside.state c.args.slot c.definalize.result c.definalize.new.state c.definalize.ensures)

pub returns : goal.returns
returns g c = record {
  right = subst (λ h. IsRight g.F.Format.layout h (call.Definalize c.args.slot) [] (answer_to says_ok c.definalize.result)
      c.definalize.new.state) c.self.view_is
      (unregistered_right g.F.Format.layout c.self.inside.state c.args.slot c.definalize.result c.definalize.new.state
      c.definalize.ensures);
  grains = subst (λ x. c.definalize.new.state.segs.grains ≡ x.segs.grains) c.self.view_is
      (grains_stay g.F.Format.layout c.self.inside.state c.definalize.new.state (call.Definalize c.args.slot) [] (answer_to says_ok
      c.definalize.result) c.self.invariant (unregistered_right g.F.Format.layout c.self.inside.state c.args.slot c.definalize.result
      c.definalize.new.state c.definalize.ensures) refl);
  keys = subst (λ x. c.definalize.new.state.names.keys ≡ x.names.keys) c.self.view_is
      (keys_stay c.self.inside.state _ c.definalize.ensures.comes (unregisters c.self.inside.state g.F.Format.layout
      c.definalize.ensures.position c.args.slot));
}
