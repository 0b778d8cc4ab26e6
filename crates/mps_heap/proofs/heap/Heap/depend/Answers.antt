use Rattle.std.proofs.Common.{◌≡◌, refl, subst, []}
use Rattle.mps_model.specs.declared.call.Call.TheVariants as call
use Rattle.mps_refinement.specs.Answering.{answer_to, says_ok}
use Rattle.mps_refinement.specs.RightStep.{IsRight}
use Rattle.mps_refinement.proofs.Calls.Pairing.{depend_is_right}
use Rattle.mps_refinement.proofs.Worlds.Staying.{grains_stay, stays}
use Rattle.mps_heap_spec.proofs.NamesStay.{links, keys_stay}
use Rattle.mps_heap.proofs.heap.Heap.depend.Goals as goal

pub invariant_of-self : goal.invariant_of-self
invariant_of-self g c =
    stays g.F.Format.layout c.self.inside.state c.depend.new.state (call.Depend c.args.holder c.args.dependent) []
    (answer_to says_ok c.depend.result) c.self.invariant
    (depend_is_right g.F.Format.layout c.self.inside.state c.args.holder c.args.dependent c.depend.result c.depend.new.state
    c.depend.ensures)

pub returns : goal.returns
returns g c = record {
  right = subst (λ h. IsRight g.F.Format.layout h (call.Depend c.args.holder c.args.dependent) [] (answer_to says_ok c.depend.result)
      c.depend.new.state) c.self.view_is
      (depend_is_right g.F.Format.layout c.self.inside.state c.args.holder c.args.dependent c.depend.result c.depend.new.state
      c.depend.ensures);
  grains = subst (λ h. c.depend.new.state.segs.grains ≡ h.segs.grains) c.self.view_is
      (grains_stay g.F.Format.layout c.self.inside.state c.depend.new.state (call.Depend c.args.holder c.args.dependent) []
      (answer_to says_ok c.depend.result) c.self.invariant
      (depend_is_right g.F.Format.layout c.self.inside.state c.args.holder c.args.dependent c.depend.result c.depend.new.state
      c.depend.ensures) refl);
  keys = subst (λ x. c.depend.new.state.names.keys ≡ x.names.keys) c.self.view_is
      (keys_stay c.self.inside.state _ c.depend.ensures (links c.self.inside.state g.F.Format.layout c.args.holder c.args.dependent));
}
