use Rattle.std.proofs.Common.{◌≡◌, refl, subst, []}
use Rattle.mps_model.specs.declared.call.Call.TheVariants as call
use Rattle.mps_refinement.specs.Answering.{answer_to, says_ok}
use Rattle.mps_refinement.specs.RightStep.{IsRight}
use Rattle.mps_refinement.proofs.Calls.Slots.{copied_right}
use Rattle.mps_refinement.proofs.Worlds.Staying.{grains_stay, stays}
use Rattle.mps_heap_spec.proofs.NamesStay.{copies, keys_stay}
use Rattle.mps_heap.proofs.heap.Heap.copy.Goals as goal

pub invariant_of-self : goal.invariant_of-self
invariant_of-self g c =
    stays g.F.Format.layout c.self.inside.state c.copy.new.state (call.Copy c.args.target c.args.source) [] (answer_to says_ok
    c.copy.result) c.self.invariant
    (copied_right g.F.Format.layout c.self.inside.state c.args.target c.args.source c.copy.result c.copy.new.state c.copy.ensures)

pub returns : goal.returns
returns g c = record {
  right = subst (λ h. IsRight g.F.Format.layout h (call.Copy c.args.target c.args.source) [] (answer_to says_ok c.copy.result)
      c.copy.new.state) c.self.view_is
      (copied_right g.F.Format.layout c.self.inside.state c.args.target c.args.source c.copy.result c.copy.new.state c.copy.ensures);
  grains = subst (λ h. c.copy.new.state.segs.grains ≡ h.segs.grains) c.self.view_is
      (grains_stay g.F.Format.layout c.self.inside.state c.copy.new.state (call.Copy c.args.target c.args.source) [] (answer_to says_ok
      c.copy.result) c.self.invariant
      (copied_right g.F.Format.layout c.self.inside.state c.args.target c.args.source c.copy.result c.copy.new.state c.copy.ensures) refl);
  keys = subst (λ x. c.copy.new.state.names.keys ≡ x.names.keys) c.self.view_is
      (keys_stay c.self.inside.state _ c.copy.ensures (copies c.self.inside.state c.args.target c.args.source));
}
