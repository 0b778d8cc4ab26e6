use Rattle.std.proofs.Common.{subst, [], ◌≡◌, refl}
use Rattle.mps_model.specs.declared.call.Call.TheVariants as call
use Rattle.mps_refinement.specs.Answering.{answer_to, says_ok}
use Rattle.mps_refinement.specs.RightStep.{IsRight}
use Rattle.mps_refinement.proofs.Calls.Finalizing.{registered_right}
use Rattle.mps_refinement.proofs.Worlds.Staying.{stays, grains_stay}
use Rattle.mps_heap_spec.proofs.NamesStay.{registers, keys_stay}
use Rattle.mps_heap.proofs.heap.Heap.finalize.Goals as goal

pub invariant_of-self : goal.invariant_of-self
invariant_of-self g c =
    stays g.F.Format.layout c.self.inside.state c.finalize.new.state (call.Finalize c.args.slot) [] (answer_to says_ok
    c.finalize.result) c.self.invariant
    (registered_right g.F.Format.layout c.self.inside.state c.args.slot c.finalize.result c.finalize.new.state c.finalize.ensures)

pub returns : goal.returns
returns g c = record {
  right = subst (λ h. IsRight g.F.Format.layout h (call.Finalize c.args.slot) [] (answer_to says_ok c.finalize.result)
      c.finalize.new.state) c.self.view_is
      (registered_right g.F.Format.layout c.self.inside.state c.args.slot c.finalize.result c.finalize.new.state c.finalize.ensures);
  grains = subst (λ x. c.finalize.new.state.segs.grains ≡ x.segs.grains) c.self.view_is
      (grains_stay g.F.Format.layout c.self.inside.state c.finalize.new.state (call.Finalize c.args.slot) [] (answer_to says_ok
      c.finalize.result) c.self.invariant (registered_right g.F.Format.layout c.self.inside.state c.args.slot c.finalize.result
      c.finalize.new.state c.finalize.ensures) refl);
  keys = subst (λ x. c.finalize.new.state.names.keys ≡ x.names.keys) c.self.view_is
      (keys_stay c.self.inside.state _ c.finalize.ensures (registers c.self.inside.state g.F.Format.layout c.args.slot));
}
