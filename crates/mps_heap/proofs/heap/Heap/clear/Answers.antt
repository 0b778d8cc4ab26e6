use Rattle.std.proofs.Common.{subst, [], ◌≡◌, refl}
use Rattle.mps_model.specs.declared.call.Call.TheVariants as call
use Rattle.mps_refinement.specs.Answering.{answer_to, says_ok}
use Rattle.mps_refinement.specs.RightStep.{IsRight}
use Rattle.mps_refinement.proofs.Calls.Slots.{cleared_right}
use Rattle.mps_refinement.proofs.Worlds.Staying.{stays, grains_stay}
use Rattle.mps_heap_spec.proofs.NamesStay.{clears, keys_stay}
use Rattle.mps_heap.proofs.heap.Heap.clear.Goals as goal

pub invariant_of-self : goal.invariant_of-self
invariant_of-self g c =
    stays g.F.Format.layout c.self.inside.state c.clear.new.state (call.Clear c.args.slot) [] (answer_to says_ok c.clear.result)
    c.self.invariant
    (cleared_right g.F.Format.layout c.self.inside.state c.args.slot c.clear.result c.clear.new.state c.clear.ensures)

pub returns : goal.returns
returns g c = record {
  right = subst (λ h. IsRight g.F.Format.layout h (call.Clear c.args.slot) [] (answer_to says_ok c.clear.result) c.clear.new.state)
      c.self.view_is
      (cleared_right g.F.Format.layout c.self.inside.state c.args.slot c.clear.result c.clear.new.state c.clear.ensures);
  grains = subst (λ x. c.clear.new.state.segs.grains ≡ x.segs.grains) c.self.view_is
      (grains_stay g.F.Format.layout c.self.inside.state c.clear.new.state (call.Clear c.args.slot) [] (answer_to says_ok c.clear.result)
      c.self.invariant (cleared_right g.F.Format.layout c.self.inside.state c.args.slot c.clear.result c.clear.new.state c.clear.ensures)
      refl);
  keys = subst (λ x. c.clear.new.state.names.keys ≡ x.names.keys) c.self.view_is
      (keys_stay c.self.inside.state _ c.clear.ensures (clears c.self.inside.state c.args.slot));
}
