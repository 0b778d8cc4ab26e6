use Rattle.std.proofs.Common.{subst, [], ◌≡◌, refl}
use Rattle.mps_model.specs.declared.call.Call.TheVariants as call
use Rattle.mps_refinement.specs.Answering.{answer_to, says_ok}
use Rattle.mps_refinement.specs.RightStep.{IsRight}
use Rattle.mps_refinement.proofs.Calls.Areas.{pinned_right}
use Rattle.mps_refinement.proofs.Worlds.Staying.{stays, grains_stay}
use Rattle.mps_heap_spec.proofs.NamesStay.{pins, keys_stay}
use Rattle.mps_heap.proofs.heap.Heap.pin.Goals as goal

pub invariant_of-self : goal.invariant_of-self
invariant_of-self g c =
    stays g.F.Format.layout c.self.inside.state c.pin.new.state (call.Pin c.args.place c.args.slot) [] (answer_to says_ok c.pin.result)
    c.self.invariant
    (pinned_right g.F.Format.layout c.self.inside.state c.args.place c.args.slot c.pin.result c.pin.new.state c.pin.ensures)

pub returns : goal.returns
returns g c = record {
  right = subst (λ h. IsRight g.F.Format.layout h (call.Pin c.args.place c.args.slot) [] (answer_to says_ok c.pin.result)
      c.pin.new.state) c.self.view_is
      (pinned_right g.F.Format.layout c.self.inside.state c.args.place c.args.slot c.pin.result c.pin.new.state c.pin.ensures);
  grains = subst (λ x. c.pin.new.state.segs.grains ≡ x.segs.grains) c.self.view_is
      (grains_stay g.F.Format.layout c.self.inside.state c.pin.new.state (call.Pin c.args.place c.args.slot) [] (answer_to says_ok
      c.pin.result) c.self.invariant (pinned_right g.F.Format.layout c.self.inside.state c.args.place c.args.slot c.pin.result
      c.pin.new.state c.pin.ensures) refl);
  keys = subst (λ x. c.pin.new.state.names.keys ≡ x.names.keys) c.self.view_is
      (keys_stay c.self.inside.state _ c.pin.ensures (pins c.self.inside.state g.F.Format.layout c.args.place c.args.slot));
}
