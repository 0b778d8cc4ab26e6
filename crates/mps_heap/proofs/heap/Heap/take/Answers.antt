use Rattle.std.proofs.Common.{subst, [], ◌≡◌, refl}
use Rattle.mps_model.specs.declared.call.Call.TheVariants as call
use Rattle.mps_refinement.specs.Answering.{answer_to, says_ok}
use Rattle.mps_refinement.specs.RightStep.{IsRight}
use Rattle.mps_refinement.proofs.Calls.Areas.{taken_right}
use Rattle.mps_refinement.proofs.Worlds.Staying.{stays, grains_stay}
use Rattle.mps_heap_spec.proofs.NamesStay.{takes, keys_stay}
use Rattle.mps_heap.proofs.heap.Heap.take.Goals as goal

pub invariant_of-self : goal.invariant_of-self
invariant_of-self g c =
    stays g.F.Format.layout c.self.inside.state c.take.new.state (call.Take c.args.slot c.args.place) [] (answer_to says_ok
    c.take.result) c.self.invariant
    (taken_right g.F.Format.layout c.self.inside.state c.args.slot c.args.place c.take.result c.take.new.state c.take.ensures)

pub returns : goal.returns
returns g c = record {
  right = subst (λ h. IsRight g.F.Format.layout h (call.Take c.args.slot c.args.place) [] (answer_to says_ok c.take.result)
      c.take.new.state) c.self.view_is
      (taken_right g.F.Format.layout c.self.inside.state c.args.slot c.args.place c.take.result c.take.new.state c.take.ensures);
  grains = subst (λ x. c.take.new.state.segs.grains ≡ x.segs.grains) c.self.view_is
      (grains_stay g.F.Format.layout c.self.inside.state c.take.new.state (call.Take c.args.slot c.args.place) [] (answer_to says_ok
      c.take.result) c.self.invariant (taken_right g.F.Format.layout c.self.inside.state c.args.slot c.args.place c.take.result
      c.take.new.state c.take.ensures) refl);
  keys = subst (λ x. c.take.new.state.names.keys ≡ x.names.keys) c.self.view_is
      (keys_stay c.self.inside.state _ c.take.ensures (takes c.self.inside.state c.args.slot c.args.place));
}
