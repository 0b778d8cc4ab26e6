use Rattle.std.proofs.Common.{subst, [], ◌≡◌, refl}
use Rattle.mps_model.specs.declared.call.Call.TheVariants as call
use Rattle.mps_refinement.specs.Answering.{answer_to, says_message}
use Rattle.mps_refinement.specs.RightStep.{IsRight}
use Rattle.mps_refinement.proofs.Calls.Finalizing.{message_right}
use Rattle.mps_refinement.proofs.Worlds.Staying.{stays, grains_stay}
use Rattle.mps_heap_spec.proofs.NamesStay.{takes_message, keys_stay}
use Rattle.mps_heap.proofs.heap.Heap.message.Goals as goal

pub invariant_of-self : goal.invariant_of-self
invariant_of-self g c =
    stays g.F.Format.layout c.self.inside.state c.message.new.state (call.Message c.args.slot) [] (answer_to says_message
    c.message.result) c.self.invariant
    (message_right g.F.Format.layout c.self.inside.state c.args.slot c.message.result c.message.new.state c.message.ensures)

pub returns : goal.returns
returns g c = record {
  right = subst (λ h. IsRight g.F.Format.layout h (call.Message c.args.slot) [] (answer_to says_message c.message.result)
      c.message.new.state) c.self.view_is
      (message_right g.F.Format.layout c.self.inside.state c.args.slot c.message.result c.message.new.state c.message.ensures);
  grains = subst (λ x. c.message.new.state.segs.grains ≡ x.segs.grains) c.self.view_is
      (grains_stay g.F.Format.layout c.self.inside.state c.message.new.state (call.Message c.args.slot) [] (answer_to says_message
      c.message.result) c.self.invariant (message_right g.F.Format.layout c.self.inside.state c.args.slot c.message.result
      c.message.new.state c.message.ensures) refl);
  keys = subst (λ x. c.message.new.state.names.keys ≡ x.names.keys) c.self.view_is
      (keys_stay c.self.inside.state _ c.message.ensures (takes_message c.self.inside.state c.args.slot));
}
