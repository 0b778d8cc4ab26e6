use Rattle.std.proofs.Common.{subst, [], ◌≡◌, refl}
use Rattle.mps_model.specs.declared.call.Call.TheVariants as call
use Rattle.mps_refinement.specs.Answering.{answer_to, says_number}
use Rattle.mps_refinement.specs.RightStep.{IsRight}
use Rattle.mps_refinement.proofs.Calls.Pushes.{push_is_right}
use Rattle.mps_refinement.proofs.Worlds.Staying.{stays, grains_stay}
use Rattle.mps_heap_spec.proofs.NamesStay.{pushes, keys_stay}
use Rattle.mps_heap.proofs.heap.Heap.push.Goals as goal

pub invariant_of-self : goal.invariant_of-self
invariant_of-self g c =
    stays g.F.Format.layout c.self.inside.state c.push.new.state (call.Push c.args.pool) [] (answer_to says_number c.push.result)
    c.self.invariant
    (push_is_right g.F.Format.layout c.self.inside.state c.args.pool c.push.result c.push.new.state c.push.ensures)

pub returns : goal.returns
returns g c = record {
  right = subst (λ h. IsRight g.F.Format.layout h (call.Push c.args.pool) [] (answer_to says_number c.push.result) c.push.new.state)
      c.self.view_is
      (push_is_right g.F.Format.layout c.self.inside.state c.args.pool c.push.result c.push.new.state c.push.ensures);
  grains = subst (λ x. c.push.new.state.segs.grains ≡ x.segs.grains) c.self.view_is
      (grains_stay g.F.Format.layout c.self.inside.state c.push.new.state (call.Push c.args.pool) [] (answer_to says_number c.push.result)
      c.self.invariant (push_is_right g.F.Format.layout c.self.inside.state c.args.pool c.push.result c.push.new.state c.push.ensures)
      refl);
  keys = subst (λ x. c.push.new.state.names.keys ≡ x.names.keys) c.self.view_is
      (keys_stay c.self.inside.state _ c.push.ensures (pushes c.self.inside.state c.args.pool));
}
