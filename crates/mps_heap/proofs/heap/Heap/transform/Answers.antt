use Rattle.std.proofs.Common.{subst, [], ◌≡◌, refl}
use Rattle.mps_model.specs.declared.call.Call.TheVariants as call
use Rattle.mps_refinement.specs.Answering.{answer_to, says_ok}
use Rattle.mps_refinement.specs.RightStep.{IsRight}
use Rattle.mps_refinement.proofs.Calls.Transforming.{transform_is_right}
use Rattle.mps_refinement.proofs.Worlds.Staying.{stays, grains_stay}
use Rattle.mps_heap_spec.proofs.KeysStay.{transforming}
use Rattle.mps_heap.proofs.heap.Heap.transform.Goals as goal

pub invariant_of-self : goal.invariant_of-self
invariant_of-self g c =
    stays g.F.Format.layout c.self.inside.state c.transform.new.state (call.Transform c.args.x) [] (answer_to says_ok c.transform.result)
    c.self.invariant
    (transform_is_right g.F.Format.layout c.self.inside.state c.args.x c.transform.result c.transform.new.state c.transform.ensures)

pub returns : goal.returns
returns g c = record {
  right = subst (λ h. IsRight g.F.Format.layout h (call.Transform c.args.x) []
      (answer_to says_ok c.transform.result) c.transform.new.state) c.self.view_is
      (transform_is_right g.F.Format.layout c.self.inside.state c.args.x c.transform.result c.transform.new.state c.transform.ensures);
  grains = subst (λ x. c.transform.new.state.segs.grains ≡ x.segs.grains) c.self.view_is
      (grains_stay g.F.Format.layout c.self.inside.state c.transform.new.state (call.Transform c.args.x) [] (answer_to says_ok
      c.transform.result) c.self.invariant (transform_is_right g.F.Format.layout c.self.inside.state c.args.x c.transform.result
      c.transform.new.state c.transform.ensures) refl);
  keys = subst (λ x. c.transform.new.state.names.keys ≡ x.names.keys) c.self.view_is
      (transforming c.transform.ensures);
}
