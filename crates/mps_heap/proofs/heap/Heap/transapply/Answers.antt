use Rattle.std.proofs.Common.{subst, [], ◌≡◌, refl}
use Rattle.mps_model.specs.declared.call.Call.TheVariants as call
use Rattle.mps_refinement.specs.Answering.{answer_to, says_bool}
use Rattle.mps_refinement.specs.RightStep.{IsRight}
use Rattle.mps_refinement.proofs.Calls.Applying.{some_can_transform, transapply_is_right}
use Rattle.mps_refinement.proofs.Calls.Transforming.{some_transforms_there}
use Rattle.mps_refinement.proofs.Worlds.Staying.{stays, grains_stay}
use Rattle.mps_heap_spec.specs.Keyed.{AppliesKeys}
use Rattle.mps_heap_spec.proofs.KeysStay.{applying}
use Rattle.mps_heap.proofs.heap.Heap.transapply.Goals as goal

pub transapply-requires-clause-there : goal.transapply-requires-clause-there
transapply-requires-clause-there g c = some_transforms_there g.F.Format.layout c.self.inside.state c.self.invariant

pub transapply-requires-clause-can : goal.transapply-requires-clause-can
transapply-requires-clause-can g c = some_can_transform g.F.Format.layout c.self.inside.state c.self.invariant

pub invariant_of-self : goal.invariant_of-self
invariant_of-self g c =
    stays g.F.Format.layout c.self.inside.state c.transapply.new.state (call.TransformApply c.args.x) []
    (answer_to says_bool c.transapply.result)
    c.self.invariant
    (transapply_is_right g.F.Format.layout c.self.inside.state c.args.x c.transapply.result c.transapply.new.state
    c.transapply.ensures.outcome)

pub returns : goal.returns
returns g c = record {
  right = subst (λ h. IsRight g.F.Format.layout h (call.TransformApply c.args.x) []
      (answer_to says_bool c.transapply.result) c.transapply.new.state) c.self.view_is
      (transapply_is_right g.F.Format.layout c.self.inside.state c.args.x c.transapply.result c.transapply.new.state
      c.transapply.ensures.outcome);
  grains = subst (λ x. c.transapply.new.state.segs.grains ≡ x.segs.grains) c.self.view_is
      (grains_stay g.F.Format.layout c.self.inside.state c.transapply.new.state (call.TransformApply c.args.x) [] (answer_to says_bool
      c.transapply.result) c.self.invariant (transapply_is_right g.F.Format.layout c.self.inside.state c.args.x c.transapply.result
      c.transapply.new.state c.transapply.ensures.outcome) refl);
  keys = subst (λ x. AppliesKeys x.names.keys c.transapply.new.state.names.keys c.args.x c.transapply.result) c.self.view_is
      (applying g.F.Format.layout c.transapply.ensures.outcome);
}
