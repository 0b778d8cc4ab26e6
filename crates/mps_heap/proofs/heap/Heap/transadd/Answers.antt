use Rattle.std.proofs.Common.{subst, [], ◌≡◌, refl}
use Rattle.mps_model.specs.declared.call.Call.TheVariants as call
use Rattle.mps_refinement.specs.Answering.{answer_to, says_ok}
use Rattle.mps_refinement.specs.RightStep.{IsRight}
use Rattle.mps_refinement.proofs.Calls.TransformPairs.{transadd_is_right}
use Rattle.mps_refinement.proofs.Calls.Transforming.{some_transforms_there}
use Rattle.mps_refinement.proofs.Worlds.Staying.{stays, grains_stay}
use Rattle.mps_heap_spec.proofs.NamesStay.{pairs, keys_stay}
use Rattle.mps_heap.proofs.heap.Heap.transadd.Goals as goal

pub transadd-requires : goal.transadd-requires
transadd-requires g c = some_transforms_there g.F.Format.layout c.self.inside.state c.self.invariant

pub invariant_of-self : goal.invariant_of-self
invariant_of-self g c =
    stays g.F.Format.layout c.self.inside.state c.transadd.new.state (call.TransformAdd c.args.x c.args.s c.args.t) []
    (answer_to says_ok c.transadd.result)
    c.self.invariant
    (transadd_is_right g.F.Format.layout c.self.inside.state c.args.x c.args.s c.args.t c.transadd.result
    c.transadd.new.state c.transadd.ensures)

pub returns : goal.returns
returns g c = record {
  right = subst (λ h. IsRight g.F.Format.layout h (call.TransformAdd c.args.x c.args.s c.args.t) []
      (answer_to says_ok c.transadd.result) c.transadd.new.state) c.self.view_is
      (transadd_is_right g.F.Format.layout c.self.inside.state c.args.x c.args.s c.args.t c.transadd.result
      c.transadd.new.state c.transadd.ensures);
  grains = subst (λ x. c.transadd.new.state.segs.grains ≡ x.segs.grains) c.self.view_is
      (grains_stay g.F.Format.layout c.self.inside.state c.transadd.new.state (call.TransformAdd c.args.x c.args.s c.args.t) [] (answer_to
      says_ok c.transadd.result) c.self.invariant (transadd_is_right g.F.Format.layout c.self.inside.state c.args.x c.args.s c.args.t
      c.transadd.result c.transadd.new.state c.transadd.ensures) refl);
  keys = subst (λ x. c.transadd.new.state.names.keys ≡ x.names.keys) c.self.view_is
      (keys_stay c.self.inside.state _ c.transadd.ensures (pairs c.self.inside.state g.F.Format.layout c.args.x c.args.s c.args.t));
}
