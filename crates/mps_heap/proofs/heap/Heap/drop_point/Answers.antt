use Rattle.std.proofs.Common.{subst, [], ◌≡◌, refl}
use Rattle.mps_model.specs.declared.call.Call.TheVariants as call
use Rattle.mps_refinement.specs.Answering.{answer_to, says_ok}
use Rattle.mps_refinement.specs.RightStep.{IsRight}
use Rattle.mps_refinement.proofs.Calls.MakingPoints.{droppoint_is_right}
use Rattle.mps_refinement.proofs.Worlds.Staying.{stays, grains_stay}
use Rattle.mps_heap_spec.specs.Keyed.{DropsKeys}
use Rattle.mps_heap_spec.proofs.KeysStay.{dropping}
use Rattle.mps_heap.proofs.heap.Heap.drop_point.Goals as goal

pub invariant_of-self : goal.invariant_of-self
invariant_of-self g c =
    stays g.F.Format.layout c.self.inside.state c.drop_point.new.state (call.DropPoint c.args.name) [] (answer_to says_ok
    c.drop_point.result) c.self.invariant
    (droppoint_is_right g.F.Format.layout c.self.inside.state c.args.name c.drop_point.result c.drop_point.new.state c.drop_point.ensures)

pub returns : goal.returns
returns g c = record {
  right = subst (λ h. IsRight g.F.Format.layout h (call.DropPoint c.args.name) [] (answer_to says_ok c.drop_point.result)
      c.drop_point.new.state) c.self.view_is
      (droppoint_is_right g.F.Format.layout c.self.inside.state c.args.name c.drop_point.result c.drop_point.new.state
      c.drop_point.ensures);
  grains = subst (λ x. c.drop_point.new.state.segs.grains ≡ x.segs.grains) c.self.view_is
      (grains_stay g.F.Format.layout c.self.inside.state c.drop_point.new.state (call.DropPoint c.args.name) [] (answer_to says_ok
      c.drop_point.result) c.self.invariant (droppoint_is_right g.F.Format.layout c.self.inside.state c.args.name c.drop_point.result
      c.drop_point.new.state c.drop_point.ensures) refl);
  keys = subst (λ x. DropsKeys x.names.keys c.drop_point.new.state.names.keys c.args.name c.drop_point.result) c.self.view_is
      (dropping c.drop_point.ensures);
}
