use Rattle.std.proofs.Common.{subst, [], ◌≡◌, refl}
use Rattle.mps_model.specs.declared.call.Call.TheVariants as call
use Rattle.mps_refinement.specs.Answering.{answer_to, says_ok}
use Rattle.mps_refinement.specs.RightStep.{IsRight}
use Rattle.mps_refinement.proofs.Calls.DroppingRoots.{droproot_is_right}
use Rattle.mps_refinement.proofs.Worlds.Staying.{stays, grains_stay}
use Rattle.mps_heap_spec.specs.Keyed.{DropsKeys}
use Rattle.mps_heap_spec.proofs.KeysStay.{dropping}
use Rattle.mps_heap.proofs.heap.Heap.drop_root.Goals as goal

pub invariant_of-self : goal.invariant_of-self
invariant_of-self g c =
    stays g.F.Format.layout c.self.inside.state c.drop_root.new.state (call.DropRoot c.args.name) [] (answer_to says_ok
    c.drop_root.result) c.self.invariant
    (droproot_is_right g.F.Format.layout c.self.inside.state c.args.name c.drop_root.result c.drop_root.new.state c.drop_root.ensures)

pub returns : goal.returns
returns g c = record {
  right = subst (λ h. IsRight g.F.Format.layout h (call.DropRoot c.args.name) [] (answer_to says_ok c.drop_root.result)
      c.drop_root.new.state) c.self.view_is
      (droproot_is_right g.F.Format.layout c.self.inside.state c.args.name c.drop_root.result c.drop_root.new.state c.drop_root.ensures);
  grains = subst (λ x. c.drop_root.new.state.segs.grains ≡ x.segs.grains) c.self.view_is
      (grains_stay g.F.Format.layout c.self.inside.state c.drop_root.new.state (call.DropRoot c.args.name) [] (answer_to says_ok
      c.drop_root.result) c.self.invariant (droproot_is_right g.F.Format.layout c.self.inside.state c.args.name c.drop_root.result
      c.drop_root.new.state c.drop_root.ensures) refl);
  keys = subst (λ x. DropsKeys x.names.keys c.drop_root.new.state.names.keys c.args.name c.drop_root.result) c.self.view_is
      (dropping c.drop_root.ensures);
}
