use Rattle.std.proofs.Common.{subst, [], ◌≡◌, refl}
use Rattle.mps_model.specs.declared.call.Call.TheVariants as call
use Rattle.mps_refinement.specs.Answering.{answer_to, says_ok}
use Rattle.mps_refinement.specs.RightStep.{IsRight}
use Rattle.mps_refinement.proofs.Calls.Transforming.{some_transforms_there, transdrop_is_right}
use Rattle.mps_refinement.proofs.Worlds.Staying.{stays, grains_stay}
use Rattle.mps_heap_spec.specs.Keyed.{DropsKeys}
use Rattle.mps_heap_spec.proofs.KeysStay.{dropping}
use Rattle.mps_heap.proofs.heap.Heap.transdrop.Goals as goal

pub transdrop-requires : goal.transdrop-requires
transdrop-requires g c = some_transforms_there g.F.Format.layout c.self.inside.state c.self.invariant

pub invariant_of-self : goal.invariant_of-self
invariant_of-self g c =
    stays g.F.Format.layout c.self.inside.state c.transdrop.new.state (call.TransformDrop c.args.x) []
    (answer_to says_ok c.transdrop.result)
    c.self.invariant
    (transdrop_is_right g.F.Format.layout c.self.inside.state c.args.x c.transdrop.result c.transdrop.new.state c.transdrop.ensures)

pub returns : goal.returns
returns g c = record {
  right = subst (λ h. IsRight g.F.Format.layout h (call.TransformDrop c.args.x) []
      (answer_to says_ok c.transdrop.result) c.transdrop.new.state) c.self.view_is
      (transdrop_is_right g.F.Format.layout c.self.inside.state c.args.x c.transdrop.result c.transdrop.new.state c.transdrop.ensures);
  grains = subst (λ x. c.transdrop.new.state.segs.grains ≡ x.segs.grains) c.self.view_is
      (grains_stay g.F.Format.layout c.self.inside.state c.transdrop.new.state (call.TransformDrop c.args.x) [] (answer_to says_ok
      c.transdrop.result) c.self.invariant (transdrop_is_right g.F.Format.layout c.self.inside.state c.args.x c.transdrop.result
      c.transdrop.new.state c.transdrop.ensures) refl);
  keys = subst (λ x. DropsKeys x.names.keys c.transdrop.new.state.names.keys c.args.x c.transdrop.result) c.self.view_is
      (dropping c.transdrop.ensures);
}
