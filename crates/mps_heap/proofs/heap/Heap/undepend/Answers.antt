use Rattle.std.proofs.Common.{◌≡◌, refl, subst, []}
use Rattle.mps_model.specs.declared.call.Call.TheVariants as call
use Rattle.mps_refinement.specs.Answering.{answer_to, says_ok}
use Rattle.mps_refinement.specs.RightStep.{IsRight}
use Rattle.mps_refinement.proofs.Calls.Pairing.{undepend_is_right}
use Rattle.mps_refinement.proofs.Worlds.Staying.{grains_stay, stays}
use Rattle.mps_heap_spec.proofs.NamesStay.{unlinks, keys_stay}
use Rattle.mps_heap.proofs.heap.Heap.undepend.Goals as goal

pub invariant_of-self : goal.invariant_of-self
invariant_of-self g c =
    stays g.F.Format.layout c.self.inside.state c.undepend.new.state (call.Undepend c.args.holder) []
    (answer_to says_ok c.undepend.result) c.self.invariant
    (undepend_is_right g.F.Format.layout c.self.inside.state c.args.holder c.undepend.result c.undepend.new.state
    c.undepend.ensures)

pub returns : goal.returns
returns g c = record {
  right = subst (λ h. IsRight g.F.Format.layout h (call.Undepend c.args.holder) [] (answer_to says_ok c.undepend.result)
      c.undepend.new.state) c.self.view_is
      (undepend_is_right g.F.Format.layout c.self.inside.state c.args.holder c.undepend.result c.undepend.new.state
      c.undepend.ensures);
  grains = subst (λ h. c.undepend.new.state.segs.grains ≡ h.segs.grains) c.self.view_is
      (grains_stay g.F.Format.layout c.self.inside.state c.undepend.new.state (call.Undepend c.args.holder) [] (answer_to says_ok
      c.undepend.result) c.self.invariant
      (undepend_is_right g.F.Format.layout c.self.inside.state c.args.holder c.undepend.result c.undepend.new.state
      c.undepend.ensures) refl);
  keys = subst (λ x. c.undepend.new.state.names.keys ≡ x.names.keys) c.self.view_is
      (keys_stay c.self.inside.state _ c.undepend.ensures (unlinks c.self.inside.state g.F.Format.layout c.args.holder));
}
