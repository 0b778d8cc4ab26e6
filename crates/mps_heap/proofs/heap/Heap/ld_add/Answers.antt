use Rattle.std.proofs.Common.{subst, [], ◌≡◌, refl}
use Rattle.mps_model.specs.declared.call.Call.TheVariants as call
use Rattle.mps_refinement.specs.Answering.{answer_to, says_ok}
use Rattle.mps_refinement.specs.RightStep.{IsRight}
use Rattle.mps_refinement.proofs.Calls.DependencyAdded.{dependency_added_right}
use Rattle.mps_refinement.proofs.Worlds.Staying.{stays, grains_stay}
use Rattle.mps_heap_spec.proofs.NamesStay.{adds, keys_stay}
use Rattle.mps_heap.proofs.heap.Heap.ld_add.Goals as goal

pub invariant_of-self : goal.invariant_of-self
invariant_of-self g c =
    stays g.F.Format.layout c.self.inside.state c.ld_add.new.state (call.DependencyAdd c.args.name c.args.slot) [] (answer_to says_ok
    c.ld_add.result) c.self.invariant
    (dependency_added_right g.F.Format.layout c.self.inside.state c.args.name c.args.slot c.ld_add.result c.ld_add.new.state
    c.ld_add.ensures)

pub returns : goal.returns
returns g c = record {
  right = subst (λ h. IsRight g.F.Format.layout h (call.DependencyAdd c.args.name c.args.slot) [] (answer_to says_ok c.ld_add.result)
      c.ld_add.new.state) c.self.view_is
      (dependency_added_right g.F.Format.layout c.self.inside.state c.args.name c.args.slot c.ld_add.result c.ld_add.new.state
      c.ld_add.ensures);
  grains = subst (λ x. c.ld_add.new.state.segs.grains ≡ x.segs.grains) c.self.view_is
      (grains_stay g.F.Format.layout c.self.inside.state c.ld_add.new.state (call.DependencyAdd c.args.name c.args.slot) [] (answer_to
      says_ok c.ld_add.result) c.self.invariant (dependency_added_right g.F.Format.layout c.self.inside.state c.args.name c.args.slot
      c.ld_add.result c.ld_add.new.state c.ld_add.ensures) refl);
  keys = subst (λ x. c.ld_add.new.state.names.keys ≡ x.names.keys) c.self.view_is
      (keys_stay c.self.inside.state _ c.ld_add.ensures (adds c.self.inside.state g.F.Format.layout c.args.name c.args.slot));
}
