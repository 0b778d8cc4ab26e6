use Rattle.std.proofs.Common.{◌≡◌, refl, subst, []}
use Rattle.mps_model.specs.declared.call.Call.TheVariants as call
use Rattle.mps_refinement.specs.Answering.{answer_to, says_ok}
use Rattle.mps_refinement.specs.RightStep.{IsRight}
use Rattle.mps_refinement.proofs.Calls.RightInit.{reference_init_is_right}
use Rattle.mps_refinement.proofs.Worlds.Staying.{grains_stay, stays}
use Rattle.mps_heap_spec.proofs.NamesStay.{initialises_reference, keys_stay}
use Rattle.mps_heap.proofs.heap.Heap.init_ref.Goals as goal

pub invariant_of-self : goal.invariant_of-self
invariant_of-self g c =
    stays g.F.Format.layout c.self.inside.state c.init_ref.new.state (call.InitReference c.args.x c.args.cell c.args.source) []
    (answer_to says_ok c.init_ref.result) c.self.invariant
    (reference_init_is_right g.F.Format.layout c.self.inside.state c.args.x c.args.cell c.args.source c.init_ref.result
    c.init_ref.new.state c.init_ref.ensures)

pub returns : goal.returns
returns g c = record {
  right = subst (λ h. IsRight g.F.Format.layout h (call.InitReference c.args.x c.args.cell c.args.source) [] (answer_to says_ok
      c.init_ref.result) c.init_ref.new.state) c.self.view_is
      (reference_init_is_right g.F.Format.layout c.self.inside.state c.args.x c.args.cell c.args.source c.init_ref.result
      c.init_ref.new.state c.init_ref.ensures);
  grains = subst (λ h. c.init_ref.new.state.segs.grains ≡ h.segs.grains) c.self.view_is
      (grains_stay g.F.Format.layout c.self.inside.state c.init_ref.new.state (call.InitReference c.args.x c.args.cell c.args.source) []
      (answer_to says_ok c.init_ref.result) c.self.invariant
      (reference_init_is_right g.F.Format.layout c.self.inside.state c.args.x c.args.cell c.args.source c.init_ref.result
      c.init_ref.new.state c.init_ref.ensures) refl);
  keys = subst (λ x. c.init_ref.new.state.names.keys ≡ x.names.keys) c.self.view_is
      (keys_stay c.self.inside.state _ c.init_ref.ensures (initialises_reference c.self.inside.state g.F.Format.layout c.args.x
      c.args.cell c.args.source));
}
