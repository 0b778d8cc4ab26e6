use Rattle.std.proofs.Common.{subst, [], ◌≡◌, refl}
use Rattle.mps_model.specs.declared.call.Call.TheVariants as call
use Rattle.mps_refinement.specs.Answering.{answer_to, says_ok}
use Rattle.mps_refinement.specs.RightStep.{IsRight}
use Rattle.mps_refinement.proofs.Calls.Objects.{number_set_right}
use Rattle.mps_refinement.proofs.Worlds.Staying.{stays, grains_stay}
use Rattle.mps_heap_spec.proofs.NamesStay.{sets_number, keys_stay}
use Rattle.mps_heap.proofs.heap.Heap.set_num.Goals as goal

pub invariant_of-self : goal.invariant_of-self
invariant_of-self g c =
    stays g.F.Format.layout c.self.inside.state c.set_num.new.state (call.SetNumber c.args.slot c.args.cell c.args.n) [] (answer_to
    says_ok c.set_num.result) c.self.invariant
    (number_set_right g.F.Format.layout c.self.inside.state c.args.slot c.args.cell c.args.n c.set_num.result c.set_num.new.state
    c.set_num.ensures)

pub returns : goal.returns
returns g c = record {
  right = subst (λ h. IsRight g.F.Format.layout h (call.SetNumber c.args.slot c.args.cell c.args.n) [] (answer_to says_ok
      c.set_num.result) c.set_num.new.state) c.self.view_is
      (number_set_right g.F.Format.layout c.self.inside.state c.args.slot c.args.cell c.args.n c.set_num.result c.set_num.new.state
      c.set_num.ensures);
  grains = subst (λ x. c.set_num.new.state.segs.grains ≡ x.segs.grains) c.self.view_is
      (grains_stay g.F.Format.layout c.self.inside.state c.set_num.new.state (call.SetNumber c.args.slot c.args.cell c.args.n) []
      (answer_to says_ok c.set_num.result) c.self.invariant (number_set_right g.F.Format.layout c.self.inside.state c.args.slot
      c.args.cell c.args.n c.set_num.result c.set_num.new.state c.set_num.ensures) refl);
  keys = subst (λ x. c.set_num.new.state.names.keys ≡ x.names.keys) c.self.view_is
      (keys_stay c.self.inside.state _ c.set_num.ensures (sets_number c.self.inside.state g.F.Format.layout c.args.slot c.args.cell
      c.args.n));
}
