use Rattle.std.proofs.Common.{◌≡◌, refl, subst, []}
use Rattle.mps_model.specs.declared.call.Call.TheVariants as call
use Rattle.mps_refinement.specs.Answering.{answer_to, says_ok}
use Rattle.mps_refinement.specs.RightStep.{IsRight}
use Rattle.mps_refinement.proofs.Calls.RightInit.{number_init_is_right}
use Rattle.mps_refinement.proofs.Worlds.Staying.{grains_stay, stays}
use Rattle.mps_heap_spec.proofs.NamesStay.{initialises_number, keys_stay}
use Rattle.mps_heap.proofs.heap.Heap.init_num.Goals as goal

pub invariant_of-self : goal.invariant_of-self
invariant_of-self g c =
    stays g.F.Format.layout c.self.inside.state c.init_num.new.state (call.InitNumber c.args.x c.args.cell c.args.n) [] (answer_to
    says_ok c.init_num.result) c.self.invariant
    (number_init_is_right g.F.Format.layout c.self.inside.state c.args.x c.args.cell c.args.n c.init_num.result c.init_num.new.state
    c.init_num.ensures)

pub returns : goal.returns
returns g c = record {
  right = subst (λ h. IsRight g.F.Format.layout h (call.InitNumber c.args.x c.args.cell c.args.n) [] (answer_to says_ok
      c.init_num.result) c.init_num.new.state) c.self.view_is
      (number_init_is_right g.F.Format.layout c.self.inside.state c.args.x c.args.cell c.args.n c.init_num.result c.init_num.new.state
      c.init_num.ensures);
  grains = subst (λ h. c.init_num.new.state.segs.grains ≡ h.segs.grains) c.self.view_is
      (grains_stay g.F.Format.layout c.self.inside.state c.init_num.new.state (call.InitNumber c.args.x c.args.cell c.args.n) []
      (answer_to says_ok c.init_num.result) c.self.invariant
      (number_init_is_right g.F.Format.layout c.self.inside.state c.args.x c.args.cell c.args.n c.init_num.result c.init_num.new.state
      c.init_num.ensures) refl);
  keys = subst (λ x. c.init_num.new.state.names.keys ≡ x.names.keys) c.self.view_is
      (keys_stay c.self.inside.state _ c.init_num.ensures (initialises_number c.self.inside.state g.F.Format.layout c.args.x c.args.cell
      c.args.n));
}
