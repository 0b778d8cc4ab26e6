use Rattle.std.proofs.Common.{subst, [], ◌≡◌, refl}
use Rattle.mps_model.specs.declared.call.Call.TheVariants as call
use Rattle.mps_refinement.specs.Answering.{answer_to, says_ok}
use Rattle.mps_refinement.specs.RightStep.{IsRight}
use Rattle.mps_refinement.proofs.Calls.Objects.{reference_put_right}
use Rattle.mps_refinement.proofs.Worlds.Staying.{stays, grains_stay}
use Rattle.mps_heap_spec.proofs.NamesStay.{puts, keys_stay}
use Rattle.mps_heap.proofs.heap.Heap.put.Goals as goal

pub invariant_of-self : goal.invariant_of-self
invariant_of-self g c =
    stays g.F.Format.layout c.self.inside.state c.put.new.state (call.Put c.args.target c.args.cell c.args.source) [] (answer_to says_ok
    c.put.result) c.self.invariant
    (reference_put_right g.F.Format.layout c.self.inside.state c.args.target c.args.cell c.args.source c.put.result c.put.new.state
    c.put.ensures.outcome)

pub returns : goal.returns
returns g c = record {
  right = subst (λ h. IsRight g.F.Format.layout h (call.Put c.args.target c.args.cell c.args.source) [] (answer_to says_ok
      c.put.result) c.put.new.state) c.self.view_is
      (reference_put_right g.F.Format.layout c.self.inside.state c.args.target c.args.cell c.args.source c.put.result c.put.new.state
      c.put.ensures.outcome);
  grains = subst (λ x. c.put.new.state.segs.grains ≡ x.segs.grains) c.self.view_is
      (grains_stay g.F.Format.layout c.self.inside.state c.put.new.state (call.Put c.args.target c.args.cell c.args.source) [] (answer_to
      says_ok c.put.result) c.self.invariant (reference_put_right g.F.Format.layout c.self.inside.state c.args.target c.args.cell
      c.args.source c.put.result c.put.new.state c.put.ensures.outcome) refl);
  keys = subst (λ x. c.put.new.state.names.keys ≡ x.names.keys) c.self.view_is
      (keys_stay c.self.inside.state _ c.put.ensures.outcome (puts c.self.inside.state g.F.Format.layout c.args.target c.args.cell
      c.args.source));
}
