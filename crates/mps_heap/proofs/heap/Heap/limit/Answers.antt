use Rattle.std.proofs.Common.{subst, [], ◌≡◌, refl}
use Rattle.mps_model.specs.declared.call.Call.TheVariants as call
use Rattle.mps_refinement.specs.Answering.{answer_to, says_ok}
use Rattle.mps_refinement.specs.RightStep.{IsRight}
use Rattle.mps_refinement.proofs.Calls.ArenaCalls.{limit_is_right}
use Rattle.mps_refinement.proofs.Worlds.Staying.{stays, grains_stay}
use Rattle.mps_heap_spec.proofs.NamesStay.{limits, keys_stay}
use Rattle.mps_heap.proofs.heap.Heap.limit.Goals as goal

pub invariant_of-self : goal.invariant_of-self
invariant_of-self g c =
    stays g.F.Format.layout c.self.inside.state c.limit.new.state (call.Limit c.args.n) [] (answer_to says_ok c.limit.result)
    c.self.invariant
    (limit_is_right g.F.Format.layout c.self.inside.state c.args.n c.limit.result c.limit.new.state c.limit.ensures)

pub returns : goal.returns
returns g c = record {
  right = subst (λ h. IsRight g.F.Format.layout h (call.Limit c.args.n) [] (answer_to says_ok c.limit.result) c.limit.new.state)
      c.self.view_is
      (limit_is_right g.F.Format.layout c.self.inside.state c.args.n c.limit.result c.limit.new.state c.limit.ensures);
  grains = subst (λ x. c.limit.new.state.segs.grains ≡ x.segs.grains) c.self.view_is
      (grains_stay g.F.Format.layout c.self.inside.state c.limit.new.state (call.Limit c.args.n) [] (answer_to says_ok c.limit.result)
      c.self.invariant (limit_is_right g.F.Format.layout c.self.inside.state c.args.n c.limit.result c.limit.new.state c.limit.ensures)
      refl);
  keys = subst (λ x. c.limit.new.state.names.keys ≡ x.names.keys) c.self.view_is
      (keys_stay c.self.inside.state _ c.limit.ensures (limits c.self.inside.state c.args.n));
}
