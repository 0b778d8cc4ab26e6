use Rattle.std.proofs.Common.{subst, [], ◌≡◌, refl}
use Rattle.mps_model.specs.declared.call.Call.TheVariants as call
use Rattle.mps_refinement.specs.Answering.{answer_to, says_interned}
use Rattle.mps_refinement.specs.RightStep.{IsRight}
use Rattle.mps_refinement.proofs.Calls.Labelling.{intern_is_right}
use Rattle.mps_refinement.proofs.Worlds.Staying.{stays, grains_stay}
use Rattle.mps_heap_spec.proofs.KeysStay.{interning}
use Rattle.mps_heap.proofs.heap.Heap.intern.Goals as goal

pub invariant_of-self : goal.invariant_of-self
invariant_of-self g c =
    stays g.F.Format.layout c.self.inside.state c.intern.new.state (call.Intern c.args.name) [] (answer_to says_interned c.intern.result)
    c.self.invariant
    (intern_is_right g.F.Format.layout c.self.inside.state c.args.name c.intern.result c.intern.new.state c.intern.ensures.outcome)

pub returns : goal.returns
returns g c = record {
  right = subst (λ h. IsRight g.F.Format.layout h (call.Intern c.args.name) [] (answer_to says_interned c.intern.result)
      c.intern.new.state) c.self.view_is
      (intern_is_right g.F.Format.layout c.self.inside.state c.args.name c.intern.result c.intern.new.state c.intern.ensures.outcome);
  grains = subst (λ x. c.intern.new.state.segs.grains ≡ x.segs.grains) c.self.view_is
      (grains_stay g.F.Format.layout c.self.inside.state c.intern.new.state (call.Intern c.args.name) [] (answer_to says_interned
      c.intern.result) c.self.invariant (intern_is_right g.F.Format.layout c.self.inside.state c.args.name c.intern.result
      c.intern.new.state c.intern.ensures.outcome) refl);
  keys = subst (λ x. c.intern.new.state.names.keys ≡ x.names.keys) c.self.view_is
      (interning c.intern.ensures.outcome);
}
