use Rattle.std.proofs.Common.{◌≡◌, refl, subst, []}
use Rattle.mps_model.specs.declared.call.Call.TheVariants as call
use Rattle.mps_refinement.specs.Answering.{answer_to, says_ok}
use Rattle.mps_refinement.specs.RightStep.{IsRight}
use Rattle.mps_refinement.proofs.Calls.Objects.{tag_set_right}
use Rattle.mps_refinement.proofs.Worlds.Staying.{grains_stay, stays}
use Rattle.mps_heap_spec.proofs.NamesStay.{tags, keys_stay}
use Rattle.mps_heap.proofs.heap.Heap.set_tag.Goals as goal

pub invariant_of-self : goal.invariant_of-self
invariant_of-self g c =
    stays g.F.Format.layout c.self.inside.state c.set_tag.new.state (call.SetTag c.args.slot c.args.cell c.args.tag) [] (answer_to
    says_ok c.set_tag.result) c.self.invariant
    (tag_set_right g.F.Format.layout c.self.inside.state c.args.slot c.args.cell c.args.tag c.set_tag.result c.set_tag.new.state
    c.requires.fits c.set_tag.ensures.outcome)

pub returns : goal.returns
returns g c = record {
  right = subst (λ h. IsRight g.F.Format.layout h (call.SetTag c.args.slot c.args.cell c.args.tag) [] (answer_to says_ok
      c.set_tag.result) c.set_tag.new.state) c.self.view_is
      (tag_set_right g.F.Format.layout c.self.inside.state c.args.slot c.args.cell c.args.tag c.set_tag.result c.set_tag.new.state
      c.requires.fits c.set_tag.ensures.outcome);
  grains = subst (λ h. c.set_tag.new.state.segs.grains ≡ h.segs.grains) c.self.view_is
      (grains_stay g.F.Format.layout c.self.inside.state c.set_tag.new.state (call.SetTag c.args.slot c.args.cell c.args.tag) [] (answer_to
      says_ok c.set_tag.result) c.self.invariant
      (tag_set_right g.F.Format.layout c.self.inside.state c.args.slot c.args.cell c.args.tag c.set_tag.result c.set_tag.new.state
      c.requires.fits c.set_tag.ensures.outcome) refl);
  keys = subst (λ x. c.set_tag.new.state.names.keys ≡ x.names.keys) c.self.view_is
      (keys_stay c.self.inside.state _ c.set_tag.ensures.outcome (tags c.self.inside.state g.F.Format.layout c.args.slot c.args.cell
      c.args.tag));
}
