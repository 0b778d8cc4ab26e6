use Rattle.std.proofs.Common.{subst, [], ◌≡◌, refl}
use Rattle.mps_model.specs.declared.call.Call.TheVariants as call
use Rattle.mps_model.specs.declared.reply.Reply.TheVariants as reply
use Rattle.mps_model.specs.Answer.{Replied}
use Rattle.mps_refinement.specs.RightStep.{IsRight}
use Rattle.mps_refinement.proofs.Calls.ArenaCalls.{release_is_right}
use Rattle.mps_refinement.proofs.Worlds.Staying.{stays, grains_stay}
use Rattle.mps_heap_spec.proofs.KeysStay.{same_heap}
use Rattle.mps_heap.proofs.heap.Heap.release.Goals as goal

pub invariant_of-self : goal.invariant_of-self
invariant_of-self g c =
    stays g.F.Format.layout c.self.inside.state c.release.new.state call.Release [] (Replied reply.Ok) c.self.invariant
    (release_is_right g.F.Format.layout c.self.inside.state c.release.new.state c.release.ensures)

pub returns : goal.returns
returns g c = record {
  right = subst (λ h. IsRight g.F.Format.layout h call.Release [] (Replied reply.Ok) c.release.new.state) c.self.view_is
      (release_is_right g.F.Format.layout c.self.inside.state c.release.new.state c.release.ensures);
  grains = subst (λ x. c.release.new.state.segs.grains ≡ x.segs.grains) c.self.view_is
      (grains_stay g.F.Format.layout c.self.inside.state c.release.new.state call.Release [] (Replied reply.Ok) c.self.invariant
      (release_is_right g.F.Format.layout c.self.inside.state c.release.new.state c.release.ensures) refl);
  keys = subst (λ x. c.release.new.state.names.keys ≡ x.names.keys) c.self.view_is
      (same_heap c.release.ensures);
}
