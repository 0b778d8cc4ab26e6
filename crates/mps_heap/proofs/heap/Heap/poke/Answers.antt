use Rattle.std.proofs.Common.{subst, [], ◌≡◌, refl}
use Rattle.mps_model.specs.declared.call.Call.TheVariants as call
use Rattle.mps_refinement.specs.Answering.{answer_to, says_block}
use Rattle.mps_refinement.specs.RightStep.{IsRight}
use Rattle.mps_refinement.proofs.Calls.Areas.{poked_right}
use Rattle.mps_refinement.proofs.Worlds.Staying.{stays, grains_stay}
use Rattle.mps_heap_spec.proofs.NamesStay.{pokes, keys_stay}
use Rattle.mps_heap.proofs.heap.Heap.poke.Goals as goal

pub invariant_of-self : goal.invariant_of-self
invariant_of-self g c =
    stays g.F.Format.layout c.self.inside.state c.poke.new.state (call.Poke c.args.place c.args.word) [] (answer_to says_block
    c.poke.result) c.self.invariant
    (poked_right g.F.Format.layout c.self.inside.state c.args.place c.args.word c.poke.result c.poke.new.state c.poke.ensures)

pub returns : goal.returns
returns g c = record {
  right = subst (λ h. IsRight g.F.Format.layout h (call.Poke c.args.place c.args.word) [] (answer_to says_block c.poke.result)
      c.poke.new.state) c.self.view_is
      (poked_right g.F.Format.layout c.self.inside.state c.args.place c.args.word c.poke.result c.poke.new.state c.poke.ensures);
  grains = subst (λ x. c.poke.new.state.segs.grains ≡ x.segs.grains) c.self.view_is
      (grains_stay g.F.Format.layout c.self.inside.state c.poke.new.state (call.Poke c.args.place c.args.word) [] (answer_to says_block
      c.poke.result) c.self.invariant (poked_right g.F.Format.layout c.self.inside.state c.args.place c.args.word c.poke.result
      c.poke.new.state c.poke.ensures) refl);
  keys = subst (λ x. c.poke.new.state.names.keys ≡ x.names.keys) c.self.view_is
      (keys_stay c.self.inside.state _ c.poke.ensures (pokes c.self.inside.state c.args.place c.args.word));
}
