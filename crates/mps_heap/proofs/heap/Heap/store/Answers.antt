use Rattle.std.proofs.Common.{subst, [], ◌≡◌, refl}
use Rattle.mps_model.specs.declared.call.Call.TheVariants as call
use Rattle.mps_refinement.specs.Answering.{answer_to, says_ok}
use Rattle.mps_refinement.specs.RightStep.{IsRight}
use Rattle.mps_refinement.proofs.Lookups.BlockWords.{store_is_right}
use Rattle.mps_refinement.proofs.Worlds.Staying.{stays, grains_stay}
use Rattle.mps_heap_spec.proofs.NamesStay.{stores, keys_stay}
use Rattle.mps_heap.proofs.heap.Heap.store.Goals as goal

pub invariant_of-self : goal.invariant_of-self
invariant_of-self g c =
    stays g.F.Format.layout c.self.inside.state c.store.new.state (call.Store c.args.place c.args.word c.args.n) [] (answer_to says_ok
    c.store.result) c.self.invariant
    (store_is_right g.F.Format.layout c.self.inside.state c.args.place c.args.word c.args.n c.store.result c.store.new.state
    c.store.ensures)

pub returns : goal.returns
returns g c = record {
  right = subst (λ h. IsRight g.F.Format.layout h (call.Store c.args.place c.args.word c.args.n) [] (answer_to says_ok c.store.result)
      c.store.new.state) c.self.view_is
      (store_is_right g.F.Format.layout c.self.inside.state c.args.place c.args.word c.args.n c.store.result c.store.new.state
      c.store.ensures);
  grains = subst (λ x. c.store.new.state.segs.grains ≡ x.segs.grains) c.self.view_is
      (grains_stay g.F.Format.layout c.self.inside.state c.store.new.state (call.Store c.args.place c.args.word c.args.n) [] (answer_to
      says_ok c.store.result) c.self.invariant (store_is_right g.F.Format.layout c.self.inside.state c.args.place c.args.word c.args.n
      c.store.result c.store.new.state c.store.ensures) refl);
  keys = subst (λ x. c.store.new.state.names.keys ≡ x.names.keys) c.self.view_is
      (keys_stay c.self.inside.state _ c.store.ensures (stores c.self.inside.state c.args.place c.args.word c.args.n));
}
