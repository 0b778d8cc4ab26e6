use Rattle.std.proofs.Common.{subst, [], ◌≡◌, refl}
use Rattle.std.specs.Prelude.{length, map}
use Rattle.mps_model.specs.declared.call.Call.TheVariants as call
use Rattle.mps_sac.specs.declared.class.ClassSize.{ClassSize}
use Rattle.mps_refinement.specs.Answering.{answer_to, says_ok}
use Rattle.mps_refinement.specs.RightStep.{IsRight}
use Rattle.mps_refinement.proofs.Calls.CacheMaking.{cache_is_right, own_numbers}
use Rattle.mps_refinement.proofs.Worlds.Staying.{grains_stay, stays}
use Rattle.mps_heap_spec.proofs.KeysStay.{caching}
use Rattle.mps_heap.proofs.heap.Heap.cache.Goals as goal

pub invariant_of-self : goal.invariant_of-self
invariant_of-self g c =
    let given = c.args.classes.now in
    let sizes = map (λ (k : ClassSize). k.words) given in
    let limits = map (λ (k : ClassSize). k.limit) given in
    stays g.F.Format.layout c.self.inside.state c.cache.new.state (call.Cache c.args.name c.args.pool (length given) sizes limits) []
    (answer_to says_ok c.cache.result) c.self.invariant
    (cache_is_right g.F.Format.layout c.self.inside.state c.args.name c.args.pool given sizes limits
    (own_numbers (λ (k : ClassSize). k.words) given) (own_numbers (λ (k : ClassSize). k.limit) given) c.cache.result c.cache.new.state
    c.cache.ensures.outcome)

pub returns : goal.returns
returns g c = record {
  right = λ sizes limits words most.
      subst (λ h. IsRight g.F.Format.layout h (call.Cache c.args.name c.args.pool (length c.args.classes.now) sizes limits) []
      (answer_to says_ok c.cache.result) c.cache.new.state) c.self.view_is
      (cache_is_right g.F.Format.layout c.self.inside.state c.args.name c.args.pool c.args.classes.now sizes limits words most
      c.cache.result c.cache.new.state c.cache.ensures.outcome);
  grains =
      let given = c.args.classes.now in
      let sizes = map (λ (k : ClassSize). k.words) given in
      let limits = map (λ (k : ClassSize). k.limit) given in
      subst (λ x. c.cache.new.state.segs.grains ≡ x.segs.grains) c.self.view_is
      (grains_stay g.F.Format.layout c.self.inside.state c.cache.new.state
      (call.Cache c.args.name c.args.pool (length given) sizes limits) [] (answer_to says_ok c.cache.result) c.self.invariant
      (cache_is_right g.F.Format.layout c.self.inside.state c.args.name c.args.pool given sizes limits
      (own_numbers (λ (k : ClassSize). k.words) given) (own_numbers (λ (k : ClassSize). k.limit) given) c.cache.result c.cache.new.state
      c.cache.ensures.outcome) refl);
  keys = subst (λ x. c.cache.new.state.names.keys ≡ x.names.keys) c.self.view_is
      (caching c.cache.ensures.outcome);
}
