use Rattle.std.proofs.Common.{length, subst, ◌≡◌, refl}
use Rattle.std.proofs.Math.Seq.{take-length}
use Rattle.mps_model.specs.declared.call.Call.TheVariants as call
use Rattle.mps_refinement.specs.Making.{IsRightMaking}
use Rattle.mps_refinement.proofs.Calls.MakingChains.{chain_is_right}
use Rattle.mps_refinement.proofs.Worlds.Staying.{making_stays}
use Rattle.mps_heap.proofs.Grains.{making_grains_stay}
use Rattle.mps_heap.proofs.Results.{making_without_key}
use Rattle.mps_heap_spec.proofs.KeysStay.{making}
use Rattle.mps_heap.proofs.heap.Heap.chain.Goals as goal

pub invariant_of-self : goal.invariant_of-self
invariant_of-self g c =
    let given = c.args.capacities.now in
    making_stays g.F.Format.layout c.self.inside.state c.chain.new.state (call.Chain c.args.name (length given) given) c.chain.result
    c.self.invariant
    (chain_is_right g.F.Format.layout c.self.inside.state c.args.name given (length given) given (take-length given) c.chain.result
    c.chain.new.state c.chain.ensures)

pub returns : goal.returns
returns g c = record {
  right = λ numbers are.
      let given = c.args.capacities.now in
      subst (λ h. IsRightMaking g.F.Format.layout h (call.Chain c.args.name (length given) numbers) c.without_key.result c.chain.new.state)
      c.self.view_is
      (making_without_key g.F.Format.layout c.self.inside.state c.chain.new.state (call.Chain c.args.name (length given) numbers)
      c.chain.result c.without_key.result c.without_key.ensures.value
      (chain_is_right g.F.Format.layout c.self.inside.state c.args.name given (length given) numbers are c.chain.result
      c.chain.new.state c.chain.ensures));
  grains =
      let given = c.args.capacities.now in
      subst (λ x. c.chain.new.state.segs.grains ≡ x.segs.grains) c.self.view_is
      (making_grains_stay g.F.Format.layout c.self.inside.state c.chain.new.state (call.Chain c.args.name (length given) given)
      c.chain.result c.self.invariant
      (chain_is_right g.F.Format.layout c.self.inside.state c.args.name given (length given) given (take-length given) c.chain.result
      c.chain.new.state c.chain.ensures) refl);
  keys = subst (λ x. c.chain.new.state.names.keys ≡ x.names.keys) c.self.view_is
      (making c.chain.ensures (λ key x makes. makes.names.keys));
}
