use Rattle.std.proofs.Common.{◌≡◌, subst}
use Rattle.mps_model.specs.declared.call.Call.TheVariants as call
use Rattle.mps_refinement.specs.Making.{IsRightMakingIn, MeansLayout}
use Rattle.mps_refinement.proofs.Calls.MakingPools.{pool_on_chain_is_right}
use Rattle.mps_refinement.proofs.Worlds.Staying.{pool_stays}
use Rattle.mps_heap.proofs.Grains.{pool_on_chain_grains_stay}
use Rattle.mps_heap.proofs.Results.{making_in_without_key}
use Rattle.mps_heap_spec.proofs.KeysStay.{making}
use Rattle.mps_heap.proofs.heap.Heap.pool_on_chain.Goals as goal

pub invariant_of-self : goal.invariant_of-self
invariant_of-self g c =
    pool_stays g.F.Format.layout c.self.inside.state c.pool_on_chain.new.state
    (λ number. call.PoolOnChain c.args.name c.args.kind number c.args.chain) c.args.format c.pool_on_chain.result
    (g.met.F.Format.lawful c.args.format) c.self.invariant
    (λ number. pool_on_chain_is_right g.F.Format.layout c.self.inside.state c.args.name c.args.kind c.args.format c.args.chain number
    c.requires c.pool_on_chain.result c.pool_on_chain.new.state c.pool_on_chain.ensures)

pub returns : goal.returns
returns g c = record {
  right = λ number.
      subst (λ h. IsRightMakingIn g.F.Format.layout (MeansLayout number (g.F.Format.layout c.args.format)) h
      (call.PoolOnChain c.args.name c.args.kind number c.args.chain) c.without_key.result c.pool_on_chain.new.state) c.self.view_is
      (making_in_without_key g.F.Format.layout (MeansLayout number (g.F.Format.layout c.args.format)) c.self.inside.state
      c.pool_on_chain.new.state (call.PoolOnChain c.args.name c.args.kind number c.args.chain) c.pool_on_chain.result
      c.without_key.result c.without_key.ensures.value
      (pool_on_chain_is_right g.F.Format.layout c.self.inside.state c.args.name c.args.kind c.args.format c.args.chain number c.requires
      c.pool_on_chain.result c.pool_on_chain.new.state c.pool_on_chain.ensures));
  grains = subst (λ x. c.pool_on_chain.new.state.segs.grains ≡ x.segs.grains) c.self.view_is
      (pool_on_chain_grains_stay c.pool_on_chain.ensures);
  keys = subst (λ x. c.pool_on_chain.new.state.names.keys ≡ x.names.keys) c.self.view_is
      (making c.pool_on_chain.ensures (λ key x makes. makes.makes.names.keys));
}
