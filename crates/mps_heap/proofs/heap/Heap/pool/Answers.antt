use Rattle.std.proofs.Common.{◌≡◌, subst}
use Rattle.mps_model.specs.declared.call.Call.TheVariants as call
use Rattle.mps_refinement.specs.Making.{IsRightMakingIn, MeansLayout}
use Rattle.mps_refinement.proofs.Calls.MakingPools.{pool_is_right}
use Rattle.mps_refinement.proofs.Worlds.Staying.{pool_stays}
use Rattle.mps_heap.proofs.Grains.{pool_grains_stay}
use Rattle.mps_heap.proofs.Results.{making_in_without_key}
use Rattle.mps_heap_spec.proofs.KeysStay.{making}
use Rattle.mps_heap.proofs.heap.Heap.pool.Goals as goal

pub invariant_of-self : goal.invariant_of-self
invariant_of-self g c =
    pool_stays g.F.Format.layout c.self.inside.state c.pool.new.state (λ number. call.Pool c.args.name c.args.kind number) c.args.format
    c.pool.result (g.met.F.Format.lawful c.args.format) c.self.invariant
    (λ number. pool_is_right g.F.Format.layout c.self.inside.state c.args.name c.args.kind c.args.format number c.pool.result
    c.pool.new.state c.pool.ensures)

pub returns : goal.returns
returns g c = record {
  right = λ number.
      subst (λ h. IsRightMakingIn g.F.Format.layout (MeansLayout number (g.F.Format.layout c.args.format)) h
      (call.Pool c.args.name c.args.kind number) c.without_key.result c.pool.new.state) c.self.view_is
      (making_in_without_key g.F.Format.layout (MeansLayout number (g.F.Format.layout c.args.format)) c.self.inside.state c.pool.new.state
      (call.Pool c.args.name c.args.kind number) c.pool.result c.without_key.result c.without_key.ensures.value
      (pool_is_right g.F.Format.layout c.self.inside.state c.args.name c.args.kind c.args.format number c.pool.result c.pool.new.state
      c.pool.ensures));
  grains = subst (λ x. c.pool.new.state.segs.grains ≡ x.segs.grains) c.self.view_is (pool_grains_stay c.pool.ensures);
  keys = subst (λ x. c.pool.new.state.names.keys ≡ x.names.keys) c.self.view_is
      (making c.pool.ensures (λ key x makes. makes.names.keys));
}
