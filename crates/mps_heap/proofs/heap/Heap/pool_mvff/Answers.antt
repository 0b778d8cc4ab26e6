use Rattle.std.proofs.Common.{subst, ◌≡◌, refl}
use Rattle.mps_model.specs.declared.call.Call.TheVariants as call
use Rattle.mps_refinement.specs.Making.{IsRightMaking}
use Rattle.mps_refinement.proofs.Calls.MakingPools.{pool_mvff_is_right}
use Rattle.mps_refinement.proofs.Worlds.Staying.{making_stays}
use Rattle.mps_heap.proofs.Grains.{making_grains_stay}
use Rattle.mps_heap.proofs.Results.{making_without_key}
use Rattle.mps_heap_spec.proofs.KeysStay.{making}
use Rattle.mps_heap.proofs.heap.Heap.pool_mvff.Goals as goal

pub invariant_of-self : goal.invariant_of-self
invariant_of-self g c =
    making_stays g.F.Format.layout c.self.inside.state c.pool_mvff.new.state (call.PoolMvff c.args.name) c.pool_mvff.result
    c.self.invariant
    (pool_mvff_is_right g.F.Format.layout c.self.inside.state c.args.name c.pool_mvff.result c.pool_mvff.new.state c.pool_mvff.ensures)

pub returns : goal.returns
returns g c = record {
  right = subst (λ h. IsRightMaking g.F.Format.layout h (call.PoolMvff c.args.name) c.without_key.result c.pool_mvff.new.state)
      c.self.view_is
      (making_without_key g.F.Format.layout c.self.inside.state c.pool_mvff.new.state (call.PoolMvff c.args.name) c.pool_mvff.result
      c.without_key.result
      c.without_key.ensures.value
      (pool_mvff_is_right g.F.Format.layout c.self.inside.state c.args.name c.pool_mvff.result c.pool_mvff.new.state c.pool_mvff.ensures));
  grains = subst (λ x. c.pool_mvff.new.state.segs.grains ≡ x.segs.grains) c.self.view_is
      (making_grains_stay g.F.Format.layout c.self.inside.state c.pool_mvff.new.state (call.PoolMvff c.args.name) c.without_key.result
      c.self.invariant (making_without_key g.F.Format.layout c.self.inside.state c.pool_mvff.new.state (call.PoolMvff c.args.name)
      c.pool_mvff.result c.without_key.result c.without_key.ensures.value (pool_mvff_is_right g.F.Format.layout c.self.inside.state
      c.args.name c.pool_mvff.result c.pool_mvff.new.state c.pool_mvff.ensures)) refl);
  keys = subst (λ x. c.pool_mvff.new.state.names.keys ≡ x.names.keys) c.self.view_is
      (making c.pool_mvff.ensures (λ key x makes. makes.names.keys));
}
