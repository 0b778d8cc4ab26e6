use Rattle.std.proofs.Common.{◌≡◌}
use Rattle.mps_neighbours.specs.Transforms.{new_address}
use Rattle.mps_heap_spec.specs.Transforming.{CanTransformFrom, with_pools_applied, with_segs}
use Rattle.mps_heap_transforming.proofs.transforming.apply_to_pools.Given as goal

abbrev pub invariant-loop-pool : goal.invariant-loop-pool
invariant-loop-pool g l = record {
  state : l.state ≡ with_segs l.fn.state (with_pools_applied g.F.Format.layout (new_address l.fn.state.beside.transforms l.transform)
      l.fn.state.pools l.pool l.fn.state.segs);
  again : CanTransformFrom g.F.Format.layout l.state l.pool;
}
