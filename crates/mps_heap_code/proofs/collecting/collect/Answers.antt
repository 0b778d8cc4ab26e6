use Rattle.std.proofs.Common.{rules}
use Rattle.mps_heap_spec.proofs.Following.{then_followed}
use Rattle.mps_heap_code.proofs.Collected.{can_pools, collected}
use Rattle.mps_heap_code.proofs.collecting.collect.Goals as goal

pub collect-requires-clause-can : goal.collect-requires-clause-can
collect-requires-clause-can g c =
    can_pools g.F.Format.layout c.args.state.now c.args.trail.now _ c.most_units-most.result c.state.view_is (search rules) c.requires.can

pub returns : goal.returns
returns g c = record {
  collected = then_followed _
      (collected g.F.Format.layout c.args.state.now c.args.trail.now _ _ c.collect.new.trail c.most_units-most.result
      c.state.view_is (search rules) c.collect.ensures.collected (search rules)) (search rules) c.follow.ensures;
}
