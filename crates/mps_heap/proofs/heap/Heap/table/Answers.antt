use Rattle.std.proofs.Common.{subst, ◌≡◌, refl}
use Rattle.mps_model.specs.declared.call.Call.TheVariants as call
use Rattle.mps_refinement.specs.Making.{IsRightMaking}
use Rattle.mps_refinement.proofs.Calls.MakingRoots.{table_is_right}
use Rattle.mps_refinement.proofs.Worlds.Staying.{making_stays}
use Rattle.mps_heap.proofs.Grains.{making_grains_stay}
use Rattle.mps_heap.proofs.Results.{making_without_key}
use Rattle.mps_heap_spec.proofs.KeysStay.{making}
use Rattle.mps_heap.proofs.heap.Heap.table.Goals as goal

pub invariant_of-self : goal.invariant_of-self
invariant_of-self g c =
    making_stays g.F.Format.layout c.self.inside.state c.table.new.state (call.Table c.args.name c.args.n) c.table.result c.self.invariant
    (table_is_right g.F.Format.layout c.self.inside.state c.args.name c.args.n c.table.result c.table.new.state c.table.ensures)

pub returns : goal.returns
returns g c = record {
  right = subst (λ h. IsRightMaking g.F.Format.layout h (call.Table c.args.name c.args.n) c.without_key.result c.table.new.state)
      c.self.view_is
      (making_without_key g.F.Format.layout c.self.inside.state c.table.new.state (call.Table c.args.name c.args.n) c.table.result
      c.without_key.result
      c.without_key.ensures.value
      (table_is_right g.F.Format.layout c.self.inside.state c.args.name c.args.n c.table.result c.table.new.state c.table.ensures));
  grains = subst (λ x. c.table.new.state.segs.grains ≡ x.segs.grains) c.self.view_is
      (making_grains_stay g.F.Format.layout c.self.inside.state c.table.new.state (call.Table c.args.name c.args.n) c.without_key.result
      c.self.invariant (making_without_key g.F.Format.layout c.self.inside.state c.table.new.state (call.Table c.args.name c.args.n)
      c.table.result c.without_key.result c.without_key.ensures.value (table_is_right g.F.Format.layout c.self.inside.state c.args.name
      c.args.n c.table.result c.table.new.state c.table.ensures)) refl);
  keys = subst (λ x. c.table.new.state.names.keys ≡ x.names.keys) c.self.view_is
      (making c.table.ensures (λ key x makes. makes.names.keys));
}
