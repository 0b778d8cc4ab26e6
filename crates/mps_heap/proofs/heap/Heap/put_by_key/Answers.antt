use Rattle.std.proofs.Common.{[], refl}
use Rattle.mps_model.specs.declared.call.Call.TheVariants as call
use Rattle.mps_heap_spec.specs.Keyed.{keyed_slots}
use Rattle.mps_heap_spec.proofs.ByKeys.{both_good}
use Rattle.mps_refinement.specs.Answering.{answer_to, says_ok}
use Rattle.mps_refinement.proofs.Calls.Objects.{reference_put_right}
use Rattle.mps_refinement.proofs.Worlds.Staying.{stays}
use Rattle.mps_heap_spec.proofs.NamesStay.{keys_stay, puts}
use Rattle.mps_heap.proofs.ByKeys.{good, grains, same_keys, written}
use Rattle.mps_heap.proofs.heap.Heap.put_by_key.Goals as goal

pub invariant_of-self : goal.invariant_of-self
invariant_of-self g c =
    stays g.F.Format.layout c.self.inside.state c.put.new.state (call.Put c.in_ok-into.into.slot c.args.cell c.in_ok-from.from.slot) []
    (answer_to says_ok c.put.result) c.self.invariant
    (reference_put_right g.F.Format.layout c.self.inside.state c.in_ok-into.into.slot c.args.cell c.in_ok-from.from.slot c.put.result
    c.put.new.state c.put.ensures)

pub returns : goal.returns
returns g c =
    let right = reference_put_right g.F.Format.layout c.self.inside.state c.in_ok-into.into.slot c.args.cell c.in_ok-from.from.slot
    c.put.result c.put.new.state c.put.ensures in
    record {
      right = written g.F.Format.layout c.self.view_is (λ k. keyed_slots k c.args.target c.args.source)
          (both_good c.in_ok-into.ensures.good c.in_ok-from.ensures.good) (λ at. call.Put at.0 c.args.cell at.1)
          (answer_to says_ok c.put.result) c.put.new.state right;
      stale = good g.F.Format.layout c.self.view_is (λ k. keyed_slots k c.args.target c.args.source) (both_good c.in_ok-into.ensures.good
          c.in_ok-from.ensures.good) _;
      grains = grains g.F.Format.layout c.self.view_is (λ k. keyed_slots k c.args.target c.args.source)
          (both_good c.in_ok-into.ensures.good c.in_ok-from.ensures.good) (λ at. call.Put at.0 c.args.cell at.1)
          (answer_to says_ok c.put.result) [] c.put.new.state c.self.invariant right refl;
      keys = same_keys c.self.view_is c.put.new.state (keys_stay c.self.inside.state _ c.put.ensures (puts c.self.inside.state
          g.F.Format.layout c.in_ok-into.into.slot c.args.cell c.in_ok-from.from.slot));
    }
