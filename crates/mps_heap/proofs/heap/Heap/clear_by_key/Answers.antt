use Rattle.std.proofs.Common.{[], refl}
use Rattle.mps_model.specs.declared.call.Call.TheVariants as call
use Rattle.mps_heap_spec.specs.Keyed.{keyed_slot}
use Rattle.mps_refinement.specs.Answering.{answer_to, says_ok}
use Rattle.mps_refinement.proofs.Calls.Slots.{cleared_right}
use Rattle.mps_refinement.proofs.Worlds.Staying.{stays}
use Rattle.mps_heap_spec.proofs.NamesStay.{keys_stay, clears}
use Rattle.mps_heap.proofs.ByKeys.{good, grains, same_keys, written}
use Rattle.mps_heap.proofs.heap.Heap.clear_by_key.Goals as goal

pub invariant_of-self : goal.invariant_of-self
invariant_of-self g c =
    stays g.F.Format.layout c.self.inside.state c.clear.new.state (call.Clear c.in_ok-at.at.slot) [] (answer_to says_ok c.clear.result)
    c.self.invariant
    (cleared_right g.F.Format.layout c.self.inside.state c.in_ok-at.at.slot c.clear.result c.clear.new.state c.clear.ensures)

pub returns : goal.returns
returns g c =
    let right = cleared_right g.F.Format.layout c.self.inside.state c.in_ok-at.at.slot c.clear.result c.clear.new.state c.clear.ensures in
    record {
      right = written g.F.Format.layout c.self.view_is (λ k. keyed_slot k c.args.slot) c.in_ok-at.ensures.good (λ at. call.Clear at)
          (answer_to says_ok c.clear.result) c.clear.new.state right;
      stale = good g.F.Format.layout c.self.view_is (λ k. keyed_slot k c.args.slot) c.in_ok-at.ensures.good _;
      grains = grains g.F.Format.layout c.self.view_is (λ k. keyed_slot k c.args.slot) c.in_ok-at.ensures.good (λ at. call.Clear at)
          (answer_to says_ok c.clear.result) [] c.clear.new.state c.self.invariant right refl;
      keys = same_keys c.self.view_is c.clear.new.state (keys_stay c.self.inside.state _ c.clear.ensures
          (clears c.self.inside.state c.in_ok-at.at.slot));
    }
