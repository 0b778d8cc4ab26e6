use Rattle.std.proofs.Common.{[], refl}
use Rattle.mps_model.specs.declared.call.Call.TheVariants as call
use Rattle.mps_heap_spec.specs.Keyed.{keyed_slots}
use Rattle.mps_heap_spec.proofs.ByKeys.{both_good}
use Rattle.mps_refinement.specs.Answering.{answer_to, says_ok}
use Rattle.mps_refinement.proofs.Calls.Slots.{copied_right}
use Rattle.mps_refinement.proofs.Worlds.Staying.{stays}
use Rattle.mps_heap_spec.proofs.NamesStay.{keys_stay, copies}
use Rattle.mps_heap.proofs.ByKeys.{good, grains, same_keys, written}
use Rattle.mps_heap.proofs.heap.Heap.copy_by_key.Goals as goal

pub invariant_of-self : goal.invariant_of-self
invariant_of-self g c =
    stays g.F.Format.layout c.self.inside.state c.copy.new.state (call.Copy c.in_ok-into.into.slot c.in_ok-from.from.slot) []
    (answer_to says_ok c.copy.result) c.self.invariant
    (copied_right g.F.Format.layout c.self.inside.state c.in_ok-into.into.slot c.in_ok-from.from.slot c.copy.result c.copy.new.state
    c.copy.ensures)

pub returns : goal.returns
returns g c =
    let right = copied_right g.F.Format.layout c.self.inside.state c.in_ok-into.into.slot c.in_ok-from.from.slot c.copy.result
    c.copy.new.state c.copy.ensures in
    record {
      right = written g.F.Format.layout c.self.view_is (λ k. keyed_slots k c.args.target c.args.source)
          (both_good c.in_ok-into.ensures.good c.in_ok-from.ensures.good) (λ at. call.Copy at.0 at.1)
          (answer_to says_ok c.copy.result) c.copy.new.state right;
      stale = good g.F.Format.layout c.self.view_is (λ k. keyed_slots k c.args.target c.args.source) (both_good c.in_ok-into.ensures.good
          c.in_ok-from.ensures.good) _;
      grains = grains g.F.Format.layout c.self.view_is (λ k. keyed_slots k c.args.target c.args.source)
          (both_good c.in_ok-into.ensures.good c.in_ok-from.ensures.good) (λ at. call.Copy at.0 at.1)
          (answer_to says_ok c.copy.result) [] c.copy.new.state c.self.invariant right refl;
      keys = same_keys c.self.view_is c.copy.new.state (keys_stay c.self.inside.state _ c.copy.ensures
          (copies c.self.inside.state c.in_ok-into.into.slot c.in_ok-from.from.slot));
    }
