use Rattle.mps_model.specs.declared.call.Call.TheVariants as call
use Rattle.mps_heap_spec.specs.Keyed.{keyed_slots}
use Rattle.mps_heap_spec.proofs.ByKeys.{both_good}
use Rattle.mps_refinement.specs.Answering.{answer_to, says_bool}
use Rattle.mps_refinement.proofs.Calls.Slots.{are_same_right}
use Rattle.mps_heap.proofs.ByKeys.{good, read}
use Rattle.mps_heap.proofs.heap.Heap.same_by_key.Goals as goal

pub returns : goal.returns
returns g c = record {
  right = read g.F.Format.layout c.self.view_is (λ k. keyed_slots k c.args.slot c.args.other) (both_good c.in_ok-at.ensures.good
      c.in_ok-other_at.ensures.good) (λ at. call.Same at.0 at.1)
      (answer_to says_bool c.same.result)
      (are_same_right g.F.Format.layout c.self.inside.state c.in_ok-at.at.slot c.in_ok-other_at.other_at.slot c.same.result c.same.ensures);
  stale = good g.F.Format.layout c.self.view_is (λ k. keyed_slots k c.args.slot c.args.other) (both_good c.in_ok-at.ensures.good
      c.in_ok-other_at.ensures.good) _;
}
