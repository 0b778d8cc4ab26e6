use Rattle.mps_model.specs.declared.call.Call.TheVariants as call
use Rattle.mps_heap_spec.specs.Keyed.{keyed_slot}
use Rattle.mps_refinement.specs.Answering.{answer_to, says_number}
use Rattle.mps_refinement.proofs.Calls.Objects.{number_right}
use Rattle.mps_heap.proofs.ByKeys.{good, read}
use Rattle.mps_heap.proofs.heap.Heap.num_by_key.Goals as goal

pub returns : goal.returns
returns g c = record {
  right = read g.F.Format.layout c.self.view_is (λ k. keyed_slot k c.args.slot) c.in_ok-at.ensures.good (λ at. call.Number at c.args.cell)
      (answer_to says_number c.num.result)
      (number_right g.F.Format.layout c.self.inside.state c.in_ok-at.at.slot c.args.cell c.num.result c.num.ensures);
  stale = good g.F.Format.layout c.self.view_is (λ k. keyed_slot k c.args.slot) c.in_ok-at.ensures.good _;
}
