use Rattle.mps_model.specs.declared.call.Call.TheVariants as call
use Rattle.mps_heap_spec.specs.Keyed.{keyed_word}
use Rattle.mps_refinement.specs.Answering.{answer_to, says_word}
use Rattle.mps_refinement.proofs.Calls.Areas.{peeked_right}
use Rattle.mps_heap.proofs.ByKeys.{good, read}
use Rattle.mps_heap.proofs.heap.Heap.peek_by_key.Goals as goal

pub returns : goal.returns
returns g c = record {
  right = read g.F.Format.layout c.self.view_is (λ k. keyed_word k c.args.place) c.in_ok-at.ensures.good (λ at. call.Peek at)
      (answer_to says_word c.peek.result)
      (peeked_right g.F.Format.layout c.self.inside.state c.in_ok-at.at.slot c.peek.result c.peek.ensures);
  stale = good g.F.Format.layout c.self.view_is (λ k. keyed_word k c.args.place) c.in_ok-at.ensures.good _;
}
