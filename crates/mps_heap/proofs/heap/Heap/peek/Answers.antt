use Rattle.std.proofs.Common.{subst, []}
use Rattle.mps_model.specs.declared.call.Call.TheVariants as call
use Rattle.mps_refinement.specs.Answering.{answer_to, says_word}
use Rattle.mps_refinement.specs.RightStep.{IsRight}
use Rattle.mps_refinement.proofs.Calls.Areas.{peeked_right}
use Rattle.mps_heap.proofs.heap.Heap.peek.Goals as goal

pub returns : goal.returns
returns g c = record {
  right = subst (λ h. IsRight g.F.Format.layout h (call.Peek c.args.place) [] (answer_to says_word c.peek.result) h) c.self.view_is
      (peeked_right g.F.Format.layout c.self.inside.state c.args.place c.peek.result c.peek.ensures);
}
