use Rattle.std.proofs.Common.{subst, []}
use Rattle.mps_model.specs.declared.call.Call.TheVariants as call
use Rattle.mps_refinement.specs.Answering.{answer_to, says_head}
use Rattle.mps_refinement.specs.RightStep.{IsRight}
use Rattle.mps_refinement.proofs.Calls.Objects.{head_right}
use Rattle.mps_heap.proofs.heap.Heap.head.Goals as goal

pub returns : goal.returns
returns g c = record {
  right = subst (λ h. IsRight g.F.Format.layout h (call.Head c.args.slot) [] (answer_to says_head c.head.result) h) c.self.view_is
      (head_right g.F.Format.layout c.self.inside.state c.args.slot c.head.result c.head.ensures);
}
