use Rattle.std.proofs.Common.{subst, []}
use Rattle.mps_model.specs.declared.call.Call.TheVariants as call
use Rattle.mps_refinement.specs.Answering.{answer_to, says_bool}
use Rattle.mps_refinement.specs.RightStep.{IsRight}
use Rattle.mps_refinement.proofs.Calls.Slots.{are_same_right}
use Rattle.mps_heap.proofs.heap.Heap.same.Goals as goal

pub returns : goal.returns
returns g c = record {
  right = subst (λ h. IsRight g.F.Format.layout h (call.Same c.args.slot c.args.other) [] (answer_to says_bool c.same.result) h)
      c.self.view_is
      (are_same_right g.F.Format.layout c.self.inside.state c.args.slot c.args.other c.same.result c.same.ensures);
}
