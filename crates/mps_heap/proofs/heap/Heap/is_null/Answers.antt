use Rattle.std.proofs.Common.{subst, []}
use Rattle.mps_model.specs.declared.call.Call.TheVariants as call
use Rattle.mps_refinement.specs.Answering.{answer_to, says_bool}
use Rattle.mps_refinement.specs.RightStep.{IsRight}
use Rattle.mps_refinement.proofs.Calls.Slots.{is_null_right}
use Rattle.mps_heap.proofs.heap.Heap.is_null.Goals as goal

pub returns : goal.returns
returns g c = record {
  right = subst (λ h. IsRight g.F.Format.layout h (call.Null c.args.slot) [] (answer_to says_bool c.is_null.result) h) c.self.view_is
      (is_null_right g.F.Format.layout c.self.inside.state c.args.slot c.is_null.result c.is_null.ensures);
}
