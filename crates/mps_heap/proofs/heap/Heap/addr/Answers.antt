use Rattle.std.proofs.Common.{subst, sym, []}
use Rattle.mps_model.specs.declared.call.Call.TheVariants as call
use Rattle.mps_refinement.specs.Answering.{answer_to}
use Rattle.mps_heap.specs.Answers.{says_address}
use Rattle.mps_refinement.specs.RightStep.{IsRight}
use Rattle.mps_refinement.proofs.Calls.Objects.{address_right}
use Rattle.mps_heap.proofs.Results.{address_is_said}
use Rattle.mps_heap.proofs.heap.Heap.addr.Goals as goal

pub returns : goal.returns
returns g c = record {
  right = subst (λ h. IsRight g.F.Format.layout h (call.Address c.args.slot) [] (answer_to says_address c.as_address.result) h)
      c.self.view_is
      (subst (λ a. IsRight g.F.Format.layout c.self.inside.state (call.Address c.args.slot) [] a c.self.inside.state) (sym
      (address_is_said g.F.Format.layout c.addr.result c.as_address.result c.as_address.ensures.same))
      (address_right g.F.Format.layout c.self.inside.state c.args.slot c.addr.result c.addr.ensures));
}
