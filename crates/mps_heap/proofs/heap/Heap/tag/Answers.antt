use Rattle.std.proofs.Common.{subst, []}
use Rattle.mps_model.specs.declared.call.Call.TheVariants as call
use Rattle.mps_refinement.specs.Answering.{answer_to, says_number}
use Rattle.mps_refinement.specs.RightStep.{IsRight}
use Rattle.mps_refinement.proofs.Calls.Objects.{tag_got_right}
use Rattle.mps_heap.proofs.heap.Heap.tag.Goals as goal

pub returns : goal.returns
returns g c = record {
  right = subst (λ h. IsRight g.F.Format.layout h (call.Tag c.args.slot c.args.cell) [] (answer_to says_number c.tag.result) h)
      c.self.view_is
      (tag_got_right g.F.Format.layout c.self.inside.state c.args.slot c.args.cell c.tag.result c.tag.ensures);
}
