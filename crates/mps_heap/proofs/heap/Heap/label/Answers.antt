use Rattle.std.proofs.Common.{subst, []}
use Rattle.mps_model.specs.declared.call.Call.TheVariants as call
use Rattle.mps_refinement.specs.Answering.{answer_to, says_labelled}
use Rattle.mps_refinement.specs.RightStep.{IsRight}
use Rattle.mps_refinement.proofs.Calls.Labelling.{label_is_right}
use Rattle.mps_heap.proofs.heap.Heap.label.Goals as goal

pub returns : goal.returns
returns g c = record {
  right = subst (λ h. IsRight g.F.Format.layout h (call.Label c.args.slot c.args.name) [] (answer_to says_labelled c.label.result) h)
      c.self.view_is
      (label_is_right g.F.Format.layout c.self.inside.state c.args.slot c.args.name c.label.result c.label.ensures);
}
