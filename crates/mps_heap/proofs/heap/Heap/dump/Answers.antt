use Rattle.std.proofs.Common.{subst, []}
use Rattle.std.specs.Prelude.{IfOk}
use Rattle.mps_model.specs.declared.call.Call.TheVariants as call
use Rattle.mps_refinement.specs.Answering.{answer_to}
use Rattle.mps_refinement.specs.RightStep.{IsRight}
use Rattle.mps_heap.specs.Answers.{says_words}
use Rattle.mps_refinement.specs.InWorlds.{SaysLength}
use Rattle.mps_heap.proofs.Results.{dump_is_right_of, says_length_of}
use Rattle.mps_heap.proofs.heap.Heap.dump.Goals as goal

pub returns : goal.returns
returns g c = record {
  right = subst
      (λ h. IsRight g.F.Format.layout h (call.Dump c.args.at.0) [] (answer_to (says_words h.segs.words c.args.at) c.dump.result) h)
      c.self.view_is
      (dump_is_right_of g.F.Format.layout c.self.inside.state c.args.at c.dump.result c.dump.ensures);
  image = subst (λ h. IfOk c.dump.result (λ words. SaysLength g.F.Format.layout h c.args.at.0 words)) c.self.view_is
      (says_length_of g.F.Format.layout c.self.inside.state c.args.at c.dump.result c.dump.ensures);
}
