use Rattle.std.proofs.Common.{subst, []}
use Rattle.mps_model.specs.declared.call.Call.TheVariants as call
use Rattle.mps_refinement.specs.Answering.{answer_to, says_number}
use Rattle.mps_refinement.specs.RightStep.{IsRight}
use Rattle.mps_refinement.proofs.Lookups.BlockWords.{load_is_right}
use Rattle.mps_heap.proofs.heap.Heap.load.Goals as goal

pub returns : goal.returns
returns g c = record {
  right = subst (λ h. IsRight g.F.Format.layout h (call.Load c.args.place c.args.word) [] (answer_to says_number c.load.result) h)
      c.self.view_is
      (load_is_right g.F.Format.layout c.self.inside.state c.args.place c.args.word c.load.result c.load.ensures);
}
