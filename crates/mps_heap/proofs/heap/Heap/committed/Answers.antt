use Rattle.std.proofs.Common.{subst, []}
use Rattle.mps_model.specs.declared.call.Call.TheVariants as call
use Rattle.mps_refinement.specs.Answering.{says_number}
use Rattle.mps_refinement.specs.RightStep.{IsRight}
use Rattle.mps_refinement.proofs.Calls.ArenaCalls.{committed_is_right}
use Rattle.mps_heap.proofs.heap.Heap.committed.Goals as goal

pub returns : goal.returns
returns g c = record {
  right = subst (λ h. IsRight g.F.Format.layout h call.Committed [] (says_number c.committed.result) h) c.self.view_is
      (committed_is_right g.F.Format.layout c.self.inside.state c.committed.result c.committed.ensures);
}
