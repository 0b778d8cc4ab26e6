use Rattle.std.proofs.Common.{subst, []}
use Rattle.mps_model.specs.declared.call.Call.TheVariants as call
use Rattle.mps_refinement.specs.Answering.{says_pair}
use Rattle.mps_refinement.specs.RightStep.{IsRight}
use Rattle.mps_refinement.proofs.Calls.LiveBlocks.{live_is_right}
use Rattle.mps_heap.proofs.heap.Heap.live.Goals as goal

pub returns : goal.returns
returns g c = record {
  right = subst (λ h. IsRight g.F.Format.layout h call.Live [] (says_pair c.live.result) h) c.self.view_is
      (live_is_right g.F.Format.layout c.self.inside.state c.live.result c.live.ensures);
}
