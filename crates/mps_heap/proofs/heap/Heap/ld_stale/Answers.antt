use Rattle.std.proofs.Common.{subst, []}
use Rattle.mps_model.specs.declared.call.Call.TheVariants as call
use Rattle.mps_refinement.specs.Answering.{answer_to, says_bool}
use Rattle.mps_refinement.specs.RightStep.{IsRight}
use Rattle.mps_refinement.proofs.Calls.Dependencies.{dependency_stale_is_right}
use Rattle.mps_heap.proofs.heap.Heap.ld_stale.Goals as goal

pub returns : goal.returns
returns g c = record {
  right = subst (λ h. IsRight g.F.Format.layout h (call.DependencyStale c.args.name) [] (answer_to says_bool c.ld_stale.result) h)
      c.self.view_is
      (dependency_stale_is_right g.F.Format.layout c.self.inside.state c.args.name c.ld_stale.result c.ld_stale.ensures);
}
