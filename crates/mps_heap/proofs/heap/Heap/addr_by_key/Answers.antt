use Rattle.std.proofs.Common.{subst, sym, []}
use Rattle.mps_model.specs.declared.call.Call.TheVariants as call
use Rattle.mps_heap_spec.specs.Keyed.{keyed_slot}
use Rattle.mps_refinement.specs.Answering.{answer_to}
use Rattle.mps_refinement.specs.RightStep.{IsRight}
use Rattle.mps_refinement.proofs.Calls.Objects.{address_right}
use Rattle.mps_heap.specs.Answers.{says_address}
use Rattle.mps_heap.proofs.ByKeys.{good, read}
use Rattle.mps_heap.proofs.Results.{address_is_said}
use Rattle.mps_heap.proofs.heap.Heap.addr_by_key.Goals as goal

pub returns : goal.returns
returns g c =
    let h = c.self.inside.state in
    let at = c.in_ok-at.at.slot in
    record {
      right = read g.F.Format.layout c.self.view_is (λ k. keyed_slot k c.args.slot) c.in_ok-at.ensures.good (λ s. call.Address s)
          (answer_to says_address c.as_address.result)
          (subst (λ a. IsRight g.F.Format.layout h (call.Address at) [] a h)
          (sym (address_is_said g.F.Format.layout c.addr.result c.as_address.result c.as_address.ensures.same))
          (address_right g.F.Format.layout h at c.addr.result c.addr.ensures));
      stale = good g.F.Format.layout c.self.view_is (λ k. keyed_slot k c.args.slot) c.in_ok-at.ensures.good _;
    }
