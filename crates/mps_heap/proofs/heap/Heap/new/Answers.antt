use Rattle.std.proofs.Common.{◌≡◌, refl, subst, sym}
use Rattle.mps_refinement.proofs.Worlds.Staying.{new_stays}
use Rattle.mps_heap.proofs.NewHeaps.{is_new_heap}
use Rattle.mps_heap.proofs.heap.Heap.new.Goals as goal

pub invariant_of-result : goal.invariant_of-result
invariant_of-result g c =
    new_stays g.F.Format.layout c.args.grains c.args.limit c.in_ok-state.state
    (is_new_heap g.F.Format.layout c.args.grains c.args.limit c.in_ok-state.state c.requires.nonzero c.requires.at_most
    c.in_ok-state.ensures.state c.in_ok-state.ensures.names c.in_ok-state.ensures.counts)

pub returns : goal.returns
returns g c = record {
  right = is_new_heap g.F.Format.layout c.args.grains c.args.limit c.in_ok-state.state c.requires.nonzero c.requires.at_most
      c.in_ok-state.ensures.state c.in_ok-state.ensures.names c.in_ok-state.ensures.counts;
  grains = subst (λ h. h.segs.grains ≡ c.args.grains) (sym c.in_ok-state.ensures.state) refl;
}
