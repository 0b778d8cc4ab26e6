use Rattle.std.proofs.Common.{◌≡◌, subst}
use Rattle.std.specs.Fn.{FnOnceReturnsAtMut}
use Rattle.std.specs.Prelude.{MatchResult}
use Rattle.mps_heap.specs.Lending.{IsBorrowedAndWritten, IsNotBorrowed}
use Rattle.mps_heap.proofs.Lending.{written_or_refused, written_or_refused_grains, written_or_refused_stays, written_or_refused_keys}
use Rattle.mps_heap.proofs.heap.Heap.lend_mut.Goals as goal

pub invariant_of-self : goal.invariant_of-self
invariant_of-self g c =
    written_or_refused_stays g.F.Format.layout c.self.inside.state c.args.place
    (λ r words left. FnOnceReturnsAtMut g.W.FnOnce c.args.write words r left) c.lend_mut.new.state c.lend_mut.result c.lend_mut.ensures
    c.self.invariant

pub returns : goal.returns
returns g c = record {
  right =
      subst
      (λ h. MatchResult c.lend_mut.result
      (λ r. IsBorrowedAndWritten g.F.Format.layout h c.args.place (λ words left. FnOnceReturnsAtMut g.W.FnOnce c.args.write words r left)
      c.lend_mut.new.state)
      (λ why. IsNotBorrowed g.F.Format.layout h c.args.place why c.lend_mut.new.state))
      c.self.view_is
      (written_or_refused g.F.Format.layout c.self.inside.state c.args.place
      (λ r words left. FnOnceReturnsAtMut g.W.FnOnce c.args.write words r left) c.lend_mut.new.state c.lend_mut.result
      c.lend_mut.ensures);
  grains = subst (λ x. c.lend_mut.new.state.segs.grains ≡ x.segs.grains) c.self.view_is
      (written_or_refused_grains g.F.Format.layout c.self.inside.state c.args.place
      (λ r words left. FnOnceReturnsAtMut g.W.FnOnce c.args.write words r left) c.lend_mut.new.state c.lend_mut.result
      c.lend_mut.ensures c.self.invariant);
  keys = subst (λ x. c.lend_mut.new.state.names.keys ≡ x.names.keys) c.self.view_is
      (written_or_refused_keys g.F.Format.layout c.self.inside.state c.args.place
      (λ r words left. FnOnceReturnsAtMut g.W.FnOnce c.args.write words r left) c.lend_mut.new.state c.lend_mut.result c.lend_mut.ensures);
}
