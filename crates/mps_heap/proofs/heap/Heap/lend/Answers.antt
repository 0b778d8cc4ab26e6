use Rattle.std.proofs.Common.{subst, Ok, Err}
use Rattle.std.specs.Prelude.{MatchResult}
use Rattle.mps_heap.specs.Lending.{ComesTo, words_of_block}
use Rattle.mps_heap.proofs.Lending.{borrowed_or_refused}
use Rattle.mps_heap.proofs.heap.Heap.lend.Goals as goal

pub returns : goal.returns
returns g c = record {
  right =
      subst
      (λ h. MatchResult c.lend.result (λ words. ComesTo g.F.Format.layout h (λ w. words_of_block w c.args.place) (Ok words.now))
      (λ why. ComesTo g.F.Format.layout h (λ w. words_of_block w c.args.place) (Err why)))
      c.self.view_is
      (borrowed_or_refused g.F.Format.layout c.self.inside.state c.args.place c.lend.result c.lend.ensures);
}
