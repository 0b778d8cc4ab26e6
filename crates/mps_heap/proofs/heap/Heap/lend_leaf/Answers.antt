use Rattle.std.proofs.Common.{map, subst, Ok, Err}
use Rattle.std.specs.Prelude.{MatchResult}
use Rattle.mps_model.specs.Graph.{NumberCell}
use Rattle.mps_heap.specs.Lending.{ComesTo, cells_of_leaf}
use Rattle.mps_heap.proofs.Lending.{leaf_or_refused}
use Rattle.mps_heap.proofs.heap.Heap.lend_leaf.Goals as goal

pub returns : goal.returns
returns g c = record {
  right =
      subst
      (λ h. MatchResult c.lend_leaf.result
      (λ words. ComesTo g.F.Format.layout h (λ w. cells_of_leaf w c.args.slot) (Ok (map NumberCell words.now)))
      (λ why. ComesTo g.F.Format.layout h (λ w. cells_of_leaf w c.args.slot) (Err why)))
      c.self.view_is
      (leaf_or_refused g.F.Format.layout c.self.inside.state c.args.slot c.lend_leaf.result c.lend_leaf.ensures);
}
