use Rattle.std.proofs.Common.{◌∙◌, ap, subst, sym}
use Rattle.std.specs.Prelude.{slice_get}
use Rattle.mps_refinement.specs.InWorlds.{SaysWord}
use Rattle.mps_refinement.proofs.Calls.InWorlds.{says_word}
use Rattle.mps_heap.proofs.heap.Heap.word.Goals as goal

pub returns : goal.returns
returns g c = record {
  value = c.item.ensures ∙ ap (λ h. slice_get h.segs.words c.args.number) c.self.view_is;
  right = subst (λ h. SaysWord g.F.Format.layout h c.args.number c.item.result) c.self.view_is
      (subst (λ o. SaysWord g.F.Format.layout c.self.inside.state c.args.number o) (sym c.item.ensures)
      (says_word g.F.Format.layout c.self.inside.state c.args.number));
}
